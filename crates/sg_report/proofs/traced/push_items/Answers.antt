-- One item more is printed.
use Rattle.std.proofs.Common.{◌++◌, ◌∙◌, ap, append_assoc}
use Rattle.sg_facts.specs.Lent.{item_in}
use Rattle.sg_facts.specs.Words.{line_end}
use Rattle.sg_facts.specs.declared.trace.Item.{Item}
use Rattle.sg_report.specs.Report.{item_text}
use Rattle.sg_report.proofs.Nexts.{flat_more}
use Rattle.sg_report.proofs.traced.push_items.Goals as goal

pub items-preserved : goal.items-preserved
items-preserved c =
    let facts = c.args.iface.now.facts in
    let item = item_in c.at.result in
    flat_more (λ (item : Item). item_text facts item.tag item.shown item.outcome ++ line_end) c.args.items.now.items c.items.at item c.args.out.now c.items.out
    c.extend_from_slice.new.self c.at.ensures c.items.invariant
    (c.in_ok-extend_from_slice.ensures.ok ∙ ap (λ l. l ++ line_end) c.in_ok-push_item.ensures
    ∙ append_assoc c.items.out (item_text facts item.tag item.shown item.outcome) line_end)
