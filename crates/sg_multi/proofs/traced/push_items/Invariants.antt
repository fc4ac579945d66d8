-- The first items are printed.
use Rattle.std.proofs.Common.{◌≡◌, ◌++◌, map, take}
use Rattle.std.specs.List.{flat_map}
use Rattle.sg_facts.specs.Words.{line_end}
use Rattle.sg_report.specs.Report.{item_text}
use Rattle.sg_multi.specs.Inside.Numbers.{number_by}
use Rattle.sg_multi.specs.Report.{renumbered_item}
use Rattle.sg_multi.proofs.traced.push_items.Given as goal

abbrev pub invariant-items : goal.invariant-items
invariant-items l = l.out ≡ l.initial.out
    ++ flat_map (λ item. item_text l.iface.facts item.tag item.shown item.outcome ++ line_end) (map (renumbered_item (number_by l.numbers l.member)) (take l.at l.items.items))
