-- The first items are printed.
use Rattle.std.proofs.Common.{◌≡◌, ◌++◌, take}
use Rattle.std.specs.List.{flat_map}
use Rattle.sg_report.specs.Report.{item_text}
use Rattle.sg_facts.specs.Words.{line_end}
use Rattle.sg_report.proofs.traced.push_items.Given as goal

abbrev pub invariant-items : goal.invariant-items
invariant-items l = l.out ≡ l.initial.out ++ flat_map (λ item. item_text l.iface.facts item.tag item.shown item.outcome ++ line_end) (take l.at l.items.items)
