-- The first descriptors are printed.
use Rattle.std.proofs.Common.{◌≡◌, ◌++◌, take}
use Rattle.std.specs.List.{flat_map}
use Rattle.std.specs.Prelude.{codes}
use Rattle.std.specs.Fmt.{decimal}
use Rattle.sg_facts.specs.Words.{line_end}
use Rattle.sg_cost.proofs.text.push_rows.Given as goal

abbrev pub invariant-loop-cost : goal.invariant-loop-cost
invariant-loop-cost l = l.out ≡ l.initial.out ++ flat_map (λ c. codes "row " ++ decimal c.id ++ codes " walk " ++ decimal c.walk ++ line_end) (take l.cost-index l.costs)
