-- The first functions are printed.
use Rattle.std.proofs.Common.{◌≡◌, ◌++◌, take}
use Rattle.std.specs.List.{flat_map}
use Rattle.std.specs.Prelude.{codes}
use Rattle.std.specs.Fmt.{decimal}
use Rattle.sg_facts.specs.Words.{line_end}
use Rattle.sg_facts.specs.Facts.{fun_at}
use Rattle.sg_cost.proofs.text.push_funs.Given as goal

abbrev pub invariant-loop-cost : goal.invariant-loop-cost
invariant-loop-cost l = l.out ≡ l.initial.out ++ flat_map (λ c. codes "cost " ++ (fun_at l.iface.facts.funs c.fun).name ++ codes " " ++ decimal c.cost ++ line_end) (take l.cost-index l.costs)
