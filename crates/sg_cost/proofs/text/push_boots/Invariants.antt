-- The first boots are printed.
use Rattle.std.proofs.Common.{◌≡◌, ◌++◌, take}
use Rattle.sg_cost.specs.Lines.{boot_lines}
use Rattle.sg_cost.proofs.text.push_boots.Given as goal

abbrev pub invariant-boots : goal.invariant-boots
invariant-boots l = l.out ≡ l.initial.out ++ boot_lines 1 (take l.at l.costs)
