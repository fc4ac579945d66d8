-- A line begins at the place, and no line of `%%` alone stands before it.
use Rattle.std.proofs.Common.{ℕ, ◌≤◌, ◌-◌, List, length, take}
use Rattle.sg_input.specs.Divider.{Divides}
use Rattle.sg_input.specs.Inside.Dividing.{AreLines}
use Rattle.sg_input.proofs.divider.cut.Given as goal

abbrev pub invariant-lines : goal.invariant-lines
invariant-lines l = (l.at ≤ length l.input) × AreLines (take l.at l.input) × ((before behind : List ℕ) → Divides l.input before behind → l.at ≤ length before)

abbrev pub decreases-lines : goal.decreases-lines
decreases-lines l = length l.input - l.at
