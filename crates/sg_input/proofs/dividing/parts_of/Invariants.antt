-- What is still to be divided goes on to the texts of the whole.
use Rattle.std.proofs.Common.{length, map}
use Rattle.sg_input.proofs.Divided.{GoesOn}
use Rattle.sg_input.proofs.dividing.parts_of.Given as goal

abbrev pub invariant-dividers : goal.invariant-dividers
invariant-dividers l = GoesOn l.input (map (λ t. t.now) l.interfaces.items) l.script

abbrev pub decreases-dividers : goal.decreases-dividers
decreases-dividers l = length l.script
