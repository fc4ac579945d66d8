-- None of the statements so far says a state.
use Rattle.std.proofs.Common.{◌≡◌, drop}
use Rattle.sg_shape.specs.ShapeOfText.{state_of}
use Rattle.sg_shape.proofs.funs.state_of.Given as goal

abbrev pub invariant-statements : goal.invariant-statements
invariant-statements l = state_of l.fun (drop l.statement-index l.statements) ≡ state_of l.fun l.statements
