-- The lines of the first states.
use Rattle.sg_stub.specs.Inside.Lines.{AreBefore}
use Rattle.sg_stub.proofs.lines.add_states.Given as goal

abbrev pub invariant-states : goal.invariant-states
invariant-states l = AreBefore l.iface l.lines l.made l.state 0
