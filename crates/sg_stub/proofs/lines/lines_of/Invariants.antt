-- The lines of the first creations.
use Rattle.sg_stub.specs.Inside.Lines.{AreBefore}
use Rattle.sg_stub.proofs.lines.lines_of.Given as goal

abbrev pub invariant-made : goal.invariant-made
invariant-made l = AreBefore l.iface l.lines l.made 1 0
