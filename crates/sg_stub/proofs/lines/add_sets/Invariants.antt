-- The lines of the first sets.
use Rattle.sg_stub.specs.Inside.Lines.{AreBefore}
use Rattle.sg_stub.proofs.lines.add_sets.Given as goal

abbrev pub invariant-sets : goal.invariant-sets
invariant-sets l = AreBefore l.iface l.lines l.made l.state l.number
