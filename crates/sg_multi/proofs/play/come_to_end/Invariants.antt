-- The play keeps what it keeps, and its members stay.
use Rattle.sg_multi.specs.Inside.Turns.{KeepsRunning, SameMembers}
use Rattle.sg_multi.proofs.play.come_to_end.Given as goal

abbrev pub invariant-turns : goal.invariant-turns
invariant-turns g l = KeepsRunning l.script l.running × SameMembers l.fn.running.members l.running.members
