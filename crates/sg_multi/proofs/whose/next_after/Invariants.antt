-- None of the clients so far can take a turn.
use Rattle.sg_multi.specs.Inside.Turns.{NoneAfter}
use Rattle.sg_multi.proofs.whose.next_after.Given as goal

abbrev pub invariant-clients : goal.invariant-clients
invariant-clients g l = NoneAfter l.script l.running l.behind l.before
