-- None of the clients so far can take a turn.
use Rattle.sg_sim.specs.Inside.Next.{NoneAfter}
use Rattle.sg_sim.proofs.play.Play.next_after.Given as goal

abbrev pub invariant-clients : goal.invariant-clients
invariant-clients g l = NoneAfter l.self l.behind l.before
