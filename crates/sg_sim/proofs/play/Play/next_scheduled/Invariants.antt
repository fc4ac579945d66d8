-- No client of the turns so far can take one.
use Rattle.sg_sim.specs.Inside.Next.{NoneScheduled}
use Rattle.sg_sim.proofs.play.Play.next_scheduled.Given as goal

abbrev pub invariant-turns : goal.invariant-turns
invariant-turns g l = NoneScheduled l.self l.at
