-- No client of the turns so far can take one.
use Rattle.sg_multi.specs.Inside.Turns.{NoneScheduled}
use Rattle.sg_multi.proofs.whose.next_scheduled.Given as goal

abbrev pub invariant-turns : goal.invariant-turns
invariant-turns g l = NoneScheduled l.script l.running l.at
