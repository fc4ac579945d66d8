-- As many calls as lines.
use Rattle.sg_timer.specs.TimerObject.{timer_object}
use Rattle.test_timers.specs.Small.{AreSmall}
use Rattle.test_timers.proofs.timers.play.Given as goal

abbrev pub invariant-table : goal.invariant-table
invariant-table g l = AreSmall l.calls (timer_object l.service)
