-- As many calls as lines.
use Rattle.sg_sched.specs.SchedObject.{sched_object}
use Rattle.test_threads.specs.Small.{AreSmall}
use Rattle.test_threads.proofs.threads.play.Given as goal

abbrev pub invariant-table : goal.invariant-table
invariant-table g l = AreSmall l.calls (sched_object l.service)
