-- The call may be tracked.
use Rattle.test_tracker.proofs.Carried.{carried}
use Rattle.test_tracker.proofs.LockCalls.{may_make}
use Rattle.test_tracker.proofs.locks.make.Goals as goal

pub track-requires : goal.track-requires
track-requires c = carried c.args.tracker.now c.requires.locks c.in_ok-call.ensures c.done.ensures (may_make c.args.tracker.now c.args.client c.args.id c.requires.room c.requires.next)
