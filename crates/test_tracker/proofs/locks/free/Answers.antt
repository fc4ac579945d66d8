-- The call may be tracked.
use Rattle.test_tracker.proofs.Carried.{carried}
use Rattle.test_tracker.proofs.LockCalls.{may_free}
use Rattle.test_tracker.proofs.locks.free.Goals as goal

pub track-requires : goal.track-requires
track-requires c = carried c.args.tracker.now c.requires c.in_ok-call.ensures c.done.ensures (may_free c.args.tracker.now c.args.client c.args.id)
