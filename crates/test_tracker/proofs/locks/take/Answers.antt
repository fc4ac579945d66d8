-- The call may be tracked.
use Rattle.std.proofs.Common.{arith}
use Rattle.test_tracker.proofs.Carried.{carried}
use Rattle.test_tracker.proofs.LockCalls.{may_take}
use Rattle.test_tracker.proofs.locks.take.Goals as goal

pub track-requires : goal.track-requires
track-requires c = carried c.args.tracker.now c.requires c.in_ok-call.ensures c.done.ensures (may_take c.args.tracker.now c.args.client c.args.id (omega arith))
