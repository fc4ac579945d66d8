-- The call may be tracked.
use Rattle.test_tracker.proofs.Carried.{carried}
use Rattle.test_tracker.proofs.PageCalls.{may_release}
use Rattle.test_tracker.proofs.pages.release.Goals as goal

pub track-requires : goal.track-requires
track-requires c = carried c.args.tracker.now c.requires c.in_ok-call.ensures c.done.ensures (may_release c.args.tracker.now 9 c.args.id)
