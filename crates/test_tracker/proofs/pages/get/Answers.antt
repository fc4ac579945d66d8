-- The call may be tracked.
use Rattle.std.proofs.Common.{arith}
use Rattle.test_tracker.proofs.Carried.{carried}
use Rattle.test_tracker.proofs.PageCalls.{may_get}
use Rattle.test_tracker.proofs.pages.get.Goals as goal

pub track-requires : goal.track-requires
track-requires c = carried c.args.tracker.now c.requires.pages c.in_ok-call.ensures c.done.ensures (may_get c.args.tracker.now c.args.client c.args.addr c.args.id (omega arith) (omega arith) c.requires.room c.requires.next)
