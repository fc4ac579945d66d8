-- The call may be tracked.
use Rattle.std.proofs.Common.{◌∙◌, ap, sym, arith, is_some}
use Rattle.sg_track.proofs.KeptLists.{live_if}
use Rattle.test_tracker.proofs.Carried.{carried}
use Rattle.test_tracker.proofs.PageCalls.{may_alias}
use Rattle.test_tracker.proofs.pages.alias.Goals as goal

pub track-requires : goal.track-requires
track-requires c =
    let live = sym (live_if c.args.tracker.now.rows c.args.parent) ∙ ap is_some (sym c.in-Some.ensures) in
    carried c.args.tracker.now c.requires.pages c.in_ok-call.ensures c.done.ensures
    (may_alias c.args.tracker.now 9 c.args.parent c.args.space c.args.addr c.args.id (omega arith) (omega arith) c.requires.room c.requires.next live)
