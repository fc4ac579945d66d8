-- An answer leaves timers that were asked one call more.
use Rattle.std.proofs.Common.{◌+◌, sym, subst}
use Rattle.sg_timer.specs.TimerObject.{timer_object}
use Rattle.test_timers.specs.Small.{AreSmall}
use Rattle.test_timers.proofs.Asked.{small_after, small_later}
use Rattle.test_timers.proofs.timers.step.Goals as goal

pub returns-in-len1-up : goal.returns-in-len1-up
returns-in-len1-up c =
    let done = c.in-Replied.ensures.outcome in
    subst (AreSmall (c.args.calls + 1)) (sym done.changed) (small_after c.args.calls (timer_object c.args.service.now) c.args.call.now c.in-Replied.reply c.requires.passes c.requires.small done.answered)

pub returns-in-Ok : goal.returns-in-Ok
returns-in-Ok c =
    let done = c.in-Replied.ensures.outcome in
    subst (AreSmall (c.args.calls + 1)) (sym done.changed) (small_after c.args.calls (timer_object c.args.service.now) c.args.call.now c.in-Replied.reply c.requires.passes c.requires.small done.answered)

pub returns-in-Blocks : goal.returns-in-Blocks
returns-in-Blocks c =
    let done = c.in-Blocks.ensures.outcome in
    subst (AreSmall (c.args.calls + 1)) (sym done.1.same) (small_later c.args.calls (timer_object c.args.service.now) c.requires.small)
