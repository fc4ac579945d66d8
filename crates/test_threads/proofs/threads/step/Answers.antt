-- An Ok leaves threads that were asked one call more.
use Rattle.std.proofs.Common.{◌+◌, sym, subst}
use Rattle.sg_sched.specs.SchedObject.{sched_object}
use Rattle.test_threads.specs.Small.{AreSmall}
use Rattle.test_threads.proofs.Asked.{small_after}
use Rattle.test_threads.proofs.threads.step.Goals as goal

pub returns-in-len1-up : goal.returns-in-len1-up
returns-in-len1-up c =
    let done = c.in-Replied.ensures.outcome in
    subst (AreSmall (c.args.calls + 1)) (sym done.changed) (small_after c.args.calls (sched_object c.args.service.now) c.args.call.now c.in-Replied.reply c.requires.argument c.requires.small done.answered)

pub returns-in-Ok : goal.returns-in-Ok
returns-in-Ok c =
    let done = c.in-Replied.ensures.outcome in
    subst (AreSmall (c.args.calls + 1)) (sym done.changed) (small_after c.args.calls (sched_object c.args.service.now) c.args.call.now c.in-Replied.reply c.requires.argument c.requires.small done.answered)
