-- A timer may be made where few are live.
use Rattle.std.proofs.Common.{sym, subst}
use Rattle.test_asking.specs.sg_facts.Kinds.{MayAsk}
use Rattle.test_asking.specs.sg_facts.Laws.{Passes}
use Rattle.sg_timer.specs.TimerFacts.{timer_facts}
use Rattle.sg_timer.specs.TimerObject.{timer_object}
use Rattle.test_timers.proofs.Asked.{may_make, passes_make}
use Rattle.test_timers.proofs.timers.make.Goals as goal

pub step-requires-clause-may : goal.step-requires-clause-may
step-requires-clause-may c =
    let o = timer_object c.args.service.now in
    subst (MayAsk timer_facts o) (sym c.in_ok-call.ensures) (may_make c.args.calls o c.requires.few c.requires.small c.args.period c.args.tag)

pub step-requires-clause-passes : goal.step-requires-clause-passes
step-requires-clause-passes c =
    let o = timer_object c.args.service.now in
    subst (Passes timer_facts o) (sym c.in_ok-call.ensures)
    (passes_make c.args.calls o c.requires.few c.requires.small c.args.period c.args.tag c.requires.period c.requires.tag c.requires.room)
