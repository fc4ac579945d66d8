-- The timer is there, so the call may be asked.
use Rattle.std.proofs.Common.{◌≡◌, true, sym, subst, rules}
use Rattle.std.specs.Option.{is_some}
use Rattle.test_asking.specs.sg_facts.Kinds.{MayAsk}
use Rattle.test_asking.specs.sg_facts.Laws.{Passes}
use Rattle.sg_timer.specs.TimerFacts.{timer_facts}
use Rattle.sg_timer.specs.TimerObject.{timer_object}
use Rattle.test_timers.proofs.Asked.{may_call, passes_on, there_where_lent}
use Rattle.test_timers.proofs.timers.on.Goals as goal

pub step-requires-clause-may : goal.step-requires-clause-may
step-requires-clause-may g c =
    let o = timer_object c.args.service.now in
    let some : is_some c.timer.result ≡ true = search rules in
    let there = there_where_lent o.rows c.args.id c.timer.result c.timer.ensures.row some in
    subst (MayAsk timer_facts o) (sym c.in_ok-call.ensures)
    (may_call c.args.calls o c.requires.few c.requires.small c.args.client c.args.id c.requires.first c.requires.last there (c.timer.ensures.childless c.args.id (c.timer.ensures.id some)) c.args.fun c.requires.fun)

pub step-requires-clause-passes : goal.step-requires-clause-passes
step-requires-clause-passes g c =
    let o = timer_object c.args.service.now in
    let some : is_some c.timer.result ≡ true = search rules in
    let there = there_where_lent o.rows c.args.id c.timer.result c.timer.ensures.row some in
    subst (Passes timer_facts o) (sym c.in_ok-call.ensures)
    (passes_on c.args.calls o c.requires.few c.requires.small c.args.client c.args.id c.requires.first c.requires.last there (c.timer.ensures.childless c.args.id (c.timer.ensures.id some)) c.args.fun c.requires.fun)
