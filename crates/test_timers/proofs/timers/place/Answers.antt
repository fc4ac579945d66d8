-- The timer is there, so it may be placed.
use Rattle.std.proofs.Common.{◌≡◌, ◌≤◌, true, sym, subst, rules, arith}
use Rattle.std.specs.Option.{is_some}
use Rattle.test_asking.specs.sg_facts.Kinds.{MayAsk}
use Rattle.sg_timer.specs.TimerFacts.{timer_facts}
use Rattle.sg_timer.specs.TimerObject.{timer_object}
use Rattle.test_timers.proofs.Asked.{may_place, there_where_lent}
use Rattle.test_timers.proofs.timers.place.Goals as goal

pub ask-requires : goal.ask-requires
ask-requires g c =
    let o = timer_object c.args.service.now in
    let some : is_some c.timer.result ≡ true = search rules in
    let there = there_where_lent o.rows c.args.id c.timer.result c.timer.ensures.row some in
    let first : 1 ≤ 1 = omega arith in
    let last : 1 ≤ 64 = omega arith in
    subst (MayAsk timer_facts o) (sym c.in_ok-call.ensures)
    (may_place c.args.calls o c.requires.few c.requires.small 1 c.args.id first last there (c.timer.ensures.childless c.args.id (c.timer.ensures.id some)) c.args.due)
