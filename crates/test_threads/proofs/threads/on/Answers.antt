-- The thread is there, so the call may be asked.
use Rattle.std.proofs.Common.{◌≡◌, true, sym, subst, rules}
use Rattle.std.specs.Option.{option_copied, is_some}
use Rattle.test_asking.specs.sg_facts.Kinds.{MayAsk}
use Rattle.sg_sched.specs.sg_slots.Slots.{row_with}
use Rattle.sg_sched.specs.SchedFacts.{sched_facts}
use Rattle.sg_sched.specs.SchedObject.{sched_object}
use Rattle.sg_sched.specs.SchedRow.{thread_body}
use Rattle.test_threads.proofs.Asked.{may_call, live_where_lent, lent}
use Rattle.test_threads.proofs.threads.on.Goals as goal

pub step-requires-clause-may : goal.step-requires-clause-may
step-requires-clause-may g c =
    let o = sched_object c.args.service.now in
    let some : is_some c.thread.result ≡ true = search rules in
    let live = live_where_lent o.rows c.args.id (λ t. row_with c.args.id (thread_body t)) (option_copied c.thread.result) c.thread.ensures.row (lent c.thread.result some) in
    subst (MayAsk sched_facts o) (sym c.in_ok-call.ensures)
    (may_call c.args.calls o c.requires.few c.requires.small c.args.id live (c.thread.ensures.childless c.args.id (c.thread.ensures.id some)) c.args.fun c.requires.fun)
