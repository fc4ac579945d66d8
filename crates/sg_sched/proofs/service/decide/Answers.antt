-- What is done with a call is right.
use Rattle.std.proofs.Common.{◌≡◌, ℕ, ◌≤◌, true, Some, List, refl, sym, ◌∙◌, ap, arith}
use Rattle.std.specs.Option.{is_some}
use Rattle.sg_facts.specs.sg_base.declared.value.Value.{Value}
use Rattle.sg_slots.specs.declared.decision.Decision.{Decision}
use Rattle.sg_slots.specs.declared.decision.Decision.TheVariants.{Remove}
use Rattle.sg_slots.specs.Decide.{Decides}
use Rattle.sg_slots.specs.Slots.{AreIds, Held, entry_at, rows_of}
use Rattle.sg_slots.proofs.Deciding.{by_fun}
use Rattle.sg_slots.proofs.Rows.{is_live-rows_of}
use Rattle.sg_sched.specs.declared.thread.Thread.{Thread}
use Rattle.sg_sched.specs.SchedFacts.{sched_facts}
use Rattle.sg_sched.specs.SchedTable.{sched_table, sched_parts, next_rank}
use Rattle.sg_sched.specs.SchedRow.{thread_body}
use Rattle.sg_sched.specs.Laws.SchedSoundLaw.{next_is_word}
use Rattle.sg_sched.specs.Inside.SchedDecision.{on_sleep, on_thread_wait, on_wakeup, on_yield}
use Rattle.sg_sched.proofs.Decisions.{yield_right, sleep_right, wake_right, wait_right, place_right, exit_right, on_thread}
use Rattle.sg_sched.proofs.service.decide.Goals.{In-Some}
use Rattle.sg_sched.proofs.service.decide.Goals as goal

-- the thread that a call names was found
module _ (c : In-Some) where
  abbrev held : Held Thread
  held = c.args.queue.now

  -- what is right for a function on any thread is right for a call of it on this one
  on_found : (fun : ℕ) (right : Thread → Decision Thread) (made : Decision Thread)
      → ((client seq desc : ℕ) (args : List Value) → AreIds 0 held.given held.entries → (t : Thread) → entry_at held.entries desc ≡ Some t
      → Decides sched_facts sched_table sched_parts thread_body held (record { client = client; seq = seq; fun = fun; desc = desc; args = args }) (right t))
      → c.args.call.now.fun ≡ fun → made ≡ right c.in-Some.thread.now → Decides sched_facts sched_table sched_parts thread_body held c.args.call.now made
  on_found fun right made is_right is same =
      let call = c.args.call.now in
      by_fun sched_facts sched_table sched_parts thread_body held call fun made (right c.in-Some.thread.now) is same
      (is_right call.client call.seq call.desc call.args c.get.ensures.ascending c.in-Some.thread.now (sym c.in-Some.ensures.entry))

pub create-requires : goal.create-requires
create-requires c = next_is_word (rows_of thread_body c.args.queue.now.entries) c.requires.within.counted

pub give_way-requires : goal.give_way-requires
give_way-requires c = next_is_word (rows_of thread_body c.args.queue.now.entries) c.requires.within.counted

pub unreachable-requires : goal.unreachable-requires
unreachable-requires c =
    let call = c.args.call.now in
    let last : call.fun ≤ 8 = c.requires.is_call.last in
    let live = c.requires.desc (on_thread call.fun c.if-call-eq-CREATE.false c.if-call-eq-NEXT.false c.requires.is_call.first last) in
    let there : is_some (entry_at c.args.queue.now.entries call.desc) ≡ true = sym (is_live-rows_of thread_body c.args.queue.now.entries call.desc) ∙ live in
    let none = ap is_some c.in-None.ensures.entry ∙ there in
    cc none

pub returns-in-2 : goal.returns-in-2
returns-in-2 c = on_found (goal.at.returns-in-2 c).In-Some 2 (λ t. on_yield t (next_rank (rows_of thread_body c.args.queue.now.entries))) c.give_way.result (yield_right c.args.queue.now) c.in-2.is c.give_way.ensures

pub returns-in-3 : goal.returns-in-3
returns-in-3 c = on_found (goal.at.returns-in-3 c).In-Some 3 on_sleep c.sleep.result (sleep_right c.args.queue.now) c.in-3.is c.sleep.ensures

pub returns-in-4 : goal.returns-in-4
returns-in-4 c = on_found (goal.at.returns-in-4 c).In-Some 4 on_wakeup c.wake.result (wake_right c.args.queue.now) c.in-4.is c.wake.ensures

pub returns-in-5 : goal.returns-in-5
returns-in-5 c = on_found (goal.at.returns-in-5 c).In-Some 5 on_thread_wait c.wait.result (wait_right c.args.queue.now) c.in-5.is c.wait.ensures

pub returns-in-7 : goal.returns-in-7
returns-in-7 c =
    let call = c.args.call.now in
    by_fun sched_facts sched_table sched_parts thread_body c.args.queue.now call 7 c.place.result _ c.in-7.is c.place.ensures
    (place_right c.args.queue.now call.client call.seq call.desc call.args c.get.ensures.ascending c.in-Some.thread.now (sym c.in-Some.ensures.entry) c.argument-in-7.result c.argument-in-7.ensures)

pub returns-in_default : goal.returns-in_default
returns-in_default c =
    let last : c.args.call.now.fun ≤ 8 = c.requires.is_call.last in
    let is : c.args.call.now.fun ≡ 8 = omega (arith, last, c.requires.is_call.first) in
    on_found (goal.at.returns-in_default c).In-Some 8 (λ t. Remove) Remove (exit_right c.args.queue.now) is refl
