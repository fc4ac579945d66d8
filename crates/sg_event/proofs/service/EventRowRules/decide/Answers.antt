-- The event is there, and what is done with it is right.
use Rattle.std.proofs.Common.{◌≡◌, ◌≤◌, true, refl, sym, ◌∙◌, ap, arith}
use Rattle.std.specs.Option.{is_some}
use Rattle.sg_slots.specs.declared.decision.Decision.TheVariants.{Remove}
use Rattle.sg_slots.specs.Slots.{entry_at}
use Rattle.sg_slots.proofs.Deciding.{by_fun}
use Rattle.sg_slots.proofs.Rows.{is_live-rows_of}
use Rattle.sg_event.specs.EventFacts.{event_facts}
use Rattle.sg_event.specs.EventTable.{event_table, event_parts}
use Rattle.sg_event.specs.EventRow.{event_body}
use Rattle.sg_event.specs.Inside.EventDecision.{on_event_wait, on_take, on_trigger}
use Rattle.sg_event.proofs.Decisions.{wait_right, trigger_right, take_right, free_right, on_event}
use Rattle.sg_event.proofs.service.EventRowRules.decide.Goals as goal

pub unreachable-requires : goal.unreachable-requires
unreachable-requires c =
    let call = c.args.call.now in
    let last : call.fun ≤ 5 = c.requires.is_call.last in
    let live = c.requires.desc (on_event call.fun c.if-call-eq-SPLIT.false c.requires.is_call.first last) in
    let there : is_some (entry_at c.args.events.now.entries call.desc) ≡ true = sym (is_live-rows_of event_body c.args.events.now.entries call.desc) ∙ live in
    let none = ap is_some c.in-None.ensures.entry ∙ there in
    cc none

pub returns-in-2 : goal.returns-in-2
returns-in-2 c =
    let call = c.args.call.now in
    let held = c.args.events.now in
    let right = wait_right held c.get.ensures.ascending call.client call.seq call.desc call.args c.in-Some.event.now (sym c.in-Some.ensures.entry) in
    by_fun event_facts event_table event_parts event_body held call 2 c.wait.result (on_event_wait c.in-Some.event.now) c.in-2.is c.wait.ensures right

pub returns-in-3 : goal.returns-in-3
returns-in-3 c =
    let call = c.args.call.now in
    let held = c.args.events.now in
    let right = trigger_right held c.get.ensures.ascending call.client call.seq call.desc call.args c.in-Some.event.now (sym c.in-Some.ensures.entry) in
    by_fun event_facts event_table event_parts event_body held call 3 c.trigger.result _ c.in-3.is
    (c.trigger.ensures ∙ ap (on_trigger c.in-Some.event.now) c.number.ensures) right

pub returns-in-5 : goal.returns-in-5
returns-in-5 c =
    let call = c.args.call.now in
    let held = c.args.events.now in
    let right = take_right held c.get.ensures.ascending call.client call.seq call.desc call.args c.in-Some.event.now (sym c.in-Some.ensures.entry) in
    by_fun event_facts event_table event_parts event_body held call 5 c.take.result _ c.in-5.is
    (c.take.ensures ∙ ap (on_take c.in-Some.event.now) c.number-in-5.ensures) right

pub returns-in_default : goal.returns-in_default
returns-in_default c =
    let call = c.args.call.now in
    let held = c.args.events.now in
    let last : call.fun ≤ 5 = c.requires.is_call.last in
    let is : call.fun ≡ 4 = omega (arith, last, c.requires.is_call.first) in
    let right = free_right held c.get.ensures.ascending call.client call.seq call.desc call.args c.in-Some.event.now (sym c.in-Some.ensures.entry) in
    by_fun event_facts event_table event_parts event_body held call 4 Remove Remove is refl right
