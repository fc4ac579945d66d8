-- What the service decides is what its table says.
use Rattle.std.proofs.Common.{◌≡◌, ℕ, zero, suc, ◌+◌, ◌≤◌, min, Bool, true, false, cond, List, None, Some, refl, ◌∙◌, ap, arith}
use Rattle.std.specs.Prelude.{◌-◌, ◌==◌, nat_lt}
use Rattle.std.specs.Option.{option_map}
use Rattle.sg_facts.specs.sg_base.declared.value.Value.{Value}
use Rattle.sg_facts.specs.sg_base.declared.call.Call.{Call}
use Rattle.sg_facts.specs.sg_base.declared.reply.Code.TheVariants.{Overflow}
use Rattle.sg_facts.specs.sg_base.declared.reply.Reply.TheVariants.{Ok, Refused}
use Rattle.sg_facts.specs.Facts.{fun_at, takes_desc}
use Rattle.sg_facts.specs.Track.{row_at, word_of, arg_at}
use Rattle.sg_slots.specs.declared.decision.Decision.{Decision}
use Rattle.sg_slots.specs.declared.decision.Decision.TheVariants.{Refuse, Block, Remove}
use Rattle.sg_slots.specs.Slots.{Held, AreIds, entry_at, rows_of, row_with}
use Rattle.sg_slots.specs.Decide.{Decides}
use Rattle.sg_slots.proofs.Rows.{row_at-rows_of}
use Rattle.sg_slots.proofs.Deciding.{plain, refuse_right, block_right, set_right, set_word_right, remove_right}
use Rattle.sg_event.specs.declared.event.Event.{Event}
use Rattle.sg_event.specs.EventFacts.{event_facts}
use Rattle.sg_event.specs.EventTable.{event_table, event_parts}
use Rattle.sg_event.specs.Inside.EventAnswer.{count_in, most_count, event_wait_answer, take_answer, trigger_answer}
use Rattle.sg_event.specs.EventRow.{event_body}
use Rattle.sg_event.specs.Inside.EventDecision.{set_count, on_event_wait, on_take, on_trigger}

module _ (held : Held Event) (ids : AreIds 0 held.given held.entries) (client seq desc : ℕ) (args : List Value) (event : Event) (there : entry_at held.entries desc ≡ Some event) where
  abbrev call_of : ℕ → Call
  call_of fun = record { client = client; seq = seq; fun = fun; desc = desc; args = args }

  abbrev IsRight : ℕ → Decision Event → Type 0
  IsRight fun decision = Decides event_facts event_table event_parts event_body held (call_of fun) decision

  -- the count in the row is the event's
  count_is : count_in (row_at (rows_of event_body held.entries) desc) ≡ event.count
  count_is = ap count_in (row_at-rows_of event_body held.entries desc) ∙ ap (λ e. count_in (option_map (λ x. row_with desc (event_body x)) e)) there

  wait_at : (b : Bool) → (event.count == 0) ≡ b → IsRight 2 (cond b Block (set_count event (event.count - 1)))
  wait_at true none = block_right event_facts event_table event_parts event_body held (call_of 2) refl (ap event_wait_answer count_is ∙ ap (λ b. cond b None (Some (Ok plain))) none)
  wait_at false some =
      set_right event_facts event_table event_parts event_body held (call_of 2) refl ids event there refl refl refl (ap event_wait_answer count_is ∙ ap (λ b. cond b None (Some (Ok plain))) some)
      (record { creator = event.creator; count = event.count - 1 }) refl refl

  pub wait_right : IsRight 2 (on_event_wait event)
  wait_right = wait_at (event.count == 0) refl

  abbrev n : ℕ
  n = word_of (arg_at (call_of 3) 0)

  trigger_at : (b : Bool) → nat_lt most_count (event.count + n) ≡ b → IsRight 3 (cond b (Refuse Overflow) (set_count event (event.count + n)))
  trigger_at true over =
      refuse_right event_facts event_table event_parts event_body held (call_of 3) refl Overflow (ap (λ c. trigger_answer c n) count_is ∙ ap (λ b. cond b (Some (Refused Overflow)) (Some (Ok plain))) over)
  trigger_at false fits =
      set_right event_facts event_table event_parts event_body held (call_of 3) refl ids event there refl refl refl
      (ap (λ c. trigger_answer c n) count_is ∙ ap (λ b. cond b (Some (Refused Overflow)) (Some (Ok plain))) fits) (record { creator = event.creator; count = event.count + n }) refl refl

  pub trigger_right : IsRight 3 (on_trigger event n)
  trigger_right = trigger_at (nat_lt most_count (event.count + n)) refl

  pub take_right : IsRight 5 (on_take event n)
  take_right =
      set_word_right event_facts event_table event_parts event_body held (call_of 5) refl ids event there refl refl refl (Some (min n event.count))
      (record { creator = event.creator; count = event.count - min n event.count }) (ap (λ c. take_answer c n) count_is) refl refl

  pub free_right : IsRight 4 Remove
  free_right = remove_right event_facts event_table event_parts event_body held (call_of 4) refl ids event there refl refl refl refl refl refl

-- every function but the first is called on an event
pub on_event : (fun : ℕ) → (fun ≡ 1 → ⊥) → 1 ≤ fun → fun ≤ 5 → takes_desc (fun_at event_facts.funs fun) ≡ true
on_event zero other first last = absurd (omega arith)
on_event (suc zero) other first last = absurd (other refl)
on_event (suc (suc zero)) other first last = refl
on_event (suc (suc (suc zero))) other first last = refl
on_event (suc (suc (suc (suc zero)))) other first last = refl
on_event (suc (suc (suc (suc (suc zero))))) other first last = refl
on_event (suc (suc (suc (suc (suc (suc n)))))) other first last = absurd (omega arith)
