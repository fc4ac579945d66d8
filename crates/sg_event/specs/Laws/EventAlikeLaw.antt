-- The event service answers alike under other ids.
use Rattle.std.proofs.Common.{◌≡◌, ℕ, zero, suc, ◌+◌, false, List, Some, refl, sym, ◌∙◌, ap, subst}
use Rattle.std.specs.Prelude.{◌==◌, nat_lt}
use Rattle.sg_facts.specs.sg_base.declared.value.Value.{Value}
use Rattle.sg_facts.specs.sg_base.declared.call.Call.{Call}
use Rattle.sg_facts.specs.declared.row.Row.{Row}
use Rattle.sg_facts.specs.Facts.{fun_at}
use Rattle.sg_facts.specs.Track.{row_at, word_of, field_at, arg_at}
use Rattle.sg_facts.specs.Object.{Object}
use Rattle.sg_facts.specs.Alike.{named, Serves, SameReply}
use Rattle.sg_facts.specs.Laws.{AnswersAlike, Passes}
use Rattle.sg_slots.proofs.RowLaws.{row_of_call, alike_row, same_either, same_done}
use Rattle.sg_event.specs.EventFacts.{event_facts}
use Rattle.sg_event.specs.EventTable.{event_table, event_answer}
use Rattle.sg_event.specs.Inside.EventAnswer.{count_in, most_count, event_wait_answer, take_answer, trigger_answer}
use Rattle.sg_event.specs.EventSound.{IsEventSound}

module _ (names : List (ℕ × ℕ)) (o held : Object) (client seq desc : ℕ) (args : List Value) where
  abbrev call_of : ℕ → Call
  call_of fun = record { client = client; seq = seq; fun = fun; desc = desc; args = args }

  abbrev count : ℕ
  count = count_in (row_at o.rows desc)

  abbrev n : ℕ
  n = word_of (arg_at (call_of 3) 0)

  -- the count is the same
  same_count : (fun : ℕ) → Serves event_facts names o held (call_of fun) → (r : Row) × (row_at o.rows desc ≡ Some r) → count ≡ count_in (row_at held.rows (named names desc))
  same_count fun serves found =
      let alike = alike_row event_facts names o held (call_of fun) found.0 serves found.1 in
      ap count_in found.1 ∙ sym (ap count_in alike.1 ∙ ap (λ fields. word_of (field_at fields 0)) alike.2)

  alike_at : (fun : ℕ) → Passes event_facts o (call_of fun) → Serves event_facts names o held (call_of fun)
      → SameReply names (fun_at event_facts.funs fun).creation (event_answer fun o.given count n) (event_answer fun held.given (count_in (row_at held.rows (named names desc))) n)
  alike_at zero passes serves = refl
  alike_at (suc zero) passes serves = (refl, refl)
  alike_at (suc (suc zero)) passes serves =
      subst (λ c. SameReply names false (event_wait_answer count) (event_wait_answer c)) (same_count 2 serves (row_of_call event_facts o (call_of 2) passes refl refl))
      (same_either names (count == 0) _ _ tt (same_done names serves.names_are.none))
  alike_at (suc (suc (suc zero))) passes serves =
      subst (λ c. SameReply names false (trigger_answer count n) (trigger_answer c n)) (same_count 3 serves (row_of_call event_facts o (call_of 3) passes refl refl))
      (same_either names (nat_lt most_count (count + n)) _ _ refl (same_done names serves.names_are.none))
  alike_at (suc (suc (suc (suc zero)))) passes serves = same_done names serves.names_are.none
  alike_at (suc (suc (suc (suc (suc zero))))) passes serves =
      subst (λ c. SameReply names false (take_answer count n) (take_answer c n)) (same_count 5 serves (row_of_call event_facts o (call_of 5) passes refl refl))
      (refl, refl, sym serves.names_are.none)
  alike_at (suc (suc (suc (suc (suc (suc m)))))) passes serves = refl

-- the event service gives a call the same answer, but for ids, from whatever it holds that serves the call
pub event_answers_alike : AnswersAlike event_facts event_table IsEventSound
event_answers_alike = record {
  alike = λ names o held call sound passes serves. alike_at names o held call.client call.seq call.desc call.args call.fun passes serves;
}
