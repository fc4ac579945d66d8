-- The event service answers, and what it holds stays sound.
use Rattle.std.proofs.Common.{◌≡◌, ℕ, zero, suc, ◌+◌, ◌≤◌, Bool, true, false, cond, List, [], ◌∷◌, Some, refl, sym, ◌∙◌, ap, arith}
use Rattle.std.specs.Prelude.{nat_lt}
use Rattle.std.proofs.lemmas.Bool.Decides.{nat_tests}
use Rattle.sg_facts.specs.sg_base.declared.value.Value.{Value}
use Rattle.sg_facts.specs.sg_base.declared.call.Call.{Call}
use Rattle.sg_facts.specs.sg_base.declared.reply.Code.TheVariants.{Overflow}
use Rattle.sg_facts.specs.sg_base.declared.reply.Good.{Good}
use Rattle.sg_facts.specs.sg_base.declared.reply.Reply.TheVariants.{Ok, Refused}
use Rattle.sg_facts.specs.declared.row.Row.{Row}
use Rattle.sg_facts.specs.Facts.{fun_at}
use Rattle.sg_facts.specs.Track.{row_at, new_row, fields_after, word_of, field_at, arg_at}
use Rattle.sg_facts.specs.Object.{Object, after}
use Rattle.sg_facts.specs.Sound.{AreFields}
use Rattle.sg_facts.specs.Laws.{AnswersAndKeeps, Passes}
use Rattle.sg_slots.proofs.RowLaws.{childless, next_of_first, sound_more, sound_changed, sound_left}
use Rattle.sg_event.specs.EventFacts.{event_facts}
use Rattle.sg_event.specs.EventTable.{event_table, event_answer}
use Rattle.sg_event.specs.Inside.EventAnswer.{count_in, most_count, trigger_answer}
use Rattle.sg_event.specs.EventSound.{IsEventSound, IsCounted}

-- ---- the fields of an event's row after a wait, a trigger and a take

abbrev IsCount : List Value → Type 0
IsCount fields = AreFields event_facts.fields fields × (word_of (field_at fields 0) ≤ most_count)

wait_fields : (fields : List Value) (call : Call) (good : Good) → AreFields event_facts.fields fields → word_of (field_at fields 0) ≤ most_count
    → IsCount (fields_after call good (fun_at event_facts.funs 2).effects fields)
wait_fields [] call good are most = absurd are
wait_fields (v ∷ []) call good are most = (((refl, omega (arith, most)), tt), omega (arith, most))
wait_fields (v ∷ w ∷ fields) call good are most = absurd are.1

trigger_fields : (fields : List Value) (call : Call) (good : Good) → AreFields event_facts.fields fields → word_of (field_at fields 0) + word_of (arg_at call 0) ≤ most_count
    → IsCount (fields_after call good (fun_at event_facts.funs 3).effects fields)
trigger_fields [] call good are most = absurd are
trigger_fields (v ∷ []) call good are most = (((refl, omega (arith, most)), tt), omega (arith, most))
trigger_fields (v ∷ w ∷ fields) call good are most = absurd are.1

take_fields : (fields : List Value) (call : Call) (good : Good) → AreFields event_facts.fields fields → word_of (field_at fields 0) ≤ most_count
    → IsCount (fields_after call good (fun_at event_facts.funs 5).effects fields)
take_fields [] call good are most = absurd are
take_fields (v ∷ []) call good are most = (((refl, omega (arith, most)), tt), omega (arith, most))
take_fields (v ∷ w ∷ fields) call good are most = absurd are.1

-- a trigger that is done leaves a count up to the greatest
not_over : (count n : ℕ) (good : Good) → trigger_answer count n ≡ Some (Ok good) → count + n ≤ most_count
not_over count n good is = at (nat_lt most_count (count + n)) refl is
  where
    at : (b : Bool) → nat_lt most_count (count + n) ≡ b → cond b (Some (Refused Overflow)) (Some (Ok (record { desc = 0; words = []; bytes = [] }))) ≡ Some (Ok good) → count + n ≤ most_count
    at true over is = absurd (cc is)
    at false over is = grind (arith, nat_tests)

module _ (o : Object) (client seq desc : ℕ) (args : List Value) where
  abbrev call_of : ℕ → Call
  call_of fun = record { client = client; seq = seq; fun = fun; desc = desc; args = args }

  keeps_at : (fun : ℕ) (good : Good) → IsEventSound o → Passes event_facts o (call_of fun)
      → event_answer fun o.given (count_in (row_at o.rows desc)) (word_of (arg_at (call_of fun) 0)) ≡ Some (Ok good)
      → IsEventSound (after event_facts o (call_of fun) (Ok good))
  keeps_at zero good sound passes is = absurd (cc is)
  keeps_at (suc zero) good sound passes is =
      let one : record { desc = o.given + 1; words = []; bytes = [] } ≡ good = cc is in
      let kept = sound_more event_facts IsCounted o (new_row event_facts (call_of 1) good) (sound.general, sound.counted) (sym (ap (λ g. g.desc) one))
      (record { creator_first = passes.within.client_first; creator_last = passes.within.client_last; parent = refl; its_parent = refl; fields = ((refl, omega arith), tt) }) (omega arith) in
      record { general = kept.0; counted = kept.1 }
  keeps_at (suc (suc zero)) good sound passes is =
      let kept = sound_changed event_facts IsCounted o (call_of 2) good (sound.general, sound.counted) (λ r found are most. wait_fields r.fields (call_of 2) good are.fields most) in
      record { general = kept.0; counted = kept.1 }
  keeps_at (suc (suc (suc zero))) good sound passes is =
      let most : (r : Row) → row_at o.rows desc ≡ Some r → word_of (field_at r.fields 0) + word_of (arg_at (call_of 3) 0) ≤ most_count =
      λ r found. not_over (word_of (field_at r.fields 0)) (word_of (arg_at (call_of 3) 0)) good (sym (ap (λ row. trigger_answer (count_in row) (word_of (arg_at (call_of 3) 0))) found) ∙ is) in
      let kept = sound_changed event_facts IsCounted o (call_of 3) good (sound.general, sound.counted) (λ r found are counted. trigger_fields r.fields (call_of 3) good are.fields (most r found)) in
      record { general = kept.0; counted = kept.1 }
  keeps_at (suc (suc (suc (suc zero)))) good sound passes is =
      let kept = sound_left event_facts IsCounted o desc (sound.general, sound.counted) refl (childless event_facts o (call_of 4) passes refl refl refl) in
      record { general = kept.0; counted = kept.1 }
  keeps_at (suc (suc (suc (suc (suc zero))))) good sound passes is =
      let kept = sound_changed event_facts IsCounted o (call_of 5) good (sound.general, sound.counted) (λ r found are most. take_fields r.fields (call_of 5) good are.fields most) in
      record { general = kept.0; counted = kept.1 }
  keeps_at (suc (suc (suc (suc (suc (suc n)))))) good sound passes is = absurd (cc is)

-- the empty object of the event service is sound, an Ok keeps an object sound, and a new event has the next id
pub event_answers_and_keeps : AnswersAndKeeps event_facts event_table IsEventSound
event_answers_and_keeps = record {
  empty = record { general = record { rows = tt; files = tt }; counted = tt };
  general = λ o sound. sound.general;
  keeps = λ o call good sound passes is. keeps_at o call.client call.seq call.desc call.args call.fun good sound passes is;
  next = λ o call. next_of_first event_facts o.given (λ f. event_answer f o.given (count_in (row_at o.rows call.desc)) (word_of (arg_at call 0))) (record { desc = o.given + 1; words = []; bytes = [] }) refl refl refl call.fun;
}
