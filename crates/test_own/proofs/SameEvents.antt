-- Events that a text describes answer what events do.
use Rattle.std.proofs.Common.{◌≡◌, ℕ, zero, suc, ◌≤◌, Bool, true, false, not, List, [], ◌∷◌, None, Some, length, refl, sym, ◌∙◌, ap, subst, arith}
use Rattle.std.specs.Prelude.{◌==◌, ◌+◌, ◌-◌, min, nat_le, nat_lt}
use Rattle.std.specs.Option.{option_map_or}
use Rattle.std.specs.declared.option.Option.{Option}
use Rattle.std.proofs.lemmas.Bool.Decides.{nat_tests}
use Rattle.sg_load.specs.Services.{answering}
use Rattle.sg_load.specs.Services.sg_event.EventFacts.{event_facts}
use Rattle.sg_load.specs.Services.sg_event.EventTable.{event_answer, event_parts, event_table}
use Rattle.sg_load.specs.declared.kind.ServiceKind.TheVariants.{Events}
use Rattle.sg_describe.proofs.sg_described.sg_slots.RowLaws.{row_of_call}
use Rattle.sg_describe.specs.sg_described.Described.{Described}
use Rattle.sg_describe.specs.sg_described.DescribedSound.{IsDescribedSound}
use Rattle.sg_describe.specs.sg_described.Meaning.{answer_of, described_parts, described_table}
use Rattle.sg_describe.specs.sg_described.declared.description.Operand.TheVariants.{Number, Argument, Own}
use Rattle.sg_describe.specs.sg_described.declared.description.Relation.TheVariants.{Is}
use Rattle.sg_describe.specs.sg_described.declared.description.Term.TheVariants.{Only, Least}
use Rattle.sg_describe.specs.sg_described.declared.description.Verdict.TheVariants.{Wait, Give}
use Rattle.sg_describe.specs.sg_described.Safe.{is_safe}
use Rattle.sg_shape.specs.ShapeOfText.{shape_of_text}
use Rattle.sg_describe.specs.sg_facts.Laws.{Passes}
use Rattle.sg_describe.specs.sg_facts.Object.{Object}
use Rattle.sg_describe.specs.sg_facts.Track.{arg_at, field_at, row_at, word_of}
use Rattle.sg_describe.specs.sg_facts.declared.row.Row.{Row}
use Rattle.sg_describe.specs.sg_facts.sg_base.declared.call.Call.{Call}
use Rattle.sg_describe.specs.sg_facts.sg_base.declared.reply.Reply.{Reply}
use Rattle.sg_describe.specs.sg_facts.sg_base.declared.value.Value.{Value}
use Rattle.sg_describe.specs.sg_facts.sg_base.declared.value.Value.TheVariants.{Word}
use Rattle.sg_describe.specs.DescribedText.{described_of_text}
use Rattle.test_own.specs.OwnTexts.{AnswersAs, own_event_tree}
use Rattle.test_own.proofs.Rows.{IsOneWord, one_word, row_meets}

-- what the text describes
abbrev described_event : Described
described_event = record {
  facts = event_facts;
  most = 4294967295 ∷ [];
  answers =
      []
      ∷ (record { tests = record { left = Only (Own 0); relation = Is; right = Only (Number 0) } ∷ []; verdict = Wait } ∷ [])
      ∷ []
      ∷ []
      ∷ (record { tests = []; verdict = Give (Least (Argument 0) (Own 0)) } ∷ [])
      ∷ [];
}

module _ (o : Object) (client seq desc : ℕ) (args : List Value) where
  abbrev call_of : ℕ → Call
  call_of fun = record { client = client; seq = seq; fun = fun; desc = desc; args = args }

  -- the number in the call
  abbrev asked : ℕ
  asked = word_of (arg_at (call_of 3) 0)

  -- a row whose field is a word
  abbrev with : Row → ℕ → Option Row
  with r n = Some (record r { fields = Word n ∷ [] })

  -- the count in a row, or 0
  abbrev word_in : Option Row → ℕ
  word_in found = option_map_or (λ r. word_of (field_at r.fields 0)) found 0

  -- what the service answers, on a row whose count is such a number
  abbrev Same : ℕ → Row → ℕ → Type 0
  Same fun r n = answer_of described_event (call_of fun) false o.given (with r n) ≡ event_answer fun o.given n asked

  waited : (r : Row) (n : ℕ) (b : Bool) → (n == 0) ≡ b → nat_le (n - 1) 4294967295 ≡ true → Same 2 r n
  waited r n true none fits = rw none refl
  waited r n false none fits = rw (none, fits) refl

  -- a number lies above another where it isn't at most that
  above : (n : ℕ) → nat_lt 4294967295 n ≡ not (nat_le n 4294967295)
  above n = grind (arith, nat_tests)

  triggered : (r : Row) (n : ℕ) (a : Bool) → nat_le (n + asked) 4294967295 ≡ a → nat_lt 4294967295 (n + asked) ≡ not a → Same 3 r n
  triggered r n true fits over = rw (fits, over) refl
  triggered r n false fits over = rw (fits, over) refl

  took : (r : Row) (n : ℕ) → nat_le n 4294967295 ≡ true → Same 5 r n
  took r n fits = let less : nat_le (n - min asked n) 4294967295 ≡ true = grind (arith, nat_tests, fits) in rw less refl

  -- at the row of the call
  on_row : (fun : ℕ) → IsDescribedSound described_event o → (r : Row) → row_at o.rows desc ≡ Some r → ((n : ℕ) → nat_le n 4294967295 ≡ true → Same fun r n)
      → answer_of described_event (call_of fun) false o.given (row_at o.rows desc) ≡ event_table o (call_of fun)
  on_row fun sound r there same =
      let its = row_meets _ 0 o.given desc o.rows r sound.rows there in
      let one : IsOneWord 4294967295 r.fields = one_word 4294967295 r.fields its.fields in
      let row : row_at o.rows desc ≡ with r one.word = there ∙ ap (λ fields. Some (record r { fields = fields })) one.is in
      subst (λ found. answer_of described_event (call_of fun) false o.given found ≡ event_answer fun o.given (word_in found) asked) (sym row) (same one.word one.fits)

  same : (fun : ℕ) → IsDescribedSound described_event o → Passes event_facts o (call_of fun) → described_table described_event o (call_of fun) ≡ event_table o (call_of fun)
  same zero sound passes = absurd (let low = passes.is_call.first in omega (arith, low))
  same (suc zero) sound passes = refl
  same (suc (suc zero)) sound passes =
      let found = row_of_call event_facts o (call_of 2) passes refl refl in
      on_row 2 sound found.0 found.1 (λ n fits. waited found.0 n (n == 0) refl (grind (arith, nat_tests, fits)))
  same (suc (suc (suc zero))) sound passes =
      let found = row_of_call event_facts o (call_of 3) passes refl refl in
      on_row 3 sound found.0 found.1 (λ n fits. triggered found.0 n (nat_le (n + asked) 4294967295) refl (above (n + asked)))
  same (suc (suc (suc (suc zero)))) sound passes =
      let found = row_of_call event_facts o (call_of 4) passes refl refl in
      on_row 4 sound found.0 found.1 (λ n fits. refl)
  same (suc (suc (suc (suc (suc zero))))) sound passes =
      let found = row_of_call event_facts o (call_of 5) passes refl refl in
      on_row 5 sound found.0 found.1 (took found.0)
  same (suc (suc (suc (suc (suc (suc n)))))) sound passes = absurd (let high = passes.is_call.last in omega (arith, high))

parts_same : (fun : ℕ) → 1 ≤ fun → fun ≤ 5 → described_parts described_event fun ≡ event_parts fun
parts_same zero low high = absurd (omega (arith, low))
parts_same (suc zero) low high = refl
parts_same (suc (suc zero)) low high = refl
parts_same (suc (suc (suc zero))) low high = refl
parts_same (suc (suc (suc (suc zero)))) low high = refl
parts_same (suc (suc (suc (suc (suc zero))))) low high = refl
parts_same (suc (suc (suc (suc (suc (suc n)))))) low high = absurd (omega (arith, high))

described : described_of_text own_event_tree ≡ described_event
unfolding shape_of_text
described = refl

pub event_is_safe : is_safe (described_of_text own_event_tree) ≡ true
event_is_safe = subst (λ d. is_safe d ≡ true) (sym described) (refl)

pub event_answers : AnswersAs (described_of_text own_event_tree) Events
event_answers = subst (λ d. AnswersAs d Events) (sym described) (record {
  facts = refl;
  ask = λ o call. same o call.client call.seq call.desc call.args call.fun;
  parts = parts_same;
})
