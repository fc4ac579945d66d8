-- Locks that a text describes answer what locks do.
use Rattle.std.proofs.Common.{◌≡◌, ℕ, zero, suc, ◌≤◌, Bool, true, false, not, List, [], ◌∷◌, None, Some, length, refl, sym, ◌∙◌, ap, subst, arith}
use Rattle.std.specs.Prelude.{◌==◌, nat_le, nat_lt}
use Rattle.std.specs.Option.{option_map_or}
use Rattle.std.specs.declared.option.Option.{Option}
use Rattle.std.proofs.lemmas.Bool.Decides.{nat_tests}
use Rattle.sg_load.specs.Services.{answering}
use Rattle.sg_load.specs.Services.sg_lock.LockFacts.{lock_facts}
use Rattle.sg_load.specs.Services.sg_lock.LockTable.{lock_answer, lock_parts, lock_table}
use Rattle.sg_load.specs.declared.kind.ServiceKind.TheVariants.{Locks}
use Rattle.sg_describe.proofs.sg_described.sg_slots.RowLaws.{row_of_call}
use Rattle.sg_describe.specs.sg_described.Described.{Described}
use Rattle.sg_describe.specs.sg_described.DescribedSound.{IsDescribedSound}
use Rattle.sg_describe.specs.sg_described.Meaning.{answer_of, described_parts, described_table}
use Rattle.sg_describe.specs.sg_described.declared.description.Operand.TheVariants.{Number, Caller, Own}
use Rattle.sg_describe.specs.sg_described.declared.description.Relation.TheVariants.{Is, IsNot, Above}
use Rattle.sg_describe.specs.sg_described.declared.description.Term.TheVariants.{Only}
use Rattle.sg_describe.specs.sg_described.declared.description.Verdict.TheVariants.{Refuse, Wait}
use Rattle.sg_describe.specs.sg_described.Safe.{is_safe}
use Rattle.sg_shape.specs.ShapeOfText.{shape_of_text}
use Rattle.sg_describe.specs.sg_facts.Laws.{Passes}
use Rattle.sg_describe.specs.sg_facts.Object.{Object}
use Rattle.sg_describe.specs.sg_facts.Track.{field_at, row_at, word_of}
use Rattle.sg_describe.specs.sg_facts.declared.row.Row.{Row}
use Rattle.sg_describe.specs.sg_facts.sg_base.declared.call.Call.{Call}
use Rattle.sg_describe.specs.sg_facts.sg_base.declared.reply.Code.TheVariants.{Held, NotOwner}
use Rattle.sg_describe.specs.sg_facts.sg_base.declared.reply.Reply.{Reply}
use Rattle.sg_describe.specs.sg_facts.sg_base.declared.value.Value.{Value}
use Rattle.sg_describe.specs.sg_facts.sg_base.declared.value.Value.TheVariants.{Word}
use Rattle.sg_describe.specs.DescribedText.{described_of_text}
use Rattle.test_own.specs.OwnTexts.{AnswersAs, own_lock_tree}
use Rattle.test_own.proofs.Rows.{IsOneWord, one_word, row_meets}

-- what the text describes
abbrev described_lock : Described
described_lock = record {
  facts = lock_facts;
  most = 4294967295 ∷ [];
  answers =
      []
      ∷ (record { tests = record { left = Only (Own 0); relation = Is; right = Only Caller } ∷ []; verdict = Refuse Held }
      ∷ record { tests = record { left = Only (Own 0); relation = Above; right = Only (Number 0) } ∷ []; verdict = Wait } ∷ [])
      ∷ (record { tests = record { left = Only (Own 0); relation = IsNot; right = Only Caller } ∷ []; verdict = Refuse NotOwner } ∷ [])
      ∷ (record { tests = record { left = Only (Own 0); relation = Above; right = Only (Number 0) } ∷ []; verdict = Refuse Held } ∷ [])
      ∷ [];
}

-- a number is above 0, or it is 0
above_zero : (n : ℕ) → nat_lt 0 n ≡ not (n == 0)
above_zero n = grind (arith, nat_tests)

module _ (o : Object) (client seq desc : ℕ) (args : List Value) where
  abbrev call_of : ℕ → Call
  call_of fun = record { client = client; seq = seq; fun = fun; desc = desc; args = args }

  -- a row whose field is a word
  abbrev with : Row → ℕ → Option Row
  with r n = Some (record r { fields = Word n ∷ [] })

  taken : (r : Row) (n : ℕ) (a b : Bool) → (n == client) ≡ a → (n == 0) ≡ b → nat_lt 0 n ≡ not b → nat_le client 4294967295 ≡ true
      → answer_of described_lock (call_of 2) false o.given (with r n) ≡ lock_answer 2 o.given n client
  taken r n true b own free above high = rw own refl
  taken r n false true own free above high = rw (own, free, above, high) refl
  taken r n false false own free above high = rw (own, free, above) refl

  released : (r : Row) (n : ℕ) (a : Bool) → (n == client) ≡ a → answer_of described_lock (call_of 3) false o.given (with r n) ≡ lock_answer 3 o.given n client
  released r n true own = rw own refl
  released r n false own = rw own refl

  freed : (r : Row) (n : ℕ) (b : Bool) → (n == 0) ≡ b → nat_lt 0 n ≡ not b → answer_of described_lock (call_of 4) false o.given (with r n) ≡ lock_answer 4 o.given n client
  freed r n true free above = rw (free, above) refl
  freed r n false free above = rw (free, above) refl

  -- the owner in a row, or 0
  abbrev word_in : Option Row → ℕ
  word_in found = option_map_or (λ r. word_of (field_at r.fields 0)) found 0

  -- at the row of the call
  on_row : (fun : ℕ) → IsDescribedSound described_lock o → (r : Row) → row_at o.rows desc ≡ Some r
      → ((n : ℕ) → answer_of described_lock (call_of fun) false o.given (with r n) ≡ lock_answer fun o.given n client)
      → answer_of described_lock (call_of fun) false o.given (row_at o.rows desc) ≡ lock_table o (call_of fun)
  on_row fun sound r there same =
      let its = row_meets _ 0 o.given desc o.rows r sound.rows there in
      let one : IsOneWord 64 r.fields = one_word 64 r.fields its.fields in
      let row : row_at o.rows desc ≡ with r one.word = there ∙ ap (λ fields. Some (record r { fields = fields })) one.is in
      subst (λ found. answer_of described_lock (call_of fun) false o.given found ≡ lock_answer fun o.given (word_in found) client) (sym row) (same one.word)

  same : (fun : ℕ) → IsDescribedSound described_lock o → Passes lock_facts o (call_of fun) → described_table described_lock o (call_of fun) ≡ lock_table o (call_of fun)
  same zero sound passes = absurd (let low = passes.is_call.first in omega (arith, low))
  same (suc zero) sound passes = refl
  same (suc (suc zero)) sound passes =
      let found = row_of_call lock_facts o (call_of 2) passes refl refl in
      let last = passes.within.client_last in
      on_row 2 sound found.0 found.1 (λ n. taken found.0 n (n == client) (n == 0) refl refl (above_zero n) (grind (arith, nat_tests, last)))
  same (suc (suc (suc zero))) sound passes =
      let found = row_of_call lock_facts o (call_of 3) passes refl refl in
      on_row 3 sound found.0 found.1 (λ n. released found.0 n (n == client) refl)
  same (suc (suc (suc (suc zero)))) sound passes =
      let found = row_of_call lock_facts o (call_of 4) passes refl refl in
      on_row 4 sound found.0 found.1 (λ n. freed found.0 n (n == 0) refl (above_zero n))
  same (suc (suc (suc (suc (suc n))))) sound passes = absurd (let high = passes.is_call.last in omega (arith, high))

parts_same : (fun : ℕ) → 1 ≤ fun → fun ≤ 4 → described_parts described_lock fun ≡ lock_parts fun
parts_same zero low high = absurd (omega (arith, low))
parts_same (suc zero) low high = refl
parts_same (suc (suc zero)) low high = refl
parts_same (suc (suc (suc zero))) low high = refl
parts_same (suc (suc (suc (suc zero)))) low high = refl
parts_same (suc (suc (suc (suc (suc n))))) low high = absurd (omega (arith, high))

described : described_of_text own_lock_tree ≡ described_lock
unfolding shape_of_text
described = refl

pub lock_is_safe : is_safe (described_of_text own_lock_tree) ≡ true
lock_is_safe = subst (λ d. is_safe d ≡ true) (sym described) (refl)

pub lock_answers : AnswersAs (described_of_text own_lock_tree) Locks
lock_answers = subst (λ d. AnswersAs d Locks) (sym described) (record {
  facts = refl;
  ask = λ o call. same o call.client call.seq call.desc call.args call.fun;
  parts = parts_same;
})
