-- The lock service answers alike under other ids.
use Rattle.std.proofs.Common.{◌≡◌, ℕ, zero, suc, false, cond, not, List, None, Some, refl, sym, ◌∙◌, ap, subst}
use Rattle.std.specs.Prelude.{◌==◌}
use Rattle.std.specs.declared.option.Option.{Option}
use Rattle.sg_facts.specs.sg_base.declared.value.Value.{Value}
use Rattle.sg_facts.specs.sg_base.declared.call.Call.{Call}
use Rattle.sg_facts.specs.declared.row.Row.{Row}
use Rattle.sg_facts.specs.Facts.{fun_at}
use Rattle.sg_facts.specs.Track.{row_at, word_of, field_at}
use Rattle.sg_facts.specs.Object.{Object}
use Rattle.sg_facts.specs.Inside.Guards.{is_there}
use Rattle.sg_facts.specs.Alike.{named, Serves, SameReply}
use Rattle.sg_facts.specs.Laws.{AnswersAlike, Passes}
use Rattle.sg_slots.proofs.RowLaws.{row_of_call, alike_row, same_either, same_done}
use Rattle.sg_lock.specs.LockFacts.{lock_facts}
use Rattle.sg_lock.specs.LockTable.{lock_table, lock_answer}
use Rattle.sg_lock.specs.Inside.LockAnswer.{owner_in, take_answer, release_answer, free_answer}
use Rattle.sg_lock.specs.LockSound.{IsLockSound}

-- the first cause of a refusal that looks at the row doesn't apply to a call that passes
pub there : (found : Option Row) {A : Type 0} (x : A) (rest : Option A) → cond (not (is_there found)) (Some x) rest ≡ None → (r : Row) × (found ≡ Some r)
there None x rest is = absurd (cc is)
there (Some r) x rest is = (r, refl)

module _ (names : List (ℕ × ℕ)) (o held : Object) (client seq desc : ℕ) (args : List Value) where
  abbrev call_of : ℕ → Call
  call_of fun = record { client = client; seq = seq; fun = fun; desc = desc; args = args }

  abbrev owner : ℕ
  owner = owner_in (row_at o.rows desc)

  -- the owner is the same
  same_owner : (fun : ℕ) → Serves lock_facts names o held (call_of fun) → (r : Row) × (row_at o.rows desc ≡ Some r) → owner ≡ owner_in (row_at held.rows (named names desc))
  same_owner fun serves found =
      let alike = alike_row lock_facts names o held (call_of fun) found.0 serves found.1 in
      ap owner_in found.1 ∙ sym (ap owner_in alike.1 ∙ ap (λ fields. word_of (field_at fields 0)) alike.2)

  alike_at : (fun : ℕ) → Passes lock_facts o (call_of fun) → Serves lock_facts names o held (call_of fun)
      → SameReply names (fun_at lock_facts.funs fun).creation (lock_answer fun o.given owner client) (lock_answer fun held.given (owner_in (row_at held.rows (named names desc))) client)
  alike_at zero passes serves = refl
  alike_at (suc zero) passes serves = (refl, refl)
  alike_at (suc (suc zero)) passes serves =
      subst (λ w. SameReply names false (take_answer owner client) (take_answer w client)) (same_owner 2 serves (row_of_call lock_facts o (call_of 2) passes refl refl))
      (same_either names (owner == client) _ _ refl (same_either names (owner == 0) _ _ (same_done names serves.names_are.none) tt))
  alike_at (suc (suc (suc zero))) passes serves =
      subst (λ w. SameReply names false (release_answer owner client) (release_answer w client)) (same_owner 3 serves (row_of_call lock_facts o (call_of 3) passes refl refl))
      (same_either names (owner == client) _ _ (same_done names serves.names_are.none) refl)
  alike_at (suc (suc (suc (suc zero)))) passes serves =
      subst (λ w. SameReply names false (free_answer owner) (free_answer w)) (same_owner 4 serves (row_of_call lock_facts o (call_of 4) passes refl refl))
      (same_either names (owner == 0) _ _ (same_done names serves.names_are.none) refl)
  alike_at (suc (suc (suc (suc (suc n))))) passes serves = refl

-- the lock service gives a call the same answer, but for ids, from whatever it holds that serves the call
pub lock_answers_alike : AnswersAlike lock_facts lock_table IsLockSound
lock_answers_alike = record {
  alike = λ names o held call sound passes serves. alike_at names o held call.client call.seq call.desc call.args call.fun passes serves;
}
