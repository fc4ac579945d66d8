-- The lock service answers, and what it holds stays sound.
use Rattle.std.proofs.Common.{◌≡◌, ℕ, zero, suc, ◌+◌, ◌≤◌, true, List, [], ◌∷◌, Some, refl, sym, ap, arith}
use Rattle.std.specs.Prelude.{◌==◌}
use Rattle.std.proofs.lemmas.Bool.Decides.{nat_tests}
use Rattle.sg_facts.specs.sg_base.declared.value.Value.{Value}
use Rattle.sg_facts.specs.sg_base.declared.value.Value.TheVariants.{Word, Text}
use Rattle.sg_facts.specs.sg_base.declared.call.Call.{Call}
use Rattle.sg_facts.specs.sg_base.declared.reply.Good.{Good}
use Rattle.sg_facts.specs.sg_base.declared.reply.Reply.TheVariants.{Ok}
use Rattle.sg_facts.specs.Facts.{fun_at}
use Rattle.sg_facts.specs.Track.{row_at, new_row, fields_after, word_of, field_at}
use Rattle.sg_facts.specs.Object.{Object, after}
use Rattle.sg_facts.specs.Sound.{AreFields}
use Rattle.sg_facts.specs.Laws.{AnswersAndKeeps, Passes}
use Rattle.sg_slots.proofs.RowLaws.{childless, next_of_first, sound_more, sound_changed, sound_left}
use Rattle.sg_lock.specs.LockFacts.{lock_facts}
use Rattle.sg_lock.specs.LockTable.{lock_table, lock_answer}
use Rattle.sg_lock.specs.Inside.LockAnswer.{owner_in}
use Rattle.sg_lock.specs.LockSound.{IsLockSound, IsOwned, is_owner_in}

-- ---- the fields of a lock's row after a take and a release

take_fields : (fields : List Value) (call : Call) (good : Good) → call.client ≤ 64 → AreFields lock_facts.fields fields → AreFields lock_facts.fields (fields_after call good (fun_at lock_facts.funs 2).effects fields)
take_fields [] call good small are = absurd are
take_fields (v ∷ []) call good small are = ((refl, omega arith), tt)
take_fields (v ∷ w ∷ fields) call good small are = absurd are.1

release_fields : (fields : List Value) (call : Call) (good : Good) → AreFields lock_facts.fields fields → AreFields lock_facts.fields (fields_after call good (fun_at lock_facts.funs 3).effects fields)
release_fields [] call good are = absurd are
release_fields (Word n ∷ []) call good are = ((refl, omega arith), tt)
release_fields (Text bytes ∷ []) call good are = absurd (cc are.0)
release_fields (v ∷ w ∷ fields) call good are = absurd are.1

take_owned : (fields : List Value) (call : Call) (good : Good) → 1 ≤ call.client → call.client ≤ 64 → AreFields lock_facts.fields fields
    → is_owner_in 2 (word_of (field_at (fields_after call good (fun_at lock_facts.funs 2).effects fields) 0)) ≡ true
take_owned [] call good first last are = absurd are
take_owned (v ∷ fields) call good first last are = grind (arith, nat_tests)

release_owned : (fields : List Value) (call : Call) (good : Good) → (word_of (field_at (fields_after call good (fun_at lock_facts.funs 3).effects fields) 0) == 0) ≡ true
release_owned [] call good = refl
release_owned (Word n ∷ fields) call good = refl
release_owned (Text bytes ∷ fields) call good = refl

module _ (o : Object) (client seq desc : ℕ) (args : List Value) where
  abbrev call_of : ℕ → Call
  call_of fun = record { client = client; seq = seq; fun = fun; desc = desc; args = args }

  keeps_at : (fun : ℕ) (good : Good) → IsLockSound o → Passes lock_facts o (call_of fun) → lock_answer fun o.given (owner_in (row_at o.rows desc)) client ≡ Some (Ok good)
      → IsLockSound (after lock_facts o (call_of fun) (Ok good))
  keeps_at zero good sound passes is = absurd (cc is)
  keeps_at (suc zero) good sound passes is =
      let one : record { desc = o.given + 1; words = []; bytes = [] } ≡ good = cc is in
      let kept = sound_more lock_facts IsOwned o (new_row lock_facts (call_of 1) good) (sound.general, sound.owned) (sym (ap (λ g. g.desc) one))
      (record { creator_first = passes.within.client_first; creator_last = passes.within.client_last; parent = refl; its_parent = refl; fields = ((refl, omega arith), tt) }) refl in
      record { general = kept.0; owned = kept.1 }
  keeps_at (suc (suc zero)) good sound passes is =
      let kept = sound_changed lock_facts IsOwned o (call_of 2) good (sound.general, sound.owned)
      (λ r found are owned. (take_fields r.fields (call_of 2) good passes.within.client_last are.fields, take_owned r.fields (call_of 2) good passes.within.client_first passes.within.client_last are.fields)) in
      record { general = kept.0; owned = kept.1 }
  keeps_at (suc (suc (suc zero))) good sound passes is =
      let kept = sound_changed lock_facts IsOwned o (call_of 3) good (sound.general, sound.owned)
      (λ r found are owned. (release_fields r.fields (call_of 3) good are.fields, release_owned r.fields (call_of 3) good)) in
      record { general = kept.0; owned = kept.1 }
  keeps_at (suc (suc (suc (suc zero)))) good sound passes is =
      let kept = sound_left lock_facts IsOwned o desc (sound.general, sound.owned) refl (childless lock_facts o (call_of 4) passes refl refl refl) in
      record { general = kept.0; owned = kept.1 }
  keeps_at (suc (suc (suc (suc (suc n))))) good sound passes is = absurd (cc is)

-- the empty object of the lock service is sound, an Ok keeps an object sound, and a new lock has the next id
pub lock_answers_and_keeps : AnswersAndKeeps lock_facts lock_table IsLockSound
lock_answers_and_keeps = record {
  empty = record { general = record { rows = tt; files = tt }; owned = tt };
  general = λ o sound. sound.general;
  keeps = λ o call good sound passes is. keeps_at o call.client call.seq call.desc call.args call.fun good sound passes is;
  next = λ o call. next_of_first lock_facts o.given (λ f. lock_answer f o.given (owner_in (row_at o.rows call.desc)) call.client) (record { desc = o.given + 1; words = []; bytes = [] }) refl refl refl call.fun;
}
