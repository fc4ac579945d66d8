-- The shape of the lock service, and its answers, keep to what every shape allows; and no word of it counts.
use Rattle.std.proofs.Common.{◌≡◌, ℕ, zero, suc, Bool, true, false, cond, List, [], None, Some, refl, sym, ◌∙◌, subst}
use Rattle.std.specs.Prelude.{◌==◌}
use Rattle.sg_facts.specs.sg_base.declared.reply.Code.TheVariants.{Held, NotOwner}
use Rattle.sg_facts.specs.sg_base.declared.reply.Reply.TheVariants.{Ok, Refused}
use Rattle.sg_facts.specs.declared.row.Row.{Row}
use Rattle.sg_facts.specs.Facts.{fun_at}
use Rattle.sg_facts.specs.Counted.{most_counted}
use Rattle.sg_facts.specs.Track.{row_at}
use Rattle.sg_facts.specs.Laws.{ShapeAllows, CountsSlowly}
use Rattle.sg_slots.proofs.RowLaws.{NotGuards, none_counted, wants_none, never_counts}
use Rattle.sg_lock.specs.LockFacts.{lock_facts}
use Rattle.sg_lock.specs.LockTable.{lock_table, lock_answer}
use Rattle.sg_lock.specs.Inside.LockAnswer.{owner_in}
use Rattle.sg_lock.specs.LockSound.{IsLockSound}

-- none of its refusals is the guard's
refuses_at : (fun given owner client : ℕ) → NotGuards (lock_answer fun given owner client)
refuses_at zero given owner client = refl
refuses_at (suc zero) given owner client = tt
refuses_at (suc (suc zero)) given owner client = at (owner == client) (owner == 0)
  where
    at : (b1 b2 : Bool) → NotGuards (cond b1 (Some (Refused Held)) (cond b2 (Some (Ok (record { desc = 0; words = []; bytes = [] }))) None))
    at true b2 = refl
    at false true = tt
    at false false = tt
refuses_at (suc (suc (suc zero))) given owner client = at (owner == client)
  where
    at : (b : Bool) → NotGuards (cond b (Some (Ok (record { desc = 0; words = []; bytes = [] }))) (Some (Refused NotOwner)))
    at true = tt
    at false = refl
refuses_at (suc (suc (suc (suc zero)))) given owner client = at (owner == 0)
  where
    at : (b : Bool) → NotGuards (cond b (Some (Ok (record { desc = 0; words = []; bytes = [] }))) (Some (Refused Held)))
    at true = tt
    at false = refl
refuses_at (suc (suc (suc (suc (suc n))))) given owner client = refl

blocks_at : (fun given owner client : ℕ) → lock_answer fun given owner client ≡ None → (fun_at lock_facts.funs fun).block ≡ true
blocks_at zero given owner client is = absurd (cc is)
blocks_at (suc zero) given owner client is = absurd (cc is)
blocks_at (suc (suc zero)) given owner client is = refl
blocks_at (suc (suc (suc zero))) given owner client is = absurd (at (owner == client) is)
  where
    at : (b : Bool) → cond b (Some (Ok (record { desc = 0; words = []; bytes = [] }))) (Some (Refused NotOwner)) ≡ None → ⊥
    at true is = cc is
    at false is = cc is
blocks_at (suc (suc (suc (suc zero)))) given owner client is = absurd (at (owner == 0) is)
  where
    at : (b : Bool) → cond b (Some (Ok (record { desc = 0; words = []; bytes = [] }))) (Some (Refused Held)) ≡ None → ⊥
    at true is = cc is
    at false is = cc is
blocks_at (suc (suc (suc (suc (suc n))))) given owner client is = absurd (cc is)

-- the lock service has a shape that is allowed, a call blocks only where its function may, no refusal is the guard's,
-- and an Ok has a word where a field takes one
pub lock_shape_allows : ShapeAllows lock_facts lock_table
lock_shape_allows = record {
  shape = refl;
  blocks = λ o call is. blocks_at call.fun o.given (owner_in (row_at o.rows call.desc)) call.client is;
  refuses = λ o call code is. subst NotGuards is (refuses_at call.fun o.given (owner_in (row_at o.rows call.desc)) call.client);
  words = λ o call good is wants. absurd (cc (sym (wants_none lock_facts refl call.fun) ∙ wants));
}

-- no row of the lock service has a counted word, so the greatest is 0
pub none_in_rows : (rows : List Row) → most_counted lock_facts rows ≡ 0
none_in_rows = none_counted lock_facts refl

-- the counted words of the lock service rise slowly: it has none
pub lock_counts_slowly : CountsSlowly lock_facts lock_table IsLockSound
lock_counts_slowly = never_counts lock_facts refl lock_table IsLockSound
