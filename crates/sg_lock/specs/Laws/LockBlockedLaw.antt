-- Who is blocked on a lock stays blocked until it is released or ended.
use Rattle.std.proofs.Common.{◌≡◌, ℕ, zero, suc, Bool, true, false, cond, not, List, [], None, Some, refl, sym, ◌∙◌, ap}
use Rattle.std.specs.Prelude.{◌==◌}
use Rattle.std.specs.declared.option.Option.{Option}
use Rattle.sg_facts.specs.sg_base.declared.value.Value.{Value}
use Rattle.sg_facts.specs.sg_base.declared.call.Call.{Call}
use Rattle.sg_facts.specs.sg_base.declared.reply.Code.TheVariants.{Held, NotOwner}
use Rattle.sg_facts.specs.sg_base.declared.reply.Good.{Good}
use Rattle.sg_facts.specs.sg_base.declared.reply.Reply.{Reply}
use Rattle.sg_facts.specs.sg_base.declared.reply.Reply.TheVariants.{Ok, Refused}
use Rattle.sg_facts.specs.declared.row.Row.{Row}
use Rattle.sg_facts.specs.Track.{row_at, new_row, ends_with}
use Rattle.sg_facts.specs.Inside.Rows.{row_after}
use Rattle.sg_facts.specs.Object.{Object, after}
use Rattle.sg_facts.specs.Laws.{BlockedStays, state_in, leaves_blocked}
use Rattle.sg_facts.proofs.RowLists.{row_at-more, row_at-changed, row_at-left}
use Rattle.sg_slots.proofs.RowLaws.{two_rows, on_another}
use Rattle.sg_lock.specs.LockFacts.{lock_facts}
use Rattle.sg_lock.specs.LockTable.{lock_table, lock_answer}
use Rattle.sg_lock.specs.Inside.LockAnswer.{take_answer, owner_in}
use Rattle.sg_lock.specs.LockSound.{IsLockSound}

abbrev done_ok : Option Reply
done_ok = Some (Ok (record { desc = 0; words = []; bytes = [] }))

-- a take that blocks finds an owner
owned : (owner client : ℕ) → take_answer owner client ≡ None → (owner == 0) ≡ false
owned owner client is = at (owner == client) (owner == 0) is
  where
    at : (b1 b2 : Bool) → cond b1 (Some (Refused Held)) (cond b2 done_ok None) ≡ None → b2 ≡ false
    at true b2 is = absurd (cc is)
    at false true is = absurd (cc is)
    at false false is = refl

-- a take that is done finds none
unowned : (owner client : ℕ) (good : Good) → take_answer owner client ≡ Some (Ok good) → (owner == 0) ≡ true
unowned owner client good is = at (owner == client) (owner == 0) is
  where
    at : (b1 b2 : Bool) → cond b1 (Some (Refused Held)) (cond b2 done_ok None) ≡ Some (Ok good) → b2 ≡ true
    at true b2 is = absurd (cc is)
    at false true is = refl
    at false false is = absurd (cc is)

-- only a take blocks
pub is_take : (fun given owner client : ℕ) → lock_answer fun given owner client ≡ None → take_answer owner client ≡ None
is_take zero given owner client is = absurd (cc is)
is_take (suc zero) given owner client is = absurd (cc is)
is_take (suc (suc zero)) given owner client is = is
is_take (suc (suc (suc zero))) given owner client is = absurd (at (owner == client) is)
  where
    at : (b : Bool) → cond b done_ok (Some (Refused NotOwner)) ≡ None → ⊥
    at true is = cc is
    at false is = cc is
is_take (suc (suc (suc (suc zero)))) given owner client is = absurd (at (owner == 0) is)
  where
    at : (b : Bool) → cond b done_ok (Some (Refused Held)) ≡ None → ⊥
    at true is = cc is
    at false is = cc is
is_take (suc (suc (suc (suc (suc n))))) given owner client is = absurd (cc is)

-- a call that blocks on a lock goes on to block as long as the lock has this owner, whatever else is given
still : (fun given given' owner client : ℕ) → lock_answer fun given owner client ≡ None → lock_answer fun given' owner client ≡ None
still zero given given' owner client is = absurd (cc is)
still (suc zero) given given' owner client is = absurd (cc is)
still (suc (suc zero)) given given' owner client is = is
still (suc (suc (suc zero))) given given' owner client is = is
still (suc (suc (suc (suc zero)))) given given' owner client is = is
still (suc (suc (suc (suc (suc n))))) given given' owner client is = absurd (cc is)

-- a lock with an owner has a row
has_row : (found : Option Row) → (owner_in found == 0) ≡ false → (r : Row) × (found ≡ Some r)
has_row None is = absurd (cc is)
has_row (Some r) is = (r, refl)

module _ (o : Object) (client seq desc : ℕ) (args : List Value) (other : Call) (blocked : (owner_in (row_at o.rows other.desc) == 0) ≡ false) where
  abbrev call_of : ℕ → Call
  call_of fun = record { client = client; seq = seq; fun = fun; desc = desc; args = args }

  -- its row stays as it is
  row_stays : (fun : ℕ) (good : Good) → lock_answer fun o.given (owner_in (row_at o.rows desc)) client ≡ Some (Ok good)
      → leaves_blocked lock_facts o (call_of fun) other ≡ true
      → row_at (after lock_facts o (call_of fun) (Ok good)).rows other.desc ≡ row_at o.rows other.desc
  row_stays zero good is leaves = absurd (cc is)
  row_stays (suc zero) good is leaves =
      let found = has_row (row_at o.rows other.desc) blocked in
      row_at-more o.rows (new_row lock_facts (call_of 1) good) found.0 other.desc found.1 ∙ sym found.1
  row_stays (suc (suc zero)) good is leaves =
      row_at-changed (row_after lock_facts (call_of 2) good) (λ r. refl) o.rows desc other.desc
      (two_rows (λ row. owner_in row == 0) o.rows other.desc desc blocked (unowned (owner_in (row_at o.rows desc)) client good is))
  row_stays (suc (suc (suc zero))) good is leaves =
      row_at-changed (row_after lock_facts (call_of 3) good) (λ r. refl) o.rows desc other.desc (on_another desc other.desc leaves)
  row_stays (suc (suc (suc (suc zero)))) good is leaves =
      row_at-left (λ id. not (ends_with lock_facts o.rows desc id)) o.rows other.desc leaves
  row_stays (suc (suc (suc (suc (suc n))))) good is leaves = absurd (cc is)

-- the row of a blocked call's lock after another call
blocked_row : (o : Object) (other call : Call) (good : Good) → lock_table o other ≡ None → lock_table o call ≡ Some (Ok good) → leaves_blocked lock_facts o call other ≡ true
    → row_at (after lock_facts o call (Ok good)).rows other.desc ≡ row_at o.rows other.desc
blocked_row o other call good blocked is leaves =
    row_stays o call.client call.seq call.desc call.args other
    (owned (owner_in (row_at o.rows other.desc)) other.client (is_take other.fun o.given (owner_in (row_at o.rows other.desc)) other.client blocked))
    call.fun good is leaves

-- who is blocked on a lock stays blocked after any call that neither releases nor ends the lock
pub lock_blocked_stays : BlockedStays lock_facts lock_table IsLockSound
lock_blocked_stays = record {
  blocked = λ o other call good sound passes blocked passes_too is leaves.
      ap (λ row. lock_answer other.fun (after lock_facts o call (Ok good)).given (owner_in row) other.client) (blocked_row o other call good blocked is leaves)
      ∙ still other.fun o.given (after lock_facts o call (Ok good)).given (owner_in (row_at o.rows other.desc)) other.client blocked;
  state = λ o other call good sound passes blocked passes_too is leaves. ap state_in (blocked_row o other call good blocked is leaves);
}
