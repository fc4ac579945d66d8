-- What the service decides is what its table says.
use Rattle.std.proofs.Common.{◌≡◌, ℕ, zero, suc, ◌≤◌, Bool, true, false, cond, List, [], ◌∷◌, None, Some, refl, sym, ◌∙◌, ap, arith}
use Rattle.std.specs.Prelude.{◌==◌}
use Rattle.std.specs.Option.{option_map}
use Rattle.std.proofs.lemmas.Bool.Decides.{nat_tests}
use Rattle.sg_facts.specs.sg_base.declared.value.Value.{Value}
use Rattle.sg_facts.specs.sg_base.declared.value.Value.TheVariants.{Word}
use Rattle.sg_facts.specs.sg_base.declared.call.Call.{Call}
use Rattle.sg_facts.specs.sg_base.declared.reply.Code.TheVariants.{Held as IsHeld, NotOwner}
use Rattle.sg_facts.specs.sg_base.declared.reply.Reply.TheVariants.{Ok, Refused}
use Rattle.sg_facts.specs.Facts.{fun_at, takes_desc}
use Rattle.sg_facts.specs.Track.{row_at}
use Rattle.sg_slots.specs.declared.decision.Decision.{Decision}
use Rattle.sg_slots.specs.declared.decision.Decision.TheVariants.{Refuse, Block, Remove}
use Rattle.sg_slots.specs.Slots.{Held, AreIds, entry_at, rows_of, row_with}
use Rattle.sg_slots.specs.Decide.{Decides}
use Rattle.sg_slots.proofs.Deciding.{plain, refuse_right, block_right, set_right, remove_right}
use Rattle.sg_slots.proofs.Rows.{row_at-rows_of}
use Rattle.sg_lock.specs.declared.lock.Lock.{Lock}
use Rattle.sg_lock.specs.LockFacts.{lock_facts}
use Rattle.sg_lock.specs.LockTable.{lock_table, lock_parts}
use Rattle.sg_lock.specs.Inside.LockAnswer.{owner_in, take_answer, release_answer, free_answer}
use Rattle.sg_lock.specs.LockRow.{lock_body}
use Rattle.sg_lock.specs.Inside.LockDecision.{set_owner, on_take, on_release, on_free}

module _ (held : Held Lock) (ids : AreIds 0 held.given held.entries) (client seq desc : ℕ) (args : List Value) (lock : Lock)
    (is_client : 1 ≤ client) (there : entry_at held.entries desc ≡ Some lock) where
  abbrev call_of : ℕ → Call
  call_of fun = record { client = client; seq = seq; fun = fun; desc = desc; args = args }

  abbrev IsRight : ℕ → Decision Lock → Type 0
  IsRight fun decision = Decides lock_facts lock_table lock_parts lock_body held (call_of fun) decision

  -- the owner in the row is the lock's
  owner_is : owner_in (row_at (rows_of lock_body held.entries) desc) ≡ lock.owner
  owner_is = ap owner_in (row_at-rows_of lock_body held.entries desc) ∙ ap (λ e. owner_in (option_map (λ l. row_with desc (lock_body l)) e)) there

  owned_state : (client == 0) ≡ false
  owned_state = grind (arith, nat_tests)

  take_at : (b1 b2 : Bool) → (lock.owner == client) ≡ b1 → (lock.owner == 0) ≡ b2 → IsRight 2 (cond b1 (Refuse IsHeld) (cond b2 (set_owner lock client) Block))
  take_at b1 b2 own free = at b1 b2
      (ap (λ o. take_answer o client) owner_is ∙ ap (λ b. cond b (Some (Refused IsHeld)) (cond (lock.owner == 0) (Some (Ok plain)) None)) own
      ∙ ap (λ b. cond b1 (Some (Refused IsHeld)) (cond b (Some (Ok plain)) None)) free)
    where
      at : (b1 b2 : Bool) → take_answer (owner_in (row_at (rows_of lock_body held.entries) desc)) client ≡ cond b1 (Some (Refused IsHeld)) (cond b2 (Some (Ok plain)) None)
          → IsRight 2 (cond b1 (Refuse IsHeld) (cond b2 (set_owner lock client) Block))
      at true b2 answered = refuse_right lock_facts lock_table lock_parts lock_body held (call_of 2) refl IsHeld answered
      at false true answered =
          set_right lock_facts lock_table lock_parts lock_body held (call_of 2) refl ids lock there refl refl refl answered (record { creator = lock.creator; owner = client }) refl
          (ap (λ b. row_with desc (record { made = 1; creator = lock.creator; parent = 0; state = cond b 1 2; fields = Word client ∷ [] })) (sym owned_state))
      at false false answered = block_right lock_facts lock_table lock_parts lock_body held (call_of 2) refl answered

  pub take_right : IsRight 2 (on_take lock client)
  take_right = take_at (lock.owner == client) (lock.owner == 0) refl refl

  release_at : (b : Bool) → (lock.owner == client) ≡ b → IsRight 3 (cond b (set_owner lock 0) (Refuse NotOwner))
  release_at true own =
      set_right lock_facts lock_table lock_parts lock_body held (call_of 3) refl ids lock there refl refl refl
      (ap (λ o. release_answer o client) owner_is ∙ ap (λ b. cond b (Some (Ok plain)) (Some (Refused NotOwner))) own) (record { creator = lock.creator; owner = 0 }) refl refl
  release_at false own =
      refuse_right lock_facts lock_table lock_parts lock_body held (call_of 3) refl NotOwner
      (ap (λ o. release_answer o client) owner_is ∙ ap (λ b. cond b (Some (Ok plain)) (Some (Refused NotOwner))) own)

  pub release_right : IsRight 3 (on_release lock client)
  release_right = release_at (lock.owner == client) refl

  free_at : (b : Bool) → (lock.owner == 0) ≡ b → IsRight 4 (cond b Remove (Refuse IsHeld))
  free_at true free =
      remove_right lock_facts lock_table lock_parts lock_body held (call_of 4) refl ids lock there refl refl refl
      (ap free_answer owner_is ∙ ap (λ b. cond b (Some (Ok plain)) (Some (Refused IsHeld))) free) refl refl
  free_at false free =
      refuse_right lock_facts lock_table lock_parts lock_body held (call_of 4) refl IsHeld (ap free_answer owner_is ∙ ap (λ b. cond b (Some (Ok plain)) (Some (Refused IsHeld))) free)

  pub free_right : IsRight 4 (on_free lock)
  free_right = free_at (lock.owner == 0) refl

-- every function but the first is called on a lock
pub on_lock : (fun : ℕ) → (fun ≡ 1 → ⊥) → 1 ≤ fun → fun ≤ 4 → takes_desc (fun_at lock_facts.funs fun) ≡ true
on_lock zero other first last = absurd (omega arith)
on_lock (suc zero) other first last = absurd (other refl)
on_lock (suc (suc zero)) other first last = refl
on_lock (suc (suc (suc zero))) other first last = refl
on_lock (suc (suc (suc (suc zero)))) other first last = refl
on_lock (suc (suc (suc (suc (suc n))))) other first last = absurd (omega arith)
