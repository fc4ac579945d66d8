-- Who waits for a thread stays blocked until it is woken or ends.
use Rattle.std.proofs.Common.{◌≡◌, ℕ, zero, suc, Bool, true, false, cond, not, List, [], None, Some, map, refl, sym, ◌∙◌, ap, arith}
use Rattle.std.specs.Prelude.{◌==◌, ◌&&◌}
use Rattle.std.specs.declared.option.Option.{Option}
use Rattle.std.proofs.lemmas.Bool.Decides.{nat_tests}
use Rattle.sg_facts.specs.sg_base.declared.value.Value.{Value}
use Rattle.sg_facts.specs.sg_base.declared.call.Call.{Call}
use Rattle.sg_facts.specs.sg_base.declared.reply.Good.{Good}
use Rattle.sg_facts.specs.sg_base.declared.reply.Reply.TheVariants.{Ok}
use Rattle.sg_facts.specs.declared.row.Row.{Row}
use Rattle.sg_facts.specs.Track.{row_at, new_row, ends_with}
use Rattle.sg_facts.specs.Inside.Rows.{row_after}
use Rattle.sg_facts.specs.Object.{Object, after}
use Rattle.sg_facts.specs.Laws.{BlockedStays, state_in, leaves_blocked}
use Rattle.sg_facts.proofs.RowLists.{id_of_row, row_at-more, row_at-left}
use Rattle.sg_slots.proofs.SoundRows.{change, change_id, found_changed}
use Rattle.sg_sched.specs.SchedFacts.{sched_facts}
use Rattle.sg_sched.specs.SchedTable.{sched_table, first_ready, sched_answer}
use Rattle.sg_sched.specs.Inside.SchedAnswer.{sched_wait_answer, next_answer}
use Rattle.sg_sched.specs.SchedSound.{IsSchedSound}

-- a wait that blocks finds its thread asleep
asleep : (state : ℕ) → sched_wait_answer state ≡ None → state ≡ 3
asleep state is = at (state == 3) refl is
  where
    at : (b : Bool) → (state == 3) ≡ b → cond b None (Some (Ok (record { desc = 0; words = []; bytes = [] }))) ≡ None → state ≡ 3
    at true test is = grind (arith, nat_tests)
    at false test is = absurd (cc is)

-- what is next is told at once
pub next_told : (found : Option Row) → next_answer found ≡ None → ⊥
next_told None is = cc is
next_told (Some r) is = cc is

-- only a wait blocks
waits : (fun : ℕ) (o : Object) (call : Call) → sched_answer fun o call ≡ None → sched_wait_answer (state_in (row_at o.rows call.desc)) ≡ None
waits zero o call is = absurd (cc is)
waits (suc zero) o call is = absurd (cc is)
waits (suc (suc zero)) o call is = absurd (cc is)
waits (suc (suc (suc zero))) o call is = absurd (cc is)
waits (suc (suc (suc (suc zero)))) o call is = absurd (cc is)
waits (suc (suc (suc (suc (suc zero))))) o call is = is
waits (suc (suc (suc (suc (suc (suc zero)))))) o call is = absurd (next_told (first_ready o.rows) is)
waits (suc (suc (suc (suc (suc (suc (suc zero))))))) o call is = absurd (cc is)
waits (suc (suc (suc (suc (suc (suc (suc (suc zero)))))))) o call is = absurd (cc is)
waits (suc (suc (suc (suc (suc (suc (suc (suc (suc n))))))))) o call is = absurd (cc is)

-- and it blocks wherever its thread is in the same state
still : (fun : ℕ) (o o' : Object) (call : Call) → state_in (row_at o'.rows call.desc) ≡ state_in (row_at o.rows call.desc) → sched_answer fun o call ≡ None → sched_answer fun o' call ≡ None
still zero o o' call same is = absurd (cc is)
still (suc zero) o o' call same is = absurd (cc is)
still (suc (suc zero)) o o' call same is = absurd (cc is)
still (suc (suc (suc zero))) o o' call same is = absurd (cc is)
still (suc (suc (suc (suc zero)))) o o' call same is = absurd (cc is)
still (suc (suc (suc (suc (suc zero))))) o o' call same is = ap sched_wait_answer same ∙ is
still (suc (suc (suc (suc (suc (suc zero)))))) o o' call same is = absurd (next_told (first_ready o.rows) is)
still (suc (suc (suc (suc (suc (suc (suc zero))))))) o o' call same is = absurd (cc is)
still (suc (suc (suc (suc (suc (suc (suc (suc zero)))))))) o o' call same is = absurd (cc is)
still (suc (suc (suc (suc (suc (suc (suc (suc (suc n))))))))) o o' call same is = absurd (cc is)

-- a thread that is asleep is there
has_row : (found : Option Row) → state_in found ≡ 3 → (r : Row) × (found ≡ Some r)
has_row None is = absurd (omega (arith, is))
has_row (Some r) is = (r, refl)

-- two ids that a test tells apart
apart : (m n : ℕ) → not (m == n) ≡ true → m ≡ n → ⊥
apart m n other same =
    let test : (m == n) ≡ true = grind (arith, nat_tests) in
    let clash : false ≡ true = sym (ap not test) ∙ other in
    cc clash

-- what is left of a test
only : (a : Bool) → (a && true) ≡ true → a ≡ true
only true is = refl
only false is = absurd (cc is)

module _ (o : Object) (client seq desc : ℕ) (args : List Value) (other : Call) (asleep_at : state_in (row_at o.rows other.desc) ≡ 3) where
  abbrev call_of : ℕ → Call
  call_of fun = record { client = client; seq = seq; fun = fun; desc = desc; args = args }

  abbrev state_then : ℕ → Good → ℕ
  state_then fun good = state_in (row_at (after sched_facts o (call_of fun) (Ok good)).rows other.desc)

  -- a change of a thread that leaves its state if it is the one that is waited for
  unchanged : (fun : ℕ) (good : Good) → ((r : Row) → r.state ≡ 3 → r.id ≡ other.desc → r.id ≡ desc → (row_after sched_facts (call_of fun) good r).state ≡ 3)
      → state_in (row_at (map (change sched_facts (call_of fun) good) o.rows) other.desc) ≡ state_in (row_at o.rows other.desc)
  unchanged fun good keeps =
      let found = has_row (row_at o.rows other.desc) asleep_at in
      let state : found.0.state ≡ 3 = sym (ap state_in found.1) ∙ asleep_at in
      ap state_in (found_changed (change sched_facts (call_of fun) good) (change_id sched_facts (call_of fun) good) o.rows other.desc found.0 found.1)
      ∙ at found.0 state (id_of_row o.rows other.desc found.0 found.1) (found.0.id == desc) refl ∙ sym asleep_at
    where
      at : (r : Row) → r.state ≡ 3 → r.id ≡ other.desc → (b : Bool) → (r.id == desc) ≡ b → (cond b (row_after sched_facts (call_of fun) good r) r).state ≡ 3
      at r state id true test = let same : r.id ≡ desc = grind (arith, nat_tests) in keeps r state id same
      at r state id false test = state

  state_stays : (fun : ℕ) (good : Good) → sched_answer fun o (call_of fun) ≡ Some (Ok good) → leaves_blocked sched_facts o (call_of fun) other ≡ true
      → state_then fun good ≡ state_in (row_at o.rows other.desc)
  state_stays zero good is leaves = absurd (cc is)
  state_stays (suc zero) good is leaves =
      let found = has_row (row_at o.rows other.desc) asleep_at in
      ap state_in (row_at-more o.rows (new_row sched_facts (call_of 1) good) found.0 other.desc found.1 ∙ sym found.1)
  state_stays (suc (suc zero)) good is leaves = unchanged 2 good (λ r state id same. state)
  state_stays (suc (suc (suc zero))) good is leaves = unchanged 3 good (λ r state id same. refl)
  state_stays (suc (suc (suc (suc zero)))) good is leaves = unchanged 4 good (λ r state id same. absurd (apart desc other.desc (only _ leaves) (sym same ∙ id)))
  state_stays (suc (suc (suc (suc (suc zero))))) good is leaves = unchanged 5 good (λ r state id same. state)
  state_stays (suc (suc (suc (suc (suc (suc zero)))))) good is leaves = refl
  state_stays (suc (suc (suc (suc (suc (suc (suc zero))))))) good is leaves = unchanged 7 good (λ r state id same. state)
  state_stays (suc (suc (suc (suc (suc (suc (suc (suc zero)))))))) good is leaves =
      ap state_in (row_at-left (λ id. not (ends_with sched_facts o.rows desc id)) o.rows other.desc leaves)
  state_stays (suc (suc (suc (suc (suc (suc (suc (suc (suc n))))))))) good is leaves = absurd (cc is)

-- the state of the thread that is waited for stays
blocked_state : (o : Object) (other call : Call) (good : Good) → sched_table o other ≡ None → sched_table o call ≡ Some (Ok good) → leaves_blocked sched_facts o call other ≡ true
    → state_in (row_at (after sched_facts o call (Ok good)).rows other.desc) ≡ state_in (row_at o.rows other.desc)
blocked_state o other call good blocked is leaves =
    state_stays o call.client call.seq call.desc call.args other (asleep (state_in (row_at o.rows other.desc)) (waits other.fun o other blocked)) call.fun good is leaves

-- who is blocked on a thread stays blocked until it is woken or ended
pub sched_blocked_stays : BlockedStays sched_facts sched_table IsSchedSound
sched_blocked_stays = record {
  blocked = λ o other call good sound passes blocked passes_too is leaves.
      still other.fun o (after sched_facts o call (Ok good)) other (blocked_state o other call good blocked is leaves) blocked;
  state = λ o other call good sound passes blocked passes_too is leaves. blocked_state o other call good blocked is leaves;
}
