-- What the service decides is what its table says.
use Rattle.std.proofs.Common.{◌≡◌, ℕ, zero, suc, ◌+◌, ◌≤◌, Bool, true, false, cond, not, List, [], ◌∷◌, ◌++◌, None, Some, refl, sym, ◌∙◌, ap, arith}
use Rattle.std.specs.Prelude.{◌==◌, ◌||◌, map, filter, if◌then◌else◌}
use Rattle.std.specs.declared.option.Option.{Option}
use Rattle.std.specs.Option.{option_map, is_some}
use Rattle.sg_facts.specs.sg_base.declared.value.Value.{Value}
use Rattle.sg_facts.specs.sg_base.declared.value.Value.TheVariants.{Word}
use Rattle.sg_facts.specs.sg_base.declared.call.Call.{Call}
use Rattle.sg_facts.specs.sg_base.declared.reply.Good.{Good}
use Rattle.sg_facts.specs.sg_base.declared.reply.Reply.{Reply}
use Rattle.sg_facts.specs.sg_base.declared.reply.Reply.TheVariants.{Ok, Refused}
use Rattle.sg_facts.specs.declared.row.Row.{Row}
use Rattle.sg_facts.specs.Facts.{fun_at, takes_desc}
use Rattle.sg_facts.specs.Laws.{state_in}
use Rattle.sg_facts.specs.Track.{row_at, arg_at}
use Rattle.sg_facts.specs.Inside.Rows.{row_after}
use Rattle.sg_facts.specs.Object.{Object, patch_of}
use Rattle.sg_slots.specs.declared.decision.Decision.{Decision}
use Rattle.sg_slots.specs.declared.decision.Decision.TheVariants.{Block, Keep, Remove}
use Rattle.sg_slots.specs.Slots.{Held, AreIds, entry_at, object_of, rows_of, row_with, set_entry}
use Rattle.sg_slots.specs.Decide.{Decides}
use Rattle.sg_slots.proofs.Rows.{row_at-rows_of, rows_of-more, rows_of-set, rows_of-without}
use Rattle.sg_slots.proofs.SoundRows.{change}
use Rattle.sg_sched.specs.declared.thread.Thread.{Thread}
use Rattle.sg_sched.specs.SchedFacts.{sched_facts}
use Rattle.sg_sched.specs.SchedTable.{sched_table, sched_parts, next_rank, first_ready}
use Rattle.sg_sched.specs.Inside.SchedAnswer.{sched_wait_answer, next_answer}
use Rattle.sg_sched.specs.SchedRow.{thread_body}
use Rattle.sg_sched.specs.Inside.SchedDecision.{on_create, on_yield, on_sleep, on_wakeup, on_thread_wait, on_next, on_place}

or_false : (b : Bool) → (b || false) ≡ b
or_false true = refl
or_false false = refl

-- rows that are changed into what they are stay
kept : (test : Row → Bool) (rows : List Row) → rows ≡ map (λ r. if test r then r else r) rows
kept test [] = refl
kept test (r ∷ rows) = at (test r) ∙ ap (λ l. (if test r then r else r) ∷ l) (kept test rows)
  where
    at : (b : Bool) → r ∷ rows ≡ cond b r r ∷ rows
    at true = refl
    at false = refl

module _ (held : Held Thread) (client seq desc : ℕ) (args : List Value) where
  abbrev call_of : ℕ → Call
  call_of fun = record { client = client; seq = seq; fun = fun; desc = desc; args = args }

  abbrev right : ℕ → Decision Thread → Type 0
  right fun d = Decides sched_facts sched_table sched_parts thread_body held (call_of fun) d

  abbrev rows : List Row
  rows = rows_of thread_body held.entries

  -- no call writes a file
  unwritten : (fun : ℕ) (reply : Reply) → patch_of sched_facts (object_of thread_body held) (call_of fun) reply ≡ None
  unwritten fun (Refused code) = refl
  unwritten zero (Ok g) = refl
  unwritten (suc zero) (Ok g) = refl
  unwritten (suc (suc zero)) (Ok g) = refl
  unwritten (suc (suc (suc zero))) (Ok g) = refl
  unwritten (suc (suc (suc (suc zero)))) (Ok g) = refl
  unwritten (suc (suc (suc (suc (suc zero))))) (Ok g) = refl
  unwritten (suc (suc (suc (suc (suc (suc zero)))))) (Ok g) = refl
  unwritten (suc (suc (suc (suc (suc (suc (suc zero))))))) (Ok g) = refl
  unwritten (suc (suc (suc (suc (suc (suc (suc (suc zero)))))))) (Ok g) = refl
  unwritten (suc (suc (suc (suc (suc (suc (suc (suc (suc n))))))))) (Ok g) = refl

  abbrev with_rows : List Row → Object
  with_rows rows = record { rows = rows; files = []; given = held.given }

  pub create_right : (prio : ℕ) → arg_at (call_of 1) 0 ≡ Word prio → right 1 (on_create client prio (next_rank rows))
  create_right prio is = record {
    about = tt;
    answered = refl;
    changed = ap (λ list. record { rows = list; files = []; given = held.given + 1 }) (rows_of-more thread_body held.entries (held.given + 1) (record { creator = client; prio = prio; rank = next_rank rows; ready = true })
        ∙ ap (λ v. rows ++ record { id = held.given + 1; made = 1; creator = client; parent = 0; state = 1; fields = v ∷ Word (next_rank rows) ∷ [] } ∷ []) (sym is));
    parted = refl;
    unwritten = unwritten 1;
  }

  pub next_right : right 6 (on_next (option_map (λ r. r.id) (first_ready rows)))
  next_right = at (first_ready rows) refl
    where
      at : (found : Option Row) → first_ready rows ≡ found → right 6 (on_next (option_map (λ r. r.id) found))
      at None is = record { about = tt; answered = ap next_answer is; changed = refl; parted = refl; unwritten = unwritten 6 }
      at (Some r) is = record { about = tt; answered = ap next_answer is; changed = refl; parted = refl; unwritten = unwritten 6 }

  module _ (ids : AreIds 0 held.given held.entries) (t : Thread) (there : entry_at held.entries desc ≡ Some t) where
    is_there : is_some (entry_at held.entries desc) ≡ true
    is_there = ap is_some there

    -- the rows after the thread is set
    rows_set : (fun : ℕ) (good : Good) (new : Thread) → row_after sched_facts (call_of fun) good (row_with desc (thread_body t)) ≡ row_with desc (thread_body new)
        → rows_of thread_body (set_entry held.entries desc new) ≡ map (change sched_facts (call_of fun) good) rows
    rows_set fun good new is = rows_of-set thread_body 0 held.given desc (row_after sched_facts (call_of fun) good) held.entries t new ids there is

    abbrev good : Good
    good = record { desc = 0; words = []; bytes = [] }

    pub yield_right : right 2 (on_yield t (next_rank rows))
    yield_right = record {
      about = is_there;
      answered = refl;
      changed = ap with_rows (rows_set 2 (record { desc = 0; words = next_rank rows ∷ []; bytes = [] }) (record t { rank = next_rank rows }) refl);
      parted = refl;
      unwritten = unwritten 2;
    }

    pub sleep_right : right 3 (on_sleep t)
    sleep_right = record { about = is_there; answered = refl; changed = ap with_rows (rows_set 3 good (record t { ready = false }) refl); parted = refl; unwritten = unwritten 3 }

    pub wake_right : right 4 (on_wakeup t)
    wake_right = record { about = is_there; answered = refl; changed = ap with_rows (rows_set 4 good (record t { ready = true }) refl); parted = refl; unwritten = unwritten 4 }

    pub wait_right : right 5 (on_thread_wait t)
    wait_right = at t.ready refl
      where
        found : state_in (row_at rows desc) ≡ (if t.ready then 1 else 3)
        found = ap state_in (row_at-rows_of thread_body held.entries desc) ∙ ap (λ o. state_in (option_map (λ u. row_with desc (thread_body u)) o)) there

        at : (b : Bool) → t.ready ≡ b → right 5 (cond b (Keep 0 None) Block)
        at true is = record {
          about = tt;
          answered = ap sched_wait_answer found ∙ ap (λ b. sched_wait_answer (if b then 1 else 3)) is;
          changed = ap with_rows (kept (λ r. r.id == desc) rows);
          parted = refl;
          unwritten = unwritten 5;
        }
        at false is = record {
          about = tt;
          answered = ap sched_wait_answer found ∙ ap (λ b. sched_wait_answer (if b then 1 else 3)) is;
          changed = tt;
          parted = tt;
          unwritten = unwritten 5;
        }

    pub place_right : (rank : ℕ) → arg_at (call_of 7) 0 ≡ Word rank → right 7 (on_place t rank)
    place_right rank is = record {
      about = is_there;
      answered = refl;
      changed = ap with_rows (rows_set 7 good (record t { rank = rank }) (ap (λ v. record { id = desc; made = 1; creator = t.creator; parent = 0; state = if t.ready then 1 else 3; fields = Word t.prio ∷ v ∷ [] }) is));
      parted = refl;
      unwritten = unwritten 7;
    }

    pub exit_right : right 8 Remove
    exit_right = record {
      about = is_there;
      answered = refl;
      changed = ap with_rows (rows_of-without thread_body 0 held.given desc held.entries ids ∙ sym (λ i. filter (λ r. not (or_false (r.id == desc) i)) rows));
      parted = refl;
      unwritten = unwritten 8;
    }

-- every function but the first and the sixth is called on a thread
pub on_thread : (fun : ℕ) → (fun ≡ 1 → ⊥) → (fun ≡ 6 → ⊥) → 1 ≤ fun → fun ≤ 8 → takes_desc (fun_at sched_facts.funs fun) ≡ true
on_thread zero one six first last = absurd (omega arith)
on_thread (suc zero) one six first last = absurd (one refl)
on_thread (suc (suc zero)) one six first last = refl
on_thread (suc (suc (suc zero))) one six first last = refl
on_thread (suc (suc (suc (suc zero)))) one six first last = refl
on_thread (suc (suc (suc (suc (suc zero))))) one six first last = refl
on_thread (suc (suc (suc (suc (suc (suc zero)))))) one six first last = absurd (six refl)
on_thread (suc (suc (suc (suc (suc (suc (suc zero))))))) one six first last = refl
on_thread (suc (suc (suc (suc (suc (suc (suc (suc zero)))))))) one six first last = refl
on_thread (suc (suc (suc (suc (suc (suc (suc (suc (suc n))))))))) one six first last = absurd (omega arith)
