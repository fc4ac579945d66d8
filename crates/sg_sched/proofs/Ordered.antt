-- What the orders of the queue tell of the threads' rows.
use Rattle.std.proofs.Common.{◌≡◌, ℕ, Bool, true, false, List, None, Some, refl, sym, ◌∙◌, ap, subst, arith}
use Rattle.std.specs.Prelude.{◌==◌, ◌≤◌, if◌then◌else◌}
use Rattle.std.specs.declared.option.Option.{Option}
use Rattle.sg_slots.specs.Slots.{AreIds, row_with, rows_of}
use Rattle.sg_slots.specs.declared.standing.Standing.{Standing}
use Rattle.sg_slots.specs.Orders.{HasGreatest, IsGreatest}
use Rattle.sg_slots.proofs.FirstRows.{Agrees, row_of, row_standing, found_row_of, rows_all}
use Rattle.sg_sched.specs.declared.thread.Thread.{Thread}
use Rattle.sg_sched.specs.SchedRow.{thread_body}
use Rattle.sg_sched.specs.SchedTable.{rank_of}
use Rattle.sg_sched.specs.Inside.SchedAnswer.{prio_of, is_ready}
use Rattle.sg_sched.specs.Inside.SchedOrders.{in_queue, by_rank}
use Rattle.sg_sched.specs.Inside.SchedRanks.{most, most_within, found_most}

-- ---- the queue

-- where a thread stands if it is ready
abbrev queued : Thread → Bool → Option Standing
queued t ready = if ready then Some (record { first = t.prio; second = t.rank }) else None

-- whether it is ready is told by its state
by_state : (id : ℕ) (t : Thread) (b : Bool) → t.ready ≡ b → is_ready (row_with id (thread_body t)) ≡ ((if b then 1 else 3) == 1)
by_state id t b is = ap (λ b. (if b then 1 else 3) == 1) is

inside : (id : ℕ) (t : Thread) (b : Bool) → t.ready ≡ b → is_ready (row_with id (thread_body t)) ≡ true → in_queue t ≡ Some (row_standing prio_of rank_of (row_with id (thread_body t)))
inside id t true is passes = ap (queued t) is
inside id t false is passes = let clash : true ≡ false = sym passes ∙ by_state id t false is in absurd (cc clash)

outside : (id : ℕ) (t : Thread) (b : Bool) → t.ready ≡ b → in_queue t ≡ None → is_ready (row_with id (thread_body t)) ≡ false
outside id t true is none = let clash : queued t true ≡ None = sym (ap (queued t) is) ∙ none in absurd (cc clash)
outside id t false is none = by_state id t false is

passes : (id : ℕ) (t : Thread) (s : Standing) (b : Bool) → t.ready ≡ b → in_queue t ≡ Some s → is_ready (row_with id (thread_body t)) ≡ true
passes id t s true is some = by_state id t true is
passes id t s false is some = let clash : queued t false ≡ Some s = sym (ap (queued t) is) ∙ some in absurd (cc clash)

-- a thread stands in the queue as its row does
pub queue_agrees : Agrees thread_body in_queue prio_of rank_of is_ready
queue_agrees = record {
  inside = λ id t is. inside id t t.ready refl is;
  outside = λ id t none. outside id t t.ready refl none;
  passes = λ id t s some. passes id t s t.ready refl some;
}

-- ---- ranks

module _ (given : ℕ) (es : List (ℕ × Thread)) (ids : AreIds 0 given es) where
  -- the greatest number by rank is the greatest rank
  pub greatest_rank : (rank : ℕ) → HasGreatest by_rank es rank → most 0 (rows_of thread_body es) ≡ rank
  greatest_rank rank has =
      let least = found_most 0 (rows_of thread_body es) has.id (row_of thread_body has.id has.entry) (found_row_of thread_body es has.id has.entry has.there) in
      let up = most_within 0 given 0 rank (rows_of thread_body es) (omega arith) (rows_all thread_body given es ids (λ r. rank_of r ≤ rank) has.greatest) in
      let is = has.is in
      omega (arith, least, up, is)

  -- where there is no thread there is no rank
  pub no_rank : IsGreatest by_rank es None → most 0 (rows_of thread_body es) ≡ 0
  no_rank none =
      let up = most_within 0 given 0 0 (rows_of thread_body es) (omega arith) (rows_all thread_body given es ids (λ r. rank_of r ≤ 0) (λ n u there. absurd (none n u there))) in
      omega (arith, up)
