-- What the thread service answers.
use Rattle.std.specs.Prelude.{ℕ, zero, suc, ◌+◌, ◌==◌, Bool, ◌&&◌, ◌||◌, nat_lt, if◌then◌else◌, max, List, [], ◌∷◌, None, Some, map, filter, slice_get, unwrap_or}
use Rattle.std.specs.Option.{option_map_or}
use Rattle.std.specs.declared.option.Option.{Option}
use Rattle.std.specs.List.{fold, reduce}
use Rattle.sg_facts.specs.sg_base.declared.call.Call.{Call}
use Rattle.sg_facts.specs.sg_base.declared.reply.Code.TheVariants.{NotFound}
use Rattle.sg_facts.specs.sg_base.declared.reply.Reply.{Reply}
use Rattle.sg_facts.specs.sg_base.declared.reply.Reply.TheVariants.{Ok, Refused}
use Rattle.sg_facts.specs.declared.row.Row.{Row}
use Rattle.sg_facts.specs.Track.{row_at, word_of, field_at}
use Rattle.sg_facts.specs.Object.{Object}
use Rattle.sg_facts.specs.Legal.{Table, done}

-- the rank of a thread in the queue; of one priority a smaller rank goes before
abbrev pub rank_of : Row → ℕ
rank_of r = word_of (field_at r.fields 1)

-- one more than the greatest rank of the live rows, 1 where there are none
abbrev pub next_rank : List Row → ℕ
next_rank rows = 1 + fold max 0 (map rank_of rows)

-- whether a thread goes before another: by priority, a smaller one first, then by rank, then by id
abbrev pub goes_before : Row → Row → Bool
goes_before r s =
    let p = word_of (field_at r.fields 0) in
    let q = word_of (field_at s.fields 0) in
    nat_lt p q || ((p == q) && (nat_lt (rank_of r) (rank_of s) || ((rank_of r == rank_of s) && nat_lt r.id s.id)))

-- the thread that is ready, in the state that sched_create_thd leaves, and goes before all others that are
abbrev pub first_ready : List Row → Option Row
first_ready rows = reduce (λ r s. if goes_before s r then s else r) (filter (λ r. r.state == 1) rows)

-- an Ok with a descriptor and a rank as its word
abbrev pub ranked : ℕ → ℕ → Option Reply
ranked desc rank = Some (Ok (record { desc = desc; words = rank ∷ []; bytes = [] }))

-- what the function of a number answers
abbrev pub sched_answer : ℕ → Object → Call → Option Reply
-- sched_create_thd and sched_yield answer the rank at the end of the queue
sched_answer (suc zero) o call = ranked (o.given + 1) (next_rank o.rows)
sched_answer (suc (suc zero)) o call = ranked 0 (next_rank o.rows)
-- sched_sleep and sched_wakeup
sched_answer (suc (suc (suc zero))) o call = done 0
sched_answer (suc (suc (suc (suc zero)))) o call = done 0
-- sched_wait blocks in the state that sched_sleep leaves
sched_answer (suc (suc (suc (suc (suc zero))))) o call = if option_map_or (λ r. r.state) (row_at o.rows call.desc) 0 == 3 then None else done 0
-- sched_next answers the thread that is next, if there is one
sched_answer (suc (suc (suc (suc (suc (suc zero)))))) o call = option_map_or (λ r. done r.id) (first_ready o.rows) (Some (Refused NotFound))
-- sched_place and sched_exit
sched_answer (suc (suc (suc (suc (suc (suc (suc zero))))))) o call = done 0
sched_answer (suc (suc (suc (suc (suc (suc (suc (suc zero)))))))) o call = done 0
sched_answer _ o call = Some (Refused NotFound)

-- what a service of threads answers a call at an object; None where the caller has to wait
abbrev pub sched_table : Table
sched_table o call = sched_answer call.fun o call

-- the parts of an Ok: two of sched_create_thd, none of sched_wait and sched_next, one of the others
abbrev pub sched_parts : ℕ → ℕ
sched_parts fun = unwrap_or (slice_get (0 ∷ 2 ∷ 1 ∷ 1 ∷ 1 ∷ 0 ∷ 0 ∷ []) fun) 1
