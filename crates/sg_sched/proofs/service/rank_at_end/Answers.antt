-- The greatest number by rank is the greatest rank.
use Rattle.std.proofs.Common.{◌≡◌, ◌+◌, ◌^◌, ◌<◌, arith}
use Rattle.sg_slots.specs.Slots.{rows_of}
use Rattle.sg_sched.specs.SchedRow.{thread_body}
use Rattle.sg_sched.specs.SchedTable.{next_rank}
use Rattle.sg_sched.proofs.Ordered.{greatest_rank, no_rank}
use Rattle.sg_sched.proofs.service.rank_at_end.Goals as goal

pub overflow_add-result : goal.overflow_add-result
overflow_add-result c =
    let held = c.args.queue.now in
    let told = greatest_rank held.given held.entries c.greatest.ensures.ascending c.in-Some.rank c.in-Some.ensures.greatest in
    let small : next_rank (rows_of thread_body held.entries) < 2 ^ 64 = c.requires in
    omega (arith, told, small)

pub returns-in-Some : goal.returns-in-Some
returns-in-Some c =
    let held = c.args.queue.now in
    let told = greatest_rank held.given held.entries c.greatest.ensures.ascending c.in-Some.rank c.in-Some.ensures.greatest in
    let next : c.in-Some.rank + 1 ≡ next_rank (rows_of thread_body held.entries) = omega (arith, told) in
    next

pub returns-in-None : goal.returns-in-None
returns-in-None c =
    let held = c.args.queue.now in
    let told = no_rank held.given held.entries c.greatest.ensures.ascending c.in-None.ensures.greatest in
    let next : 1 ≡ next_rank (rows_of thread_body held.entries) = omega (arith, told) in
    next
