-- The first thread of the queue has the first row.
use Rattle.sg_slots.proofs.FirstRows.{first_row}
use Rattle.sg_sched.specs.SchedRow.{thread_body}
use Rattle.sg_sched.specs.SchedTable.{rank_of}
use Rattle.sg_sched.specs.Inside.SchedAnswer.{prio_of, is_ready}
use Rattle.sg_sched.specs.Inside.SchedOrders.{in_queue}
use Rattle.sg_sched.proofs.Ordered.{queue_agrees}
use Rattle.sg_sched.proofs.service.first_thread.Goals as goal

pub returns : goal.returns
returns c =
    let held = c.args.queue.now in
    first_row thread_body in_queue prio_of rank_of is_ready queue_agrees held.given held.entries c.first.ensures.ascending c.first.result c.first.ensures.first
