-- What the thread service holds.
use Rattle.sg_facts.specs.Object.{Object}
use Rattle.sg_slots.specs.Slots.{object_of}
use Rattle.sg_sched.specs.SchedRow.{thread_body}
use Rattle.sg_sched.specs.declared.service.SchedService.{SchedService}

-- its threads as rows, and the number of ids given
abbrev pub sched_object : SchedService → Object
sched_object s = object_of thread_body s.queue
