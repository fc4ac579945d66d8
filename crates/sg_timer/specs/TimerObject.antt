-- What the timer service holds.
use Rattle.sg_facts.specs.Object.{Object}
use Rattle.sg_slots.specs.Slots.{object_of}
use Rattle.sg_timer.specs.TimerRow.{timer_body}
use Rattle.sg_timer.specs.declared.service.TimerService.{TimerService}

-- its timers as rows, and the number of ids given
abbrev pub timer_object : TimerService → Object
timer_object s = object_of timer_body s.queue
