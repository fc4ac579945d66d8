-- The first timer of the queue has the first row.
use Rattle.std.proofs.Common.{◌∙◌, ap}
use Rattle.std.specs.Option.{option_map}
use Rattle.sg_slots.specs.Slots.{rows_of}
use Rattle.sg_slots.proofs.FirstRows.{first_row}
use Rattle.sg_timer.specs.TimerRow.{timer_body}
use Rattle.sg_timer.specs.TimerTable.{left_of, tag_of}
use Rattle.sg_timer.specs.Inside.TimerFirst.{any_row, first_of_all}
use Rattle.sg_timer.specs.Inside.TimerOrders.{by_left}
use Rattle.sg_timer.proofs.Ordered.{left_agrees}
use Rattle.sg_timer.proofs.service.next_timer.Goals as goal

pub returns : goal.returns
returns c =
    let held = c.args.queue.now in
    first_row timer_body by_left left_of tag_of any_row left_agrees held.given held.entries c.first.ensures.ascending c.first.result c.first.ensures.first
    ∙ ap (option_map (λ r. r.id)) (first_of_all (rows_of timer_body held.entries))
