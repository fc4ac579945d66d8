-- The row of an id is that of its timer, and no timer has a parent.
use Rattle.std.proofs.Common.{refl, sym, ◌∙◌, ap}
use Rattle.std.specs.Option.{option_map, is_some}
use Rattle.sg_slots.specs.Slots.{row_with}
use Rattle.sg_slots.proofs.Ids.{above_low}
use Rattle.sg_slots.proofs.RowLaws.{copied_some, no_child}
use Rattle.sg_slots.proofs.Rows.{row_at-rows_of}
use Rattle.sg_timer.specs.TimerRow.{timer_body}
use Rattle.sg_timer.proofs.service.TimerService.timer.Goals as goal

pub returns : goal.returns
returns c =
    let timers = c.args.self.now.queue in
    record {
      row = row_at-rows_of timer_body timers.entries c.args.id ∙ ap (option_map (λ t. row_with c.args.id (timer_body t))) (sym c.get.ensures.entry);
      id = λ some. above_low 0 timers.given c.args.id timers.entries c.get.ensures.ascending (ap is_some (sym c.get.ensures.entry) ∙ copied_some c.get.result some);
      childless = no_child timer_body (λ t. refl) timers.entries;
    }
