-- The row of an id is that of its entry, and no entry has a parent.
use Rattle.std.proofs.Common.{sym, ◌∙◌, ap}
use Rattle.std.specs.Option.{option_map, is_some}
use Rattle.sg_slots.specs.Slots.{row_with}
use Rattle.sg_slots.proofs.Ids.{above_low}
use Rattle.sg_slots.proofs.RowLaws.{copied_some, no_child}
use Rattle.sg_slots.proofs.Rows.{row_at-rows_of}
use Rattle.sg_slots.proofs.service.RowService.get.Goals as goal

pub returns : goal.returns
returns g c =
    let body = g.E.Slot.body in
    let held = c.args.self.now.slots in
    record {
      row = row_at-rows_of body held.entries c.args.id ∙ ap (option_map (λ e. row_with c.args.id (body e))) (sym c.get.ensures.entry);
      id = λ some. above_low 0 held.given c.args.id held.entries c.get.ensures.ascending (ap is_some (sym c.get.ensures.entry) ∙ copied_some c.get.result some);
      childless = no_child body g.met.E.RowRules.alone held.entries;
    }
