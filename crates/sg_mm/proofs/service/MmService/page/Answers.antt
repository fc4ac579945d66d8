-- The row of an id is that of its page.
use Rattle.std.proofs.Common.{sym, ◌∙◌, ap}
use Rattle.std.specs.Option.{is_some, option_map}
use Rattle.sg_slots.specs.Slots.{row_with}
use Rattle.sg_slots.proofs.Ids.{above_low}
use Rattle.sg_slots.proofs.RowLaws.{copied_some}
use Rattle.sg_slots.proofs.Rows.{row_at-rows_of}
use Rattle.sg_mm.specs.MmRow.{page_body}
use Rattle.sg_mm.proofs.service.MmService.page.Goals as goal

pub returns : goal.returns
returns c =
    let pages = c.args.self.now.pages in
    record {
      row = row_at-rows_of page_body pages.entries c.args.id ∙ ap (option_map (λ p. row_with c.args.id (page_body p))) (sym c.get.ensures.entry);
      id = λ some. above_low 0 pages.given c.args.id pages.entries c.get.ensures.ascending (ap is_some (sym c.get.ensures.entry) ∙ copied_some c.get.result some);
    }
