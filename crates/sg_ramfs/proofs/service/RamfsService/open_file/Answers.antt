-- The row of an id is that of its open file.
use Rattle.std.proofs.Common.{◌≡◌, sym, ◌∙◌, ap, subst}
use Rattle.std.specs.Option.{option_copied, option_map}
use Rattle.sg_facts.specs.Track.{row_at}
use Rattle.sg_slots.specs.Slots.{row_with}
use Rattle.sg_slots.proofs.Rows.{row_at-rows_of}
use Rattle.sg_ramfs.specs.RamfsRow.{file_body}
use Rattle.sg_ramfs.specs.Inside.RamfsTree.{tree_rows}
use Rattle.sg_ramfs.proofs.service.RamfsService.open_file.Goals as goal

pub returns : goal.returns
returns c =
    subst (λ s. row_at (tree_rows s.tree) c.args.id ≡ option_map (λ f. row_with c.args.id (file_body f)) (option_copied c.get.result)) c.self.view_is
    (row_at-rows_of file_body c.self.inside.tree.entries c.args.id ∙ ap (option_map (λ f. row_with c.args.id (file_body f))) (sym c.get.ensures.entry))
