-- It uses the file, and the rest is whether it takes a text.
use Rattle.std.proofs.Common.{◌∙◌, ap, not, sym}
use Rattle.std.specs.Prelude.{◌&&◌}
use Rattle.std.specs.List.{list_any}
use Rattle.sg_facts.specs.Facts.{fun_of_shape, is_text_kind}
use Rattle.sg_facts.proofs.shape.FunShape.shows_bytes.Goals as goal

pub returns-then-uses_file : goal.returns-then-uses_file
returns-then-uses_file c =
    let text = list_any is_text_kind (fun_of_shape c.args.self.now).kinds in
    ap not c.takes_text.ensures ∙ ap (λ uses. uses && not text) (sym c.if-uses_file.true ∙ c.uses_file.ensures)
