-- A line shows no text.
use Rattle.std.proofs.Common.{refl}
use Rattle.std.proofs.lemmas.Result.{on_ok_weaker}
use Rattle.sg_draw.proofs.Documents.{draws_line}
use Rattle.sg_draw.proofs.svg.push_line.Goals as goal

pub returns-in-Across : goal.returns-in-Across
returns-in-Across c =
    on_ok_weaker _ (draws_line c.args.out.now _ c.class_of.result c.args.x c.args.y 72 c.in-Across.to c.class_of.ensures refl) c.write_line.ensures

pub returns-in-Down : goal.returns-in-Down
returns-in-Down c =
    on_ok_weaker _ (draws_line c.args.out.now _ c.class_of-in-Down.result c.args.x c.args.y 86 c.in-Down.to c.class_of-in-Down.ensures refl) c.write_line-in-Down.ensures
