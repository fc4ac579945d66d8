-- What was printed is the line.
use Rattle.std.proofs.Common.{◌∙◌, ap}
use Rattle.std.specs.Prelude.{codes}
use Rattle.std.specs.Fmt.{decimal}
use Rattle.sg_input.specs.Lines.{entries_kind_name}
use Rattle.sg_input.specs.Inside.Places.{line_of, column_of}
use Rattle.sg_input.proofs.PlacedLine.{regrouped, same_line}
use Rattle.sg_input.proofs.lines.run_line.Goals as goal

pub returns : goal.returns
returns c =
    c.from_vec.ensures ∙ ap (λ v. v.items) c.into_bytes.ensures.value ∙ c.in_ok-said.ensures.ok
    ∙ same_line (codes "run refused at ") _ _ _ _ _ _ c.line_of-line.ensures c.column_of-column.ensures c.entries_kind_name-kind.ensures
    ∙ regrouped (codes "run refused at ") (decimal (line_of c.args.run.now c.args.at)) (decimal (column_of c.args.run.now c.args.at)) (entries_kind_name c.args.kind)
