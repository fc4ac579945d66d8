-- What was printed is the line.
use Rattle.std.proofs.Common.{◌∙◌, ap}
use Rattle.std.specs.Fmt.{decimal}
use Rattle.sg_input.specs.Inside.Places.{line_of, column_of}
use Rattle.sg_input.proofs.PlacedLine.{numbered, same_numbered}
use Rattle.sg_input.proofs.lines.member_line.Goals as goal

pub returns : goal.returns
returns c =
    c.from_vec.ensures ∙ ap (λ v. v.items) c.into_bytes.ensures.value ∙ c.in_ok-said.ensures.ok
    ∙ same_numbered c.args.number _ _ _ _ _ c.line_of-line.ensures c.column_of-column.ensures
    ∙ numbered c.args.number (decimal (line_of c.args.text.now c.args.at)) (decimal (column_of c.args.text.now c.args.at)) c.args.name.now
