-- What is left after so many bytes is all of it.
use Rattle.std.proofs.Common.{◌∙◌, ◌-◌, ap, drop, length}
use Rattle.sg_explain.proofs.Seams.{rest_whole}
use Rattle.sg_explain.proofs.places.last_line.Goals as goal

pub returns : goal.returns
returns c =
    let text = c.args.text.now in
    rest_whole text (length text - c.last_line_len.result) ∙ ap (λ n. drop (length text - n) text) c.last_line_len.ensures.value
