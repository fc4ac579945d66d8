-- Why stands after the line that refuses the text.
use Rattle.std.proofs.Common.{◌++◌, ◌∙◌, ap}
use Rattle.sg_explain.specs.Explained.{why_at}
use Rattle.sg_explain.specs.Words.{refusal_words}
use Rattle.sg_explain.proofs.reasons.told_at.Goals as goal

pub returns : goal.returns
returns c =
    c.in_ok-put_why.ensures ∙ ap (λ w. c.in_ok-told.told ++ why_at c.args.text.now c.args.at w) c.refusal_words.ensures
    ∙ ap (λ l. l ++ why_at c.args.text.now c.args.at (refusal_words c.args.kind)) c.in_ok-told.ensures
