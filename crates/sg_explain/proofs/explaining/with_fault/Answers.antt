-- Why stands after the line that refuses the input.
use Rattle.std.proofs.Common.{◌++◌, ◌∙◌, ap}
use Rattle.sg_explain.specs.Explained.{why_at}
use Rattle.sg_explain.specs.Words.{script_words}
use Rattle.sg_explain.proofs.explaining.with_fault.Goals as goal

pub returns : goal.returns
returns c =
    c.in_ok-put_why.ensures ∙ ap (λ w. c.in_ok-told.told ++ why_at c.args.script.now c.args.fault.at w) c.script_words.ensures
    ∙ ap (λ l. l ++ why_at c.args.script.now c.args.fault.at (script_words c.args.fault.kind)) c.in_ok-told.ensures
