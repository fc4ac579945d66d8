-- Parameter by parameter.
use Rattle.std.proofs.Common.{sym, ap}
use Rattle.std.specs.Prelude.{slice_get}
use Rattle.sg_shape.proofs.Loops.{first_gathered, nothing_more}
use Rattle.sg_describe.specs.AnswerFlaws.{text_param}
use Rattle.sg_describe.proofs.flaws.first_text_param.Goals as goal

pub params-preserved : goal.params-preserved
params-preserved c =
    nothing_more text_param c.args.params.now c.params.param-index c.param-item.result c.params-test.true c.param-item.is c.params.invariant (sym c.in_default.ensures)

pub returns-in-Some : goal.returns-in-Some
returns-in-Some c =
    sym (ap (λ l. slice_get l 0)
    (first_gathered text_param c.args.params.now c.params.param-index c.param-item.result c.in-Some.at c.params-test.true c.param-item.is c.params.invariant (sym c.in-Some.ensures)))
