-- What is said of it is its output.
use Rattle.std.proofs.Common.{subst}
use Rattle.sg_judge.specs.OwnExplained.{IsExplainedAny}
use Rattle.sg_top.specs.Answer.{services}
use Rattle.sg_top.proofs.Saying.{of_text}
use Rattle.sg_top.proofs.output.explained.Goals as goal

pub returns-clause-said : goal.returns-clause-said
returns-clause-said c =
    of_text (IsExplainedAny services c.args.bytes.now) c.in_ok-said.said c.output_saying.result.status c.output_saying.result.text c.output_saying.ensures.said
    (subst (λ known. IsExplainedAny known c.args.bytes.now c.in_ok-said.said) c.shapes.ensures.facts c.in_ok-said.ensures)
