-- What is said of it is its output.
use Rattle.std.proofs.Common.{subst}
use Rattle.sg_judge.specs.Said.{IsTabled}
use Rattle.sg_top.specs.Answer.{services}
use Rattle.sg_top.proofs.Saying.{of_text}
use Rattle.sg_top.proofs.output.tabled.Goals as goal

pub returns-clause-tables : goal.returns-clause-tables
returns-clause-tables c =
    of_text (IsTabled services c.args.text.now) c.in_ok-said.said c.output_saying.result.status c.output_saying.result.text c.output_saying.ensures.said
    (subst (λ known. IsTabled known c.args.text.now c.in_ok-said.said) c.shapes.ensures.facts c.in_ok-said.ensures.verdict)
