-- What is said of it is its output.
use Rattle.std.proofs.Common.{subst}
use Rattle.sg_judge.specs.Said.{IsChecked}
use Rattle.sg_top.specs.Answer.{services}
use Rattle.sg_top.proofs.Saying.{of_text}
use Rattle.sg_top.proofs.output.checked.Goals as goal

pub returns-clause-line : goal.returns-clause-line
returns-clause-line c =
    of_text (IsChecked services c.args.text.now) c.in_ok-said.said c.output_saying.result.status c.output_saying.result.text c.output_saying.ensures.said
    (subst (λ known. IsChecked known c.args.text.now c.in_ok-said.said) c.shapes.ensures.facts c.in_ok-said.ensures.verdict)
