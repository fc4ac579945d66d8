-- What is said of a history by what a service answers.
use Rattle.sg_top.proofs.Running.{of_one}
use Rattle.sg_top.proofs.services.verify_run.Goals as goal

pub returns : goal.returns
returns g c = of_one c.verify.result _ _ (λ said is. record { is = is }) c.verify.ensures.verdict
