use Rattle.sg_input.specs.Inputs.{judged_by}
use Rattle.sg_input.proofs.OneInput.{judged_alone, one_input}
use Rattle.sg_input.proofs.laws.one_input.Goals as goal

pub returns : goal.returns
returns c = λ services. one_input (judged_by services) (judged_alone services)
