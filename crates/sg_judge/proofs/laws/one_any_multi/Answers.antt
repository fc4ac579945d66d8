-- By how texts are judged.
use Rattle.sg_explain.proofs.sg_input.OneMulti.{one_multi_input}
use Rattle.sg_judge.specs.AnyInputs.{any_judging}
use Rattle.sg_judge.proofs.AnyInputs.{any_judged_alone}
use Rattle.sg_judge.proofs.laws.one_any_multi.Goals as goal

pub returns : goal.returns
returns c = λ services. one_multi_input (any_judging services) (any_judged_alone services)
