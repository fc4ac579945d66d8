-- By what is said.
use Rattle.sg_judge.proofs.OneSaid.{one_checked}
use Rattle.sg_judge.proofs.laws.one_verdict.Goals as goal

pub returns : goal.returns
returns c = one_checked
