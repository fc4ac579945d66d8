-- What is wrong with a text has one line.
use Rattle.sg_judge.proofs.AnyInputs.{refused_alike}
use Rattle.sg_judge.proofs.laws.refused_alike.Goals as goal

pub returns : goal.returns
returns c = refused_alike
