-- By what is wrong.
use Rattle.sg_own.proofs.One.{kinds}
use Rattle.sg_own.proofs.laws.own_kinds.Goals as goal

pub returns : goal.returns
returns c = kinds
