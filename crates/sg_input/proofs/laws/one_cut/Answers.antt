use Rattle.sg_input.proofs.OneCut.{one_cut}
use Rattle.sg_input.proofs.laws.one_cut.Goals as goal

pub returns : goal.returns
returns c = one_cut
