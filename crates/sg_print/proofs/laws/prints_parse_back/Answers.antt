use Rattle.sg_print.proofs.Law.{prints_back}
use Rattle.sg_print.proofs.laws.prints_parse_back.Goals as goal

pub returns : goal.returns
returns c = λ text tree a. prints_back text tree a
