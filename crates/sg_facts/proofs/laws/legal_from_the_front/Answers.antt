use Rattle.sg_facts.proofs.Legality.{IsLegal-from, LegalFrom-is}
use Rattle.sg_facts.proofs.laws.legal_from_the_front.Goals as goal

pub returns : goal.returns
returns c = λ i ask history. (LegalFrom-is i ask history, IsLegal-from i ask history)
