use Rattle.sg_hist.proofs.Growing.{legal-more}
use Rattle.sg_recovery_laws.proofs.laws.legal_stays.Goals as goal

pub returns : goal.returns
returns c = legal-more
