-- By the laws one by one.
use Rattle.sg_described.proofs.Keeping.SafeLaw.{keeps_laws, safe_tells}
use Rattle.sg_described.proofs.laws.safe_services_keep_laws.Goals as goal

pub returns : goal.returns
returns c = λ d is. keeps_laws d (safe_tells d is)
