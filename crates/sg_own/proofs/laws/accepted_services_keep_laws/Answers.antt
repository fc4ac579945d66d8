-- Safe services keep the laws.
use Rattle.sg_describe.specs.DescribedText.{described_of_text}
use Rattle.sg_describe.proofs.sg_described.Keeping.SafeLaw.{keeps_laws}
use Rattle.sg_own.proofs.laws.accepted_services_keep_laws.Goals as goal

pub returns : goal.returns
returns c = λ tree i is. keeps_laws (described_of_text tree) is.safe
