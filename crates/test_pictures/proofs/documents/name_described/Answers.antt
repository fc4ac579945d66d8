use Rattle.test_pictures.proofs.Refused.{no_name}
use Rattle.test_pictures.proofs.documents.name_described.Goals as goal

pub returns : goal.returns
returns c = record { name = no_name }
