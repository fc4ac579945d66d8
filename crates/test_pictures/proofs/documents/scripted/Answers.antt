use Rattle.test_pictures.proofs.Refused.{no_image, no_script}
use Rattle.test_pictures.proofs.documents.scripted.Goals as goal

pub returns : goal.returns
returns c = record { script = no_script; image = no_image }
