use Rattle.test_pictures.proofs.Reading.{all_allowed, picture_shows}
use Rattle.test_pictures.proofs.documents.document_read.Goals as goal

pub returns : goal.returns
returns c = record { allowed = λ facts ended bytes r. all_allowed r; shown = λ facts ended bytes r. picture_shows r }
