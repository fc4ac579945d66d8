use Rattle.test_pictures.proofs.Early.{is_picture}
use Rattle.test_pictures.proofs.documents.document_drawn.Goals as goal

pub returns : goal.returns
returns c = record { drawn = is_picture }
