use Rattle.test_pictures.proofs.Refused.{nothing_closed, nothing_open}
use Rattle.test_pictures.proofs.documents.left_open.Goals as goal

pub returns : goal.returns
returns c = record { open_one = nothing_open; closed = nothing_closed }
