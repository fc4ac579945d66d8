use Rattle.test_pictures.proofs.Refused.{no_comment, no_hidden_text, no_hiding}
use Rattle.test_pictures.proofs.documents.hidden.Goals as goal

pub returns : goal.returns
returns c = record { comment = no_comment; rule = no_hiding; tag = no_hidden_text }
