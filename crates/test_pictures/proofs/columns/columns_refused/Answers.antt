use Rattle.test_pictures.proofs.Lines.{no_escape, no_other_head, no_word}
use Rattle.test_pictures.proofs.columns.columns_refused.Goals as goal

pub returns : goal.returns
returns c = record { escape = no_escape; head = no_other_head; word = no_word }
