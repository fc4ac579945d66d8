-- Part by part.
use Rattle.sg_describe.proofs.Plain.{plain}
use Rattle.sg_describe.proofs.laws.flawless_texts_are_plain.Goals as goal

pub returns : goal.returns
returns c = plain
