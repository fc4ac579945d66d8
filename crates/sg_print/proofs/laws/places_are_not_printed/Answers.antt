use Rattle.sg_print.proofs.Places.{same_text}
use Rattle.sg_print.proofs.laws.places_are_not_printed.Goals as goal

pub returns : goal.returns
returns c = λ one other e. same_text one other e
