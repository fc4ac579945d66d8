-- Kind by kind.
use Rattle.sg_shape.proofs.Fitting.{own_fault}
use Rattle.sg_shape.proofs.laws.own_texts_fit.Goals as goal

pub returns : goal.returns
returns c = λ tree kind at sound fault. own_fault tree sound kind at fault.here
