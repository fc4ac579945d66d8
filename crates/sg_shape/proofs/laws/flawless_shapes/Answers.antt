-- Part by part.
use Rattle.sg_shape.proofs.Goods.{keeps}
use Rattle.sg_shape.proofs.Shapes.{fits}
use Rattle.sg_shape.proofs.laws.flawless_shapes.Goals as goal

pub returns-clause-fits : goal.returns-clause-fits
returns-clause-fits c = fits

pub returns-clause-allowed : goal.returns-clause-allowed
returns-clause-allowed c = keeps
