-- A triple has a walk where one stands at it.
use Rattle.sg_check.proofs.Seeking.{tells_walk}
use Rattle.sg_check.proofs.stuck.has_walk.Goals as goal

pub returns : goal.returns
returns c = λ i are. tells_walk i c.args.triple.now c.get.result c.is_some.result c.is_some.ensures (c.get.ensures.least i are) (c.get.ensures.none i are)
