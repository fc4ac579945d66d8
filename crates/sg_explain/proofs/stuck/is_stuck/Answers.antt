-- It is stuck where no walk is found.
use Rattle.sg_explain.proofs.Searching.{tells_none}
use Rattle.sg_explain.proofs.stuck.is_stuck.Goals as goal

pub returns : goal.returns
returns c = λ i are reached. tells_none i c.args.triple c.get.result c.is_none.result c.is_none.ensures reached (c.get.ensures.least i are) (c.get.ensures.none i are)
