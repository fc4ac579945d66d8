-- The test of the values tells.
use Rattle.sg_base.proofs.SameParts.{values_tell}
use Rattle.sg_base.proofs.same.are_same_values.Goals as goal

pub returns : goal.returns
returns c = values_tell c.args.values.now c.args.others.now c.eq.result c.eq.ensures
