use Rattle.sg_walk.proofs.Sets.{restored}
use Rattle.sg_walk.proofs.restoring.restores.Goals as goal

pub returns : goal.returns
returns c = restored c.args.iface.now c.args.walk.now c.as_slice.result.now (record { state = c.args.state; mask = c.args.mask }) c.reaches.result c.as_slice.ensures.value c.reaches.ensures
