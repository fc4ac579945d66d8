-- Spots told apart are not the same.
use Rattle.sg_safe.proofs.Keying.{has_it}
use Rattle.sg_safe.proofs.spot_set.SpotSet.has.Goals as goal

pub returns : goal.returns
returns c = has_it c.self.inside.spots.keys c.args.self.now c.args.spot c.contains.result c.contains.ensures c.self.view_is
