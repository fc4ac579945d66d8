-- Spots told apart are not the same.
use Rattle.sg_safe.proofs.Keying.{gains}
use Rattle.sg_safe.proofs.spot_set.SpotSet.add.Goals as goal

pub returns-clause-ok : goal.returns-clause-ok
returns-clause-ok c = gains c.self.inside.spots.keys c.args.self.now c.insert.new.self.keys c.args.spot c.in_ok-insert.ensures.updates.0 c.self.view_is
