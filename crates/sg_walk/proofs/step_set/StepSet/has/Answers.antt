use Rattle.sg_walk.proofs.PairSets.{has_it}
use Rattle.sg_walk.proofs.step_set.StepSet.has.Goals as goal

pub returns : goal.returns
returns c = has_it c.args.self.now c.self.inside.pairs.keys c.args.state c.args.fun c.contains.result c.contains.ensures c.self.view_is
