use Rattle.sg_walk.proofs.PairSets.{one_more}
use Rattle.sg_walk.proofs.step_set.StepSet.new.Goals as goal

pub pairs-preserved : goal.pairs-preserved
pairs-preserved c = one_more c.args.pairs.now c.pairs.pair-index _ c.pairs.set.keys c.insert.new.self.keys c.pairs-test.true c.in_ok-insert.ensures.updates.0 c.pairs.invariant
