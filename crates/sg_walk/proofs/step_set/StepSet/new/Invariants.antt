use Rattle.std.proofs.Common.{take}
use Rattle.sg_walk.specs.Inside.StepSets.{SamePairs}
use Rattle.sg_walk.proofs.step_set.StepSet.new.Given as goal

abbrev pub invariant-pairs : goal.invariant-pairs
invariant-pairs l = SamePairs (take l.pair-index l.pairs) l.set.keys
