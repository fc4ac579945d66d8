use Rattle.std.proofs.Common.{length}
use Rattle.test_world.proofs.run.+ascends.Given as goal

abbrev pub decreases-ascends : goal.decreases-ascends
decreases-ascends l = length l.numbers.now
