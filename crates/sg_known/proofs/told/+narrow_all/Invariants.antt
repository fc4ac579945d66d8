-- Each call has fewer left.
use Rattle.std.proofs.Common.{length}
use Rattle.sg_known.proofs.told.+narrow_all.Given as goal

abbrev pub decreases-narrow_all : goal.decreases-narrow_all
decreases-narrow_all l = length l.tests.now
