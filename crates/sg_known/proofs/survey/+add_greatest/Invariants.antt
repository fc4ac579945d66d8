-- Each call has fewer left.
use Rattle.std.proofs.Common.{length}
use Rattle.sg_known.proofs.survey.+add_greatest.Given as goal

abbrev pub decreases-add_greatest : goal.decreases-add_greatest
decreases-add_greatest l = length l.most.now
