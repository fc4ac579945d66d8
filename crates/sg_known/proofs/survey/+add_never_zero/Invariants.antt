-- Each call has fewer left.
use Rattle.std.proofs.Common.{length}
use Rattle.sg_known.proofs.survey.+add_never_zero.Given as goal

abbrev pub decreases-add_never_zero : goal.decreases-add_never_zero
decreases-add_never_zero l = length l.fields.now
