-- Each call has fewer left.
use Rattle.std.proofs.Common.{length}
use Rattle.sg_known.proofs.survey.+all_keep_client.Given as goal

abbrev pub decreases-all_keep_client : goal.decreases-all_keep_client
decreases-all_keep_client l = length l.funs.now
