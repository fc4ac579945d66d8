-- Each call has fewer left.
use Rattle.std.proofs.Common.{length}
use Rattle.sg_known.proofs.survey.+keep_client.Given as goal

abbrev pub decreases-keep_client : goal.decreases-keep_client
decreases-keep_client l = length l.effects.now
