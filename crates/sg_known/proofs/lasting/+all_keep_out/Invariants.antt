-- Each call has fewer left.
use Rattle.std.proofs.Common.{length}
use Rattle.sg_known.proofs.lasting.+all_keep_out.Given as goal

abbrev pub decreases-all_keep_out : goal.decreases-all_keep_out
decreases-all_keep_out l = length l.rules.now
