-- The values that are left.
use Rattle.std.proofs.Common.{length}
use Rattle.sg_base.proofs.args.+are_same_values.Given as goal

abbrev pub decreases-are_same_values : goal.decreases-are_same_values
decreases-are_same_values l = length l.values.now
