-- The values that are left.
use Rattle.std.proofs.Common.{length}
use Rattle.sg_cost.proofs.words.+read_values.Given as goal

abbrev pub decreases-read_values : goal.decreases-read_values
decreases-read_values l = length l.values.now
