-- The words that are left.
use Rattle.std.proofs.Common.{length}
use Rattle.sg_cost.proofs.words.+read_numbers.Given as goal

abbrev pub decreases-read_numbers : goal.decreases-read_numbers
decreases-read_numbers l = length l.words.now
