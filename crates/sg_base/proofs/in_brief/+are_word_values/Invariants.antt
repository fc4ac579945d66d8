-- The values that are left.
use Rattle.std.proofs.Common.{length}
use Rattle.sg_base.proofs.in_brief.+are_word_values.Given as goal

abbrev pub decreases-are_word_values : goal.decreases-are_word_values
decreases-are_word_values l = length l.values.now
