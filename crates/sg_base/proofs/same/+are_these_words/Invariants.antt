-- The words that are left.
use Rattle.std.proofs.Common.{length}
use Rattle.sg_base.proofs.same.+are_these_words.Given as goal

abbrev pub decreases-are_these_words : goal.decreases-are_these_words
decreases-are_these_words l = length l.words.now
