-- The words that are left.
use Rattle.std.proofs.Common.{length}
use Rattle.sg_report.proofs.words.+push_more_words.Given as goal

abbrev pub decreases-push_more_words : goal.decreases-push_more_words
decreases-push_more_words l = length l.words.now
