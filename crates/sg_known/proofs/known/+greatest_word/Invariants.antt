-- Each call has fewer left.
use Rattle.std.proofs.Common.{length}
use Rattle.sg_known.proofs.known.+greatest_word.Given as goal

abbrev pub decreases-greatest_word : goal.decreases-greatest_word
decreases-greatest_word l = length l.rules.now
