use Rattle.std.proofs.Common.{length}
use Rattle.sg_track.proofs.words.+set_words.Given as goal

abbrev pub decreases-set_words : goal.decreases-set_words
decreases-set_words l = length l.effects.now
