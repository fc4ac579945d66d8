use Rattle.std.proofs.Common.{length}
use Rattle.test_world.proofs.fits.+words_fit.Given as goal

abbrev pub decreases-words_fit : goal.decreases-words_fit
decreases-words_fit l = length l.kinds.now
