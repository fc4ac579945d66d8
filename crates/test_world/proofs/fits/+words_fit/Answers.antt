-- A text is no word.
use Rattle.test_world.proofs.NoWord.{no_word}
use Rattle.test_world.proofs.fits.+words_fit.Goals as goal

pub returns-in-Text : goal.returns-in-Text
returns-in-Text t c = no_word c.args.kinds.now c.args.words.now _ c.in-len1-up.len_at_least c.in-Text.is
