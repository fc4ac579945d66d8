-- The test of the words tells.
use Rattle.std.proofs.Common.{◌∙◌}
use Rattle.sg_base.proofs.SameValues.{words_same}
use Rattle.sg_base.proofs.args.are_same_words.Goals as goal

pub returns : goal.returns
returns c = c.eq.ensures ∙ words_same c.args.words.now c.args.others.now
