-- The test of the words tells.
use Rattle.sg_base.proofs.SameParts.{words_tell}
use Rattle.sg_base.proofs.same.are_same_words.Goals as goal

pub returns : goal.returns
returns c = words_tell c.args.words.now c.args.others.now c.eq.result c.eq.ensures
