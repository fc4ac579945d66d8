-- The shape of a text in which nothing is wrong is one.
use Rattle.sg_describe.specs.sg_facts.Facts.{facts_of}
use Rattle.sg_own.proofs.Itself.{fits_itself}
use Rattle.sg_own.proofs.checking.own_walks.Goals as goal

pub check-requires : goal.check-requires
check-requires c = fits_itself c.args.tree.now (facts_of c.args.shape) c.requires.described.shape c.requires.shape
