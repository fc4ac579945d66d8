-- What is read is the one answer.
use Rattle.sg_parse.proofs.Whole.{only}
use Rattle.sg_parse.proofs.parser.parse.Goals as goal

pub returns-clause-only : goal.returns-clause-only
returns-clause-only c = λ other. only c.args.text.now c.tree_of.result other c.tree_of.ensures
