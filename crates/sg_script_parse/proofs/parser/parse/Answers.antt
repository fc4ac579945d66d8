-- What is read is the one answer.
use Rattle.std.specs.Prelude.{false}
use Rattle.sg_script_parse.proofs.Whole.{only}
use Rattle.sg_script_parse.proofs.parser.parse.Goals as goal

pub returns-clause-only : goal.returns-clause-only
returns-clause-only c = λ other. only false c.args.text.now c.parts_of.result other c.parts_of.ensures
