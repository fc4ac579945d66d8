-- What is answered is all that may be.
use Rattle.std.proofs.Common.{map}
use Rattle.sg_explain.specs.sg_facts.Facts.{facts_of}
use Rattle.sg_judge.proofs.AnyInputs.{only_any_multi}
use Rattle.sg_judge.proofs.members.read_any_multi.Goals as goal

pub returns-clause-only : goal.returns-clause-only
returns-clause-only c = only_any_multi (map facts_of c.args.shapes.now) c.args.input.now c.multi_input_of.result c.multi_input_of.ensures
