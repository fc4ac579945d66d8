-- What is answered is all that may be.
use Rattle.std.proofs.Common.{map}
use Rattle.sg_explain.specs.sg_facts.Facts.{facts_of}
use Rattle.sg_judge.proofs.AnyInputs.{only_any}
use Rattle.sg_judge.proofs.inputs.read_any_input.Goals as goal

pub returns-clause-only : goal.returns-clause-only
returns-clause-only c = only_any (map facts_of c.args.shapes.now) c.args.input.now c.input_of.result c.input_of.ensures
