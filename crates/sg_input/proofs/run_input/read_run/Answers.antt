-- What is answered is all that may be.
use Rattle.std.proofs.Common.{map}
use Rattle.sg_facts.specs.Facts.{facts_of}
use Rattle.sg_input.specs.Inputs.{judged_by}
use Rattle.sg_input.proofs.OneInput.{judged_alone}
use Rattle.sg_input.proofs.OneRun.{only}
use Rattle.sg_input.proofs.run_input.read_run.Goals as goal

pub returns-clause-only : goal.returns-clause-only
returns-clause-only c =
    let services = map facts_of c.args.shapes.now in
    only (judged_by services) (judged_alone services) c.args.input.now c.run_input_of.result c.run_input_of.ensures.input
