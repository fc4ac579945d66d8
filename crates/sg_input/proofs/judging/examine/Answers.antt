-- A text has no other answer.
use Rattle.std.proofs.Common.{map}
use Rattle.sg_facts.specs.Facts.{facts_of}
use Rattle.sg_input.specs.Examined.{IsExamined}
use Rattle.sg_input.proofs.OneVerdict.{one_examined, only}
use Rattle.sg_input.proofs.judging.examine.Goals as goal

pub returns-clause-only : goal.returns-clause-only
returns-clause-only c =
    let services = map facts_of c.args.shapes.now in
    only (IsExamined services c.args.text.now) c.examine_text.result (one_examined services c.args.text.now) c.examine_text.ensures
