-- A text has no other verdict.
use Rattle.std.proofs.Common.{map}
use Rattle.sg_facts.specs.Facts.{facts_of}
use Rattle.sg_input.specs.Verdicts.{IsVerdict}
use Rattle.sg_input.proofs.OneVerdict.{one_verdict, only}
use Rattle.sg_input.proofs.judging.verdict.Goals as goal

pub returns-clause-only : goal.returns-clause-only
returns-clause-only c =
    let services = map facts_of c.args.shapes.now in
    only (IsVerdict services c.args.text.now) c.judge.result (one_verdict services c.args.text.now) c.judge.ensures
