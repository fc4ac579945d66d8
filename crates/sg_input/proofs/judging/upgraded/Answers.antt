-- A text has no other verdict.
use Rattle.std.proofs.Common.{map}
use Rattle.sg_facts.specs.Facts.{facts_of}
use Rattle.sg_input.specs.Verdicts.{IsUpgraded}
use Rattle.sg_input.proofs.OneVerdict.{one_upgraded, only}
use Rattle.sg_input.proofs.judging.upgraded.Goals as goal

pub returns-clause-only : goal.returns-clause-only
returns-clause-only c =
    let services = map facts_of c.args.shapes.now in
    only (IsUpgraded services c.args.text.now) c.judge_upgrade.result (one_upgraded services c.args.text.now) c.judge_upgrade.ensures
