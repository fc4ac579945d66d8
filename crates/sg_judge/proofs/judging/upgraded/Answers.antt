-- Only one verdict may be given.
use Rattle.std.proofs.Common.{map}
use Rattle.sg_explain.specs.sg_facts.Facts.{facts_of}
use Rattle.sg_explain.proofs.sg_input.OneVerdict.{only}
use Rattle.sg_judge.specs.Said.{IsRenewed}
use Rattle.sg_judge.proofs.OneSaid.{one_renewed}
use Rattle.sg_judge.proofs.judging.upgraded.Goals as goal

pub returns-clause-only : goal.returns-clause-only
returns-clause-only c = let services = map facts_of c.args.shapes.now in only (IsRenewed services c.args.text.now) c.judge_upgrade.result (one_renewed services c.args.text.now) c.judge_upgrade.ensures
