-- Only one verdict may be given.
use Rattle.std.proofs.Common.{map}
use Rattle.sg_explain.specs.sg_facts.Facts.{facts_of}
use Rattle.sg_explain.proofs.sg_input.OneVerdict.{only}
use Rattle.sg_judge.specs.Said.{IsChecked}
use Rattle.sg_judge.proofs.OneSaid.{one_checked}
use Rattle.sg_judge.proofs.judging.verdict.Goals as goal

pub returns-clause-only : goal.returns-clause-only
returns-clause-only c = let services = map facts_of c.args.shapes.now in only (IsChecked services c.args.text.now) c.judge.result (one_checked services c.args.text.now) c.judge.ensures
