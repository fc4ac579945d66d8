-- A text has no other verdict.
use Rattle.std.proofs.Common.{map}
use Rattle.sg_facts.specs.Facts.{facts_of}
use Rattle.sg_input.specs.Verdicts.{IsCompiled}
use Rattle.sg_input.proofs.OneVerdict.{one_compiled, only}
use Rattle.sg_input.proofs.judging.compiled.Goals as goal

pub returns-clause-only : goal.returns-clause-only
returns-clause-only c =
    let services = map facts_of c.args.shapes.now in
    only (IsCompiled services c.args.text.now) c.judge_tables.result (one_compiled services c.args.text.now) c.judge_tables.ensures
