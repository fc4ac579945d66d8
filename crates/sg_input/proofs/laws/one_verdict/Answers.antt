-- The laws of the parser and of the checker make that of verdicts.
use Rattle.sg_input.proofs.OneVerdict.{one_refusal, one_verdict}
use Rattle.sg_input.proofs.laws.one_verdict.Goals as goal

pub returns-clause-refusal : goal.returns-clause-refusal
returns-clause-refusal c = one_refusal

pub returns-clause-verdict : goal.returns-clause-verdict
returns-clause-verdict c = one_verdict
