-- Kind by kind.
use Rattle.sg_describe.proofs.Clear.{not_both, one_first, some_verdict}
use Rattle.sg_describe.proofs.laws.one_verdict.Goals as goal

pub returns-clause-some : goal.returns-clause-some
returns-clause-some c = some_verdict

pub returns-clause-not_both : goal.returns-clause-not_both
returns-clause-not_both c = not_both

pub returns-clause-alone : goal.returns-clause-alone
returns-clause-alone c = one_first
