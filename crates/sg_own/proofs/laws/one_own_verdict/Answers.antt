-- Kind by kind.
use Rattle.sg_own.proofs.One.{not_both, one_fault, one_interface}
use Rattle.sg_own.proofs.laws.one_own_verdict.Goals as goal

pub returns-clause-not_both : goal.returns-clause-not_both
returns-clause-not_both c = not_both

pub returns-clause-alone : goal.returns-clause-alone
returns-clause-alone c = one_fault

pub returns-clause-interface : goal.returns-clause-interface
returns-clause-interface c = one_interface
