-- Of the first things that are wrong, neither is before the other.
use Rattle.sg_check.proofs.Unique.{same_fault}
use Rattle.sg_check.proofs.laws.one_fault.Goals as goal

pub returns : goal.returns
returns c = same_fault
