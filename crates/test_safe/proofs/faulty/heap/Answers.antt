-- By computing.
use Rattle.std.proofs.Common.{refl}
use Rattle.test_safe.proofs.faulty.heap.Goals as goal

pub returns-clause-plain : goal.returns-clause-plain
returns-clause-plain c = refl
