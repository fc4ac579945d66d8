use Rattle.test_recovery.proofs.Steps.{rebuilt_for_take-recovering}
use Rattle.test_recovery.proofs.locks.rebuilt_for_take.Goals as goal

pub returns : goal.returns
returns c = record { recovering = rebuilt_for_take-recovering }
