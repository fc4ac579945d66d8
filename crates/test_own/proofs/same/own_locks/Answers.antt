-- By computing, and function by function.
use Rattle.test_own.proofs.SameLocks.{lock_answers, lock_is_safe}
use Rattle.test_own.proofs.same.own_locks.Goals as goal

pub returns-clause-safe : goal.returns-clause-safe
returns-clause-safe c = lock_is_safe

pub returns-clause-answers : goal.returns-clause-answers
returns-clause-answers c = lock_answers
