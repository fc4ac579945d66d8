-- The replies compute, and the other one doesn't.
use Rattle.std.proofs.Common.{refl}
use Rattle.sg_facts.specs.Laws.{whole}
use Rattle.sg_load.specs.Services.sg_lock.LockFacts.{lock_facts}
use Rattle.sg_load.specs.Services.sg_lock.LockTable.{lock_table}
use Rattle.test_histories.specs.LockRows.{release_wakes, both_own}
use Rattle.sg_facts.proofs.Legality.{IsLegal-from, LegalFrom-is}
use Rattle.test_histories.proofs.locks.release_wakes.Goals as goal

pub returns-clause-legal : goal.returns-clause-legal
returns-clause-legal c = IsLegal-from (whole lock_facts) lock_table release_wakes (refl, (refl, (refl, (refl, (refl, tt)))))

pub returns-clause-wrong : goal.returns-clause-wrong
returns-clause-wrong c legal = cc ((LegalFrom-is (whole lock_facts) lock_table both_own legal).1.1.0)
