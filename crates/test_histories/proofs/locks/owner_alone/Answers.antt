-- The replies compute, and the other one doesn't.
use Rattle.std.proofs.Common.{refl}
use Rattle.sg_facts.specs.Laws.{whole}
use Rattle.sg_load.specs.Services.sg_lock.LockFacts.{lock_facts}
use Rattle.sg_load.specs.Services.sg_lock.LockTable.{lock_table}
use Rattle.test_histories.specs.Written.{ok, with_reply}
use Rattle.test_histories.specs.LockRows.{owner_alone}
use Rattle.sg_facts.proofs.Legality.{IsLegal-from, LegalFrom-is}
use Rattle.test_histories.proofs.locks.owner_alone.Goals as goal

pub returns-clause-legal : goal.returns-clause-legal
returns-clause-legal c = IsLegal-from (whole lock_facts) lock_table owner_alone (refl, (refl, (refl, (refl, (refl, tt)))))

pub returns-clause-wrong : goal.returns-clause-wrong
returns-clause-wrong c legal = cc ((LegalFrom-is (whole lock_facts) lock_table (with_reply 2 ok owner_alone) legal).1.1.0)
