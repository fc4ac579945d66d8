-- The replies compute, and the other one doesn't.
use Rattle.std.proofs.Common.{◌≡◌, Some, refl, ap}
use Rattle.sg_facts.specs.Laws.{whole}
use Rattle.sg_load.specs.Services.sg_lock.LockFacts.{lock_facts}
use Rattle.sg_load.specs.Services.sg_lock.LockTable.{lock_table}
use Rattle.test_histories.specs.Written.{ok_at, with_reply}
use Rattle.test_histories.specs.LockRows.{four_calls}
use Rattle.sg_facts.proofs.Legality.{IsLegal-from, LegalFrom-is}
use Rattle.test_histories.proofs.Replies.{desc_in}
use Rattle.test_histories.proofs.locks.four_calls.Goals as goal

pub returns-clause-legal : goal.returns-clause-legal
returns-clause-legal c = IsLegal-from (whole lock_facts) lock_table four_calls (refl, (refl, (refl, (refl, tt))))

pub returns-clause-wrong : goal.returns-clause-wrong
returns-clause-wrong c legal =
    let is : Some (ok_at 1) ≡ Some (ok_at 2) = (LegalFrom-is (whole lock_facts) lock_table (with_reply 0 (ok_at 2) four_calls) legal).0 in
    let ids : 1 ≡ 2 = ap desc_in is in
    cc ids
