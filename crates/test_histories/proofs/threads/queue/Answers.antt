-- The replies compute, and the other one doesn't.
use Rattle.std.proofs.Common.{◌≡◌, Some, refl, ap}
use Rattle.sg_facts.specs.Laws.{whole}
use Rattle.sg_load.specs.Services.sg_sched.SchedFacts.{sched_facts}
use Rattle.sg_load.specs.Services.sg_sched.SchedTable.{sched_table}
use Rattle.test_histories.specs.Written.{ok_at, with_reply}
use Rattle.test_histories.specs.SchedRows.{queue}
use Rattle.sg_facts.proofs.Legality.{IsLegal-from, LegalFrom-is}
use Rattle.test_histories.proofs.Replies.{desc_in}
use Rattle.test_histories.proofs.threads.queue.Goals as goal

pub returns-clause-legal : goal.returns-clause-legal
returns-clause-legal c = IsLegal-from (whole sched_facts) sched_table queue (refl, (refl, (refl, (refl, (refl, (refl, tt))))))

pub returns-clause-wrong : goal.returns-clause-wrong
returns-clause-wrong c legal =
    let is : Some (ok_at 3) ≡ Some (ok_at 2) = (LegalFrom-is (whole sched_facts) sched_table (with_reply 5 (ok_at 2) queue) legal).1.1.1.1.1.0 in
    let ids : 3 ≡ 2 = ap desc_in is in
    cc ids
