-- The replies compute, and the other one doesn't.
use Rattle.std.proofs.Common.{refl}
use Rattle.sg_facts.specs.Laws.{whole}
use Rattle.sg_load.specs.Services.sg_sched.SchedFacts.{sched_facts}
use Rattle.sg_load.specs.Services.sg_sched.SchedTable.{sched_table}
use Rattle.test_histories.specs.SchedRows.{woken, not_woken}
use Rattle.sg_facts.proofs.Legality.{IsLegal-from, LegalFrom-is}
use Rattle.test_histories.proofs.threads.woken.Goals as goal

pub returns-clause-legal : goal.returns-clause-legal
returns-clause-legal c = IsLegal-from (whole sched_facts) sched_table woken (refl, (refl, (refl, (refl, tt))))

pub returns-clause-wrong : goal.returns-clause-wrong
returns-clause-wrong c legal = cc ((LegalFrom-is (whole sched_facts) sched_table not_woken legal).1.1.0)
