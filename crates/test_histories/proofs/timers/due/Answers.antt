-- The replies compute, and the other one doesn't.
use Rattle.std.proofs.Common.{refl}
use Rattle.sg_facts.specs.Laws.{whole}
use Rattle.sg_load.specs.Services.sg_timer.TimerFacts.{timer_facts}
use Rattle.sg_load.specs.Services.sg_timer.TimerTable.{timer_table}
use Rattle.test_histories.specs.TimerRows.{due, not_due}
use Rattle.sg_facts.proofs.Legality.{IsLegal-from, LegalFrom-is}
use Rattle.test_histories.proofs.timers.due.Goals as goal

pub returns-clause-legal : goal.returns-clause-legal
returns-clause-legal c = IsLegal-from (whole timer_facts) timer_table due (refl, (refl, (refl, (refl, (refl, (refl, (refl, tt)))))))

pub returns-clause-wrong : goal.returns-clause-wrong
returns-clause-wrong c legal = cc ((LegalFrom-is (whole timer_facts) timer_table not_due legal).1.1.0)
