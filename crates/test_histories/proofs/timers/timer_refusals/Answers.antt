-- The replies compute, and the other one doesn't.
use Rattle.std.proofs.Common.{refl}
use Rattle.sg_facts.specs.Laws.{whole}
use Rattle.sg_load.specs.Services.sg_timer.TimerFacts.{timer_facts}
use Rattle.sg_load.specs.Services.sg_timer.TimerTable.{timer_table}
use Rattle.test_histories.specs.TimerRows.{timer_refusals}
use Rattle.test_histories.specs.Written.{ok_with, with_reply}
use Rattle.sg_facts.proofs.Legality.{IsLegal-from, LegalFrom-is}
use Rattle.test_histories.proofs.timers.timer_refusals.Goals as goal

pub returns-clause-legal : goal.returns-clause-legal
returns-clause-legal c = IsLegal-from (whole timer_facts) timer_table timer_refusals (refl, (refl, (refl, (refl, (refl, (refl, tt))))))

pub returns-clause-wrong : goal.returns-clause-wrong
returns-clause-wrong c legal = cc ((LegalFrom-is (whole timer_facts) timer_table (with_reply 3 (ok_with 2 2) timer_refusals) legal).1.1.1.0)
