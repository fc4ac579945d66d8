-- The replies compute, and the other one doesn't.
use Rattle.std.proofs.Common.{refl}
use Rattle.sg_facts.specs.Laws.{whole}
use Rattle.sg_load.specs.Services.sg_event.EventFacts.{event_facts}
use Rattle.sg_load.specs.Services.sg_event.EventTable.{event_table}
use Rattle.test_histories.specs.EventRows.{one_waits, both_waits}
use Rattle.sg_facts.proofs.Legality.{IsLegal-from, LegalFrom-is}
use Rattle.test_histories.proofs.events.one_waits.Goals as goal

pub returns-clause-legal : goal.returns-clause-legal
returns-clause-legal c = IsLegal-from (whole event_facts) event_table one_waits (refl, (refl, (refl, tt)))

pub returns-clause-wrong : goal.returns-clause-wrong
returns-clause-wrong c legal = cc ((LegalFrom-is (whole event_facts) event_table both_waits legal).1.1.1.0)
