use Rattle.test_recovery.proofs.EventRuns.{trigger_not_twice-recovered}
use Rattle.test_recovery.proofs.events.trigger_not_twice.Goals as goal

pub returns : goal.returns
returns c = record { recovered = trigger_not_twice-recovered }
