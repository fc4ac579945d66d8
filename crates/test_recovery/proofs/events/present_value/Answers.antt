use Rattle.test_recovery.proofs.EventRuns.{present_value-recovered}
use Rattle.test_recovery.proofs.events.present_value.Goals as goal

pub returns : goal.returns
returns c = record { recovered = present_value-recovered }
