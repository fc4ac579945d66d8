use Rattle.test_recovery.proofs.EventRuns.{blocked_redone-recovered}
use Rattle.test_recovery.proofs.events.blocked_redone.Goals as goal

pub returns : goal.returns
returns c = record { recovered = blocked_redone-recovered }
