use Rattle.test_recovery.proofs.SchedRuns.{one_walk_two_clients-recovered}
use Rattle.test_recovery.proofs.threads.one_walk_two_clients.Goals as goal

pub returns : goal.returns
returns c = record { recovered = one_walk_two_clients-recovered }
