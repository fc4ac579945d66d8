-- The members that are left.
use Rattle.std.proofs.Common.{length}
use Rattle.sg_multi.proofs.traced.+push_traces.Given as goal

abbrev pub decreases-push_traces : goal.decreases-push_traces
decreases-push_traces l = length l.services.now
