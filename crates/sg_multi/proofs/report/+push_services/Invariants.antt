-- The members that are left.
use Rattle.std.proofs.Common.{length}
use Rattle.sg_multi.proofs.report.+push_services.Given as goal

abbrev pub decreases-push_services : goal.decreases-push_services
decreases-push_services l = length l.services.now
