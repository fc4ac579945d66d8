-- One service fewer is left.
use Rattle.std.proofs.Common.{length}
use Rattle.sg_check_statements.proofs.services.+service_in.Given as goal

abbrev pub decreases-service_in : goal.decreases-service_in
decreases-service_in l = length l.services.now
