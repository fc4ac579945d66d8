-- One member fewer is left.
use Rattle.std.proofs.Common.{length}
use Rattle.sg_script.proofs.names.+function_named.Given as goal

abbrev pub decreases-function_named : goal.decreases-function_named
decreases-function_named l = length l.members.now
