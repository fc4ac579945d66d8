-- The values that are left.
use Rattle.std.proofs.Common.{length}
use Rattle.sg_needs.proofs.line.+first_text.Given as goal

abbrev pub decreases-first_text : goal.decreases-first_text
decreases-first_text l = length l.values.now
