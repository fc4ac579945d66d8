-- One field fewer is left.
use Rattle.std.proofs.Common.{length}
use Rattle.sg_shape.proofs.flaws.+is_text_name.Given as goal

abbrev pub decreases-is_text_name : goal.decreases-is_text_name
decreases-is_text_name l = length l.fields.now
