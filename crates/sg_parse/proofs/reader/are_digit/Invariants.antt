-- Zeros that come first don't matter.
use Rattle.std.proofs.Common.{◌≡◌, length}
use Rattle.sg_parse.specs.Grammar.Pieces.{are_digit}
use Rattle.sg_parse.proofs.reader.are_digit.Given as goal

abbrev pub invariant-zeros : goal.invariant-zeros
invariant-zeros l = are_digit l.byte l.fn.digits ≡ are_digit l.byte l.left

abbrev pub decreases-zeros : goal.decreases-zeros
decreases-zeros l = length l.left
