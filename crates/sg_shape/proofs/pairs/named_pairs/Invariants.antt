-- The pairs that the statements so far name.
use Rattle.std.proofs.Common.{◌≡◌, take}
use Rattle.std.specs.List.{filter_map}
use Rattle.sg_shape.specs.ShapeOfText.{pair_in}
use Rattle.sg_shape.proofs.pairs.named_pairs.Given as goal

abbrev pub invariant-statements : goal.invariant-statements
invariant-statements l = l.named ≡ filter_map (pair_in l.word l.statements) (take l.statement-index l.statements)
