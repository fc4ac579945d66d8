-- The effects of the statements so far.
use Rattle.std.proofs.Common.{◌≡◌, ◌++◌, take}
use Rattle.std.specs.List.{flat_map}
use Rattle.sg_check_statements.specs.Inside.Pieces.{statement_effects}
use Rattle.sg_shape.proofs.effects.add_words.Given as goal

abbrev pub invariant-statements : goal.invariant-statements
invariant-statements l = l.effects ≡ l.fn.effects ++ flat_map (statement_effects l.fun) (take l.statement-index l.statements)
