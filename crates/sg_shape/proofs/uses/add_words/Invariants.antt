-- The uses of the statements so far.
use Rattle.std.proofs.Common.{◌≡◌, ◌++◌, take}
use Rattle.std.specs.List.{filter_map}
use Rattle.sg_shape.specs.Fields.{word_use}
use Rattle.sg_shape.proofs.uses.add_words.Given as goal

abbrev pub invariant-statements : goal.invariant-statements
invariant-statements l = l.uses ≡ l.fn.uses ++ filter_map word_use (take l.statement-index l.statements)
