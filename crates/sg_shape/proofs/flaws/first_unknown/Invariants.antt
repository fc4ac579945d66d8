-- No name in the statements so far is unknown.
use Rattle.std.proofs.Common.{◌≡◌, [], take}
use Rattle.std.specs.List.{filter_map}
use Rattle.sg_shape.specs.Flaws.{unknown_name}
use Rattle.sg_shape.proofs.flaws.first_unknown.Given as goal

abbrev pub invariant-statements : goal.invariant-statements
invariant-statements l = filter_map (unknown_name l.protos) (take l.statement-index l.statements) ≡ []
