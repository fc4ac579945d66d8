-- No function in the statements so far has too many rules.
use Rattle.std.proofs.Common.{◌≡◌, [], take}
use Rattle.std.specs.List.{filter_map}
use Rattle.sg_shape.specs.Flaws.{extra_rule}
use Rattle.sg_shape.proofs.rules.first_extra_rule.Given as goal

abbrev pub invariant-statements : goal.invariant-statements
invariant-statements l = filter_map extra_rule (take l.statement-index l.statements) ≡ []
