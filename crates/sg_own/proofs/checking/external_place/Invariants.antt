-- No statement so far says that a function does something outside.
use Rattle.std.proofs.Common.{◌≡◌, [], take}
use Rattle.std.specs.List.{filter_map}
use Rattle.sg_own.specs.Faults.{external_in}
use Rattle.sg_own.proofs.checking.external_place.Given as goal

abbrev pub invariant-statements : goal.invariant-statements
invariant-statements l = filter_map (external_in l.statements) (take l.statement-index l.statements) ≡ []
