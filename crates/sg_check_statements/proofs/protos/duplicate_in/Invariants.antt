-- The names so far, and none of them twice.
use Rattle.std.proofs.Common.{◌≡◌, Some, take}
use Rattle.sg_check_statements.specs.Inside.Pieces.{NoStatement}
use Rattle.sg_check_statements.specs.Flaws.{duplicate}
use Rattle.sg_check_statements.specs.NameSet.{AreOf}
use Rattle.sg_check_statements.proofs.protos.duplicate_in.Given as goal

abbrev pub invariant-statements : goal.invariant-statements
invariant-statements l = AreOf l.names (take l.statement-index l.statements) × NoStatement (λ before s p. duplicate before s ≡ Some p) (take l.statement-index l.statements)
