-- The names so far.
use Rattle.std.proofs.Common.{take}
use Rattle.sg_check_statements.specs.NameSet.{AreOf}
use Rattle.sg_check_statements.proofs.protos.names_of.Given as goal

abbrev pub invariant-statements : goal.invariant-statements
invariant-statements l = AreOf l.names (take l.statement-index l.statements)
