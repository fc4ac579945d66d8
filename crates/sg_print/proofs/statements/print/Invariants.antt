use Rattle.std.proofs.Common.{◌≡◌, ◌++◌, take}
use Rattle.std.specs.List.{flat_map}
use Rattle.sg_print.specs.Printed.{statement_text}
use Rattle.sg_print.proofs.statements.print.Given as goal

-- the statements so far stand after the facts
abbrev pub invariant-loop-statement : goal.invariant-loop-statement
invariant-loop-statement l = l.out ≡ l.initial.out ++ flat_map statement_text (take l.statement-index l.statement-items)
