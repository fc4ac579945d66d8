-- No statement so far has a flaw.
use Rattle.std.proofs.Common.{◌≡◌, Some, take}
use Rattle.sg_check_statements.specs.Inside.Pieces.{NoStatement}
use Rattle.sg_check_statements.proofs.judge.first_flaw.Given as goal

abbrev pub invariant-statements : goal.invariant-statements
invariant-statements g l = NoStatement (λ before s p. g.J.Judge.flaw l.judge s ≡ Some p) (take l.statement-index l.statements)
