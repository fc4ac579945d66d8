-- Pairs of a shape are plain data.
use Rattle.std.proofs.Common.{◌≡◌, Some, codes, sym, subst}
use Rattle.std.specs.Prelude.{MatchOption}
use Rattle.sg_facts.specs.Facts.{facts_of}
use Rattle.sg_check_statements.specs.Faults.{IsFirstStatement}
use Rattle.sg_check_statements.specs.Inside.Pieces.{NoStatement}
use Rattle.sg_check_statements.specs.Flaws.{foreign}
use Rattle.sg_check_statements.proofs.Judged.{same_pairs}
use Rattle.sg_check_statements.proofs.pairs.foreign_recover.Goals as goal

pub returns : goal.returns
returns c = subst (λ pairs. MatchOption c.first_flaw.result (NoStatement (λ before s p. foreign (codes "sm_recover") pairs (facts_of c.args.shape.now) s ≡ Some p) c.args.statements.now)
    (IsFirstStatement (λ before s p. foreign (codes "sm_recover") pairs (facts_of c.args.shape.now) s ≡ Some p) c.args.statements.now)) (sym (same_pairs c.args.shape.now.steps.now)) c.first_flaw.ensures
