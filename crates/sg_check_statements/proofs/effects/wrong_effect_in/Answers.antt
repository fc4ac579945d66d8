-- All statements are these.
use Rattle.std.proofs.Common.{◌≡◌, Some, subst}
use Rattle.std.specs.Prelude.{MatchOption}
use Rattle.sg_facts.specs.Facts.{facts_of}
use Rattle.sg_check_statements.specs.Faults.{IsFirstStatement}
use Rattle.sg_check_statements.specs.Inside.Pieces.{NoStatement, wrong_effect}
use Rattle.sg_check_statements.proofs.effects.wrong_effect_in.Goals as goal

pub returns : goal.returns
returns c = subst (λ all. MatchOption c.first_flaw.result (NoStatement (λ before s p. wrong_effect (facts_of c.args.shape.now) all s ≡ Some p) c.args.statements.now)
    (IsFirstStatement (λ before s p. wrong_effect (facts_of c.args.shape.now) all s ≡ Some p) c.args.statements.now)) c.new-all.ensures c.first_flaw.ensures
