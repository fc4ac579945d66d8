-- What is found in a text of this service is the first fault of the kind.
use Rattle.std.proofs.Common.{◌≡◌, ℕ, List, Some, Ok, Err, codes}
use Rattle.std.specs.Prelude.{IfOk, MatchOption}
use Rattle.std.specs.declared.option.Option.{Option}
use Rattle.std.specs.declared.result.Result.{Result}
use Rattle.sg_facts.specs.Facts.{Facts, facts_of}
use Rattle.sg_parse.specs.declared.tree.Statement.{Statement}
use Rattle.sg_parse.specs.declared.tree.Tree.{Tree}
use Rattle.sg_check_statements.specs.declared.fault.CheckKind.TheVariants.{UnknownFunction}
use Rattle.sg_check_statements.specs.Faults.{IsFirstStatement}
use Rattle.sg_check_statements.specs.Flaws.{foreign}
use Rattle.sg_check_statements.specs.Inside.OneKind.{IsFirstPlace}
use Rattle.sg_check_statements.specs.Inside.Pieces.{NoStatement, unknown, wrong_effect}
use Rattle.sg_check_statements.proofs.Clear.{each_statement}
use Rattle.sg_check_statements.proofs.stages.first_of.Goals as goal

-- what is found of names, where there was memory
unknown_first : {E : Type 0} (tree : Tree) (facts : Facts) (own : List Statement) (r : Result (Option ℕ) E) → own ≡ tree.statements
    → IfOk r (λ o. MatchOption o (NoStatement (λ before s p. unknown facts own s ≡ Some p) own) (IsFirstStatement (λ before s p. unknown facts own s ≡ Some p) own))
    → IfOk r (IsFirstPlace tree facts UnknownFunction)
unknown_first tree facts own (Ok found) same told =
    λ services service. each_statement services tree (λ all f before s p. unknown f all s ≡ Some p) facts found service own same told
unknown_first tree facts own (Err e) same told = tt

pub returns-in-UnknownFunction : goal.returns-in-UnknownFunction
returns-in-UnknownFunction c = rw c.in-UnknownFunction.is
    (unknown_first c.args.tree.now (facts_of c.args.shape.now) _ c.unknown_in.result c.as_slice-statements.ensures c.unknown_in.ensures)

pub returns-in-WrongEffect : goal.returns-in-WrongEffect
returns-in-WrongEffect c services service = rw c.in-WrongEffect.is
    (each_statement services c.args.tree.now (λ own f before s p. wrong_effect f own s ≡ Some p) _ _ service _ c.as_slice-statements.ensures c.wrong_effect_in.ensures)

pub returns-in-ForeignTransition : goal.returns-in-ForeignTransition
returns-in-ForeignTransition c services service = rw c.in-ForeignTransition.is
    (each_statement services c.args.tree.now (λ own f before s p. foreign (codes "sm_transition") f.moves f s ≡ Some p) _ _ service _ c.as_slice-statements.ensures c.foreign_transition.ensures)

pub returns-in-ForeignRecover : goal.returns-in-ForeignRecover
returns-in-ForeignRecover c services service = rw c.in-ForeignRecover.is
    (each_statement services c.args.tree.now (λ own f before s p. foreign (codes "sm_recover") f.steps f s ≡ Some p) _ _ service _ c.as_slice-statements.ensures c.foreign_recover.ensures)
