-- Each kind is looked for where the ones before are clear.
use Rattle.std.proofs.Common.{◌≡◌, ℕ, ◌+◌, ◌<◌, List, [], ◌∷◌, map, rules, get_or, sym, subst}
use Rattle.std.specs.Result.{MatchResult}
use Rattle.sg_facts.specs.Facts.{facts_of}
use Rattle.sg_check_statements.specs.declared.fault.CheckKind.{CheckKind}
use Rattle.sg_check_statements.specs.declared.fault.CheckKind.TheVariants.{UnknownService, DuplicateName, UnknownFunction, BadParams, WrongFact, WrongFlag, WrongEffect, ForeignTransition, ForeignRecover, NoCreation}
use Rattle.sg_check_statements.specs.Faults.{kind_rank}
use Rattle.sg_check_statements.specs.Stages.{IsClear, IsFirstFault}
use Rattle.sg_check_statements.proofs.Clear.{stage}
use Rattle.sg_check_statements.proofs.stages.fit_one_by_one.Goals as goal
use Rattle.sg_check_statements.proofs.stages.fit_one_by_one.Goals.{After-unless}

-- the kinds that are looked for, as `KINDS` lists them
kinds : List CheckKind
kinds = DuplicateName ∷ UnknownFunction ∷ BadParams ∷ WrongFact ∷ WrongFlag ∷ WrongEffect ∷ ForeignTransition ∷ ForeignRecover ∷ NoCreation ∷ []

-- they are listed in their order, after the service's
in_order : (i : ℕ) → i < 9 → kind_rank (get_or kinds i UnknownService) ≡ i + 1
unfolding kinds
in_order i listed = search rules

-- what a kind answers: one kind more is clear, or its first fault is the first of all
answered : (c : After-unless) → let services = map facts_of c.args.services.now in
    MatchResult c.unless.result (λ _. IsClear services c.args.tree.now (facts_of c.in_ok-shape.shape.now) (c.loop-kind.kind-index + 1 + 1)) (IsFirstFault services c.args.tree.now)
unfolding kinds
answered c =
    let services = map facts_of c.args.services.now in
    let facts = facts_of c.in_ok-shape.shape.now in
    let kind = get_or kinds c.loop-kind.kind-index UnknownService in
    let rank = in_order c.loop-kind.kind-index c.loop-kind-test.true in
    let clear = subst (IsClear services c.args.tree.now facts) (sym rank) c.loop-kind.invariant in
    let told = stage services c.args.tree.now facts kind c.in_ok-first_of.field-0 clear (c.in_ok-first_of.ensures services c.loop-kind.invariant.service) c.unless.result c.unless.ensures in
    subst (λ n. MatchResult c.unless.result (λ _. IsClear services c.args.tree.now facts (n + 1)) (IsFirstFault services c.args.tree.now)) rank told

pub returns-in_err-unless : goal.returns-in_err-unless
returns-in_err-unless c = let told = answered (goal.at.returns-in_err-unless c).After-unless in search rules

pub loop-kind-preserved : goal.loop-kind-preserved
loop-kind-preserved c = let told = answered (goal.at.loop-kind-preserved c).After-unless in search rules
