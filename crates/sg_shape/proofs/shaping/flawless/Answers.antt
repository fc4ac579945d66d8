-- Each kind is looked for where the ones before are clear.
use Rattle.std.proofs.Common.{◌≡◌, ℕ, ◌+◌, ◌<◌, List, [], ◌∷◌, get_or, rules, sym, ◌∙◌, ap, subst, arith}
use Rattle.std.specs.Result.{MatchResult}
use Rattle.sg_shape.specs.declared.fault.ShapeFaultKind.{ShapeFaultKind}
use Rattle.sg_shape.specs.declared.fault.ShapeFaultKind.TheVariants.{Limit, DuplicateName, UnknownFunction, BadParams, MixedField, TwoEffects, Contradiction, PrivateLooksAround, QueryTakes, FileWithoutDesc, TextChanged, BlocksOrMakes, StateOfOther, MakesOn, ActsOnNone, NoParents, ReplayWrites, ArgumentLost, ReplayUnknown, RecoverMakes, WrongFact}
use Rattle.sg_shape.specs.Faults.{IsFirstShapeError, shape_rank}
use Rattle.sg_shape.specs.Inside.Stages.{AreClear}
use Rattle.sg_shape.proofs.Clear.{ranked, stage}
use Rattle.sg_shape.proofs.shaping.flawless.Goals as goal
use Rattle.sg_shape.proofs.shaping.flawless.Goals.{After-unless}

-- the kinds that are looked for, as `KINDS` lists them
kinds : List ShapeFaultKind
kinds =
    DuplicateName ∷ UnknownFunction ∷ BadParams ∷ MixedField ∷ TwoEffects ∷ Contradiction ∷ PrivateLooksAround ∷ QueryTakes ∷ FileWithoutDesc ∷ TextChanged ∷ BlocksOrMakes
    ∷ StateOfOther ∷ MakesOn ∷ ActsOnNone ∷ NoParents ∷ ReplayWrites ∷ ArgumentLost ∷ ReplayUnknown ∷ RecoverMakes ∷ WrongFact ∷ []

-- they are listed in their order, after the limits
in_order : (i : ℕ) → i < 20 → shape_rank (get_or kinds i Limit) ≡ i + 1
unfolding kinds
in_order i listed = search rules

-- the limits aren't among them
not_limit : (i : ℕ) → i < 20 → get_or kinds i Limit ≡ Limit → ⊥
not_limit i listed is = let wrong : 0 ≡ i + 1 = sym (ap shape_rank is) ∙ in_order i listed in absurd (omega (arith, wrong))

-- what a kind answers: one kind more is clear, or its first place is what is first wrong
answered : (c : After-unless) → MatchResult c.unless.result (λ _. AreClear c.args.tree.now (c.loop-kind.kind-index + 1 + 1)) (IsFirstShapeError c.args.tree.now)
unfolding kinds
answered c =
    let tree = c.args.tree.now in
    let kind = get_or kinds c.loop-kind.kind-index Limit in
    let rank = in_order c.loop-kind.kind-index c.loop-kind-test.true in
    let clear = subst (AreClear tree) (sym rank) c.loop-kind.invariant in
    let told = stage tree kind c.in_ok-place_of.field-0 c.unless.result clear c.in_ok-place_of.ensures c.unless.ensures in
    subst (λ n. MatchResult c.unless.result (λ _. AreClear tree (n + 1)) (IsFirstShapeError tree)) rank told

pub place_of-requires-clause-kind : goal.place_of-requires-clause-kind
unfolding kinds
place_of-requires-clause-kind c = not_limit c.loop-kind.kind-index c.loop-kind-test.true

pub returns-in_err-unless : goal.returns-in_err-unless
returns-in_err-unless c = let told = answered (goal.at.returns-in_err-unless c).After-unless in search rules

pub loop-kind-preserved : goal.loop-kind-preserved
loop-kind-preserved c = let told = answered (goal.at.loop-kind-preserved c).After-unless in search rules

pub returns : goal.returns
returns c = λ kind. let rank = ranked kind in c.loop-kind.invariant kind (omega (arith, rank, c.loop-kind-test.false))
