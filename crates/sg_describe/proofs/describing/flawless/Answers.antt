-- Each kind is looked for where the ones before are clear.
use Rattle.std.proofs.Common.{◌≡◌, ℕ, ◌+◌, ◌<◌, get_or, rules, sym, ◌∙◌, ap, subst, arith}
use Rattle.std.specs.Result.{MatchResult}
use Rattle.sg_describe.specs.declared.fault.AnswerFaultKind.TheVariants.{NotYet}
use Rattle.sg_describe.specs.AnswerFaults.{IsFirstAnswerError, answer_kinds, answer_rank, flaw_of}
use Rattle.sg_describe.specs.Inside.Stages.{AreClear}
use Rattle.sg_describe.proofs.Clear.{ranked, stage}
use Rattle.sg_describe.proofs.describing.flawless.Goals as goal
use Rattle.sg_describe.proofs.describing.flawless.Goals.{After-unless}

-- they are listed in their order
in_order : (i : ℕ) → i < 12 → answer_rank (get_or answer_kinds i NotYet) ≡ i
in_order i listed = search rules

-- what a kind answers: one kind more is clear, or its first place is what is first wrong
answered : (c : After-unless) → MatchResult c.unless.result (λ _. AreClear c.args.tree.now (c.loop-kind.kind-index + 1)) (IsFirstAnswerError c.args.tree.now)
answered c =
    let tree = c.args.tree.now in
    let kind = get_or answer_kinds c.loop-kind.kind-index NotYet in
    let rank = in_order c.loop-kind.kind-index c.loop-kind-test.true in
    let clear = subst (AreClear tree) (sym rank) c.loop-kind.invariant in
    let here = c.flaw_of.ensures ∙ ap (λ facts. flaw_of kind facts tree) c.requires.shape in
    let told = stage tree kind c.flaw_of.result c.unless.result clear here c.unless.ensures in
    subst (λ n. MatchResult c.unless.result (λ _. AreClear tree (n + 1)) (IsFirstAnswerError tree)) rank told

pub returns-in_err-unless : goal.returns-in_err-unless
returns-in_err-unless c = let told = answered (goal.at.returns-in_err-unless c).After-unless in search rules

pub loop-kind-preserved : goal.loop-kind-preserved
loop-kind-preserved c = let told = answered (goal.at.loop-kind-preserved c).After-unless in search rules

pub returns : goal.returns
returns c = λ kind. let rank = ranked kind in c.loop-kind.invariant kind (omega (arith, rank, c.loop-kind-test.false))
