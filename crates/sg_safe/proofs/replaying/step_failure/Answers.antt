-- Whether the pair is a step from there.
use Rattle.std.proofs.Common.{cond, length, None, sym, ◌∙◌, ap}
use Rattle.sg_known.specs.Surveys.{subject_of}
use Rattle.sg_safe.specs.Inside.Seen.{shown}
use Rattle.sg_safe.specs.Reasons.{fails_at}
use Rattle.sg_safe.proofs.replaying.step_failure.Goals as goal

pub returns-then-not-steps_from-clause-failure : goal.returns-then-not-steps_from-clause-failure
returns-then-not-steps_from-clause-failure c =
    let d = subject_of c.args.survey.now in
    ap (λ b. cond b (fails_at d c.args.pair.1 (shown d c.args.spot)) None) (sym c.if-not-steps_from.true ∙ c.steps_from.ensures (length d.facts.fields))

pub returns-clause-failure : goal.returns-clause-failure
returns-clause-failure c =
    let d = subject_of c.args.survey.now in
    c.in_ok-failure_at.ensures.failure ∙ ap (λ b. cond b (fails_at d c.args.pair.1 (shown d c.args.spot)) None) (sym c.if-not-steps_from.false ∙ c.steps_from.ensures (length d.facts.fields))
