-- None of the tests before holds.
use Rattle.std.proofs.Common.{map, sym, ◌∙◌, ap}
use Rattle.std.specs.Prelude.{◌&&◌}
use Rattle.sg_known.specs.sg_described.Described.{rule_of, rules_at}
use Rattle.sg_known.specs.sg_described.Known.{Known, surely_stops}
use Rattle.sg_known.specs.sg_described.Waiting.{keeps_state, known_where, never_meet, waits_on}
use Rattle.sg_known.specs.Seen.{known_in}
use Rattle.sg_known.specs.Surveys.{subject_of}
use Rattle.sg_safe.proofs.Waits.{or_last}
use Rattle.sg_safe.proofs.waiting.leaves.Goals as goal

pub returns-then-not-keeps : goal.returns-then-not-keeps
returns-then-not-keeps c =
    let d = subject_of c.args.survey.now in
    let r = rule_of c.args.wait.rule.now in
    let before = map rule_of c.args.wait.before.now in
    or_last _ _ _ _ _ _ _ (sym c.is_creation.ensures ∙ c.if-is_creation.false) (sym c.is_terminal.ensures ∙ c.if-is_terminal.false) (sym c.wakes.ensures ∙ c.if-wakes.false)
    (ap (λ (k : Known). never_meet d c.args.wait.waiter c.args.number k.state) (sym c.requires.known) ∙ sym c.never.ensures ∙ c.if-never.false)
    (ap (λ k. surely_stops k (rules_at d c.args.number)) (sym c.requires.known) ∙ ap (surely_stops (known_in c.args.seen.now)) (sym c.rules.ensures) ∙ sym c.stop_surely.ensures ∙ c.if-stop_surely.false)
    (ap (λ v. v && waits_on d c.args.number before r (known_where d r))
    (sym (ap (λ (k : Known). keeps_state d c.args.wait.waiter c.args.number k.state) (sym c.requires.known) ∙ sym c.keeps.ensures ∙ c.if-not-keeps.true)))

pub returns : goal.returns
returns c =
    let d = subject_of c.args.survey.now in
    let r = rule_of c.args.wait.rule.now in
    let before = map rule_of c.args.wait.before.now in
    or_last _ _ _ _ _ _ _ (sym c.is_creation.ensures ∙ c.if-is_creation.false) (sym c.is_terminal.ensures ∙ c.if-is_terminal.false) (sym c.wakes.ensures ∙ c.if-wakes.false)
    (ap (λ (k : Known). never_meet d c.args.wait.waiter c.args.number k.state) (sym c.requires.known) ∙ sym c.never.ensures ∙ c.if-never.false)
    (ap (λ k. surely_stops k (rules_at d c.args.number)) (sym c.requires.known) ∙ ap (surely_stops (known_in c.args.seen.now)) (sym c.rules.ensures) ∙ sym c.stop_surely.ensures ∙ c.if-stop_surely.false)
    (c.in_ok-goes_on.ensures ∙ ap (λ k. waits_on d c.args.number before r k) c.requires.known
    ∙ ap (λ v. v && waits_on d c.args.number before r (known_where d r))
    (sym (ap (λ (k : Known). keeps_state d c.args.wait.waiter c.args.number k.state) (sym c.requires.known) ∙ sym c.keeps.ensures ∙ c.if-not-keeps.false)))
