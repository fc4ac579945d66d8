-- The first rule from a place on, or a later one.
use Rattle.std.proofs.Common.{◌≡◌, ◌+◌, ◌-◌, take, sym, ◌∙◌, ap, arith}
use Rattle.std.proofs.lemmas.List.{take-map}
use Rattle.sg_known.specs.sg_described.Described.{rule_of, rules_at}
use Rattle.sg_known.specs.Surveys.{subject_of}
use Rattle.sg_safe.specs.Reasons.{overtaken_at}
use Rattle.sg_safe.proofs.Waits.{rule_first, rule_later}
use Rattle.sg_safe.proofs.waiting.+overtaken_at_rules.Goals as goal

pub overtaken_by_rule-requires-clause-before : goal.overtaken_by_rule-requires-clause-before
overtaken_by_rule-requires-clause-before t c =
    let same : c.args.at ≡ c.args.at + 1 - 1 = omega arith in
    sym (take-map rule_of c.args.at c.args.rules.now) ∙ ap (take c.args.at) c.requires.rules ∙ ap (λ n. take n (rules_at (subject_of c.args.survey.now) c.args.waiter)) same

pub returns-in-Some-2 : goal.returns-in-Some-2
returns-in-Some-2 t c =
    let h = c.in-Some.ensures.lookup in
    rule_first (overtaken_at (subject_of c.args.survey.now) c.args.waiter) c.args.rules.now c.args.at c.in-Some.rule.now c.in_ok-found-in-Some.field-0 c.in-Some-2.found h.3.0 h.1
    c.in_ok-found-in-Some.ensures c.in-Some-2.is

pub returns-in_ok-overtaken_at_rules-in-None-2 : goal.returns-in_ok-overtaken_at_rules-in-None-2
returns-in_ok-overtaken_at_rules-in-None-2 t c =
    let h = c.in-Some.ensures.lookup in
    rule_later (overtaken_at (subject_of c.args.survey.now) c.args.waiter) c.args.rules.now c.args.at c.in-Some.rule.now c.in_ok-found-in-Some.field-0 _ h.3.0 h.1
    c.in_ok-found-in-Some.ensures c.in-None-2.is c.in_ok-overtaken_at_rules-in-None-2.ensures
