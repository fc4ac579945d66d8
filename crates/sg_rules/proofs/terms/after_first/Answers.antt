-- An operator and its operand, or the operand alone.
use Rattle.std.proofs.Common.{◌∙◌, ap}
use Rattle.std.specs.Prelude.{None, Some}
use Rattle.std.proofs.lemmas.Result.{err_from_is_err_and}
use Rattle.sg_rules.specs.declared.tree.Operand.{Operand}
use Rattle.sg_rules.specs.declared.tree.Operator.{Operator}
use Rattle.sg_rules.specs.declared.tree.Term.{Term}
use Rattle.sg_rules.specs.Grammar.Inside.States.{RuleState, operand, rule_reader}
use Rattle.sg_rules.specs.Inside.{either_of}
use Rattle.sg_rules.specs.Inside.Parts.{part}
use Rattle.sg_rules.proofs.terms.after_first.Goals as goal

-- after the operator, and where none comes
abbrev more : (Term → RuleState) → Operand → Operator → RuleState
more k first o = operand (λ second. k (record { first = first; more = Some (o, second) }))

abbrev alone : (Term → RuleState) → Operand → RuleState
alone k first = k (record { first = first; more = None })

pub returns-in_err-operator-clause-leads : goal.returns-in_err-operator-clause-leads
returns-in_err-operator-clause-leads c = λ k.
    let p = err_from_is_err_and c.from_residual.result c.from_residual.ensures.1 in
    rw (p.1, p.2) (c.in_err-operator.ensures.leads (more k c.args.first) (alone k c.args.first))

pub returns-in_err-second-in-Some-clause-leads : goal.returns-in_err-second-in-Some-clause-leads
returns-in_err-second-in-Some-clause-leads c = λ k.
    let p = err_from_is_err_and c.from_residual-in_err-second-in-Some.result c.from_residual-in_err-second-in-Some.ensures.1 in
    rw (p.1, p.2) (λ ne.
    c.in_ok-operator.ensures.leads (more k c.args.first) (alone k c.args.first)
    ∙ ap (λ o. part rule_reader (either_of (more k c.args.first) (alone k c.args.first) o) c.operator.new.reader) c.in-Some.is
    ∙ c.in_err-second-in-Some.ensures.leads (λ second. k (record { first = c.args.first; more = Some (c.in-Some.operator, second) })) ne)

pub returns-in_ok-second-in-Some-clause-leads : goal.returns-in_ok-second-in-Some-clause-leads
returns-in_ok-second-in-Some-clause-leads c = λ k.
    c.in_ok-operator.ensures.leads (more k c.args.first) (alone k c.args.first)
    ∙ ap (λ o. part rule_reader (either_of (more k c.args.first) (alone k c.args.first) o) c.operator.new.reader) c.in-Some.is
    ∙ c.in_ok-second-in-Some.ensures.leads (λ second. k (record { first = c.args.first; more = Some (c.in-Some.operator, second) }))

pub returns-in-None-clause-leads : goal.returns-in-None-clause-leads
returns-in-None-clause-leads c = λ k.
    c.in_ok-operator.ensures.leads (more k c.args.first) (alone k c.args.first)
    ∙ ap (λ o. part rule_reader (either_of (more k c.args.first) (alone k c.args.first) o) c.operator.new.reader) c.in-None.is
