-- The rules, as far as they go, and the brace.
use Rattle.std.proofs.Common.{◌∙◌, [], ap}
use Rattle.std.proofs.lemmas.Result.{err_from_is_err_and}
use Rattle.sg_rules.specs.Grammar.Inside.States.{ruled}
use Rattle.sg_parse.proofs.Grammar.Readings.{after_rules, rules_read}
use Rattle.sg_parse.proofs.statements.answers.Goals as goal

pub returns-in_err-rules-clause-leads : goal.returns-in_err-rules-clause-leads
returns-in_err-rules-clause-leads c = λ k.
    let p = err_from_is_err_and c.from_residual.result c.from_residual.ensures.1 in
    rw (p.1, p.2) (λ ne. rules_read (ruled []) k c.args.reader.now ∙ ap (after_rules k) (c.in_err-rules.ensures.ends ne))

pub returns-in_err-mark-clause-leads : goal.returns-in_err-mark-clause-leads
returns-in_err-mark-clause-leads c = λ k.
    let p = err_from_is_err_and c.from_residual-in_err-mark.result c.from_residual-in_err-mark.ensures.1 in
    rw (p.1, p.2) (λ ne.
    rules_read (ruled []) k c.args.reader.now
    ∙ ap (after_rules k) c.in_ok-rules.ensures.ends
    ∙ c.in_err-mark.ensures.leads (k c.in_ok-rules.rules) ne)

pub returns-clause-leads : goal.returns-clause-leads
returns-clause-leads c = λ k.
    rules_read (ruled []) k c.args.reader.now
    ∙ ap (after_rules k) c.in_ok-rules.ensures.ends
    ∙ c.in_ok-mark.ensures.leads (k c.in_ok-rules.rules)
