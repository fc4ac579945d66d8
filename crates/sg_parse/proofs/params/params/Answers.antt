-- The parameters so far, a comma, and the next.
use Rattle.std.proofs.Common.{◌≡◌, ◌∙◌}
use Rattle.std.proofs.lemmas.Result.{err_from_is_err_and}
use Rattle.sg_parse.specs.Grammar.Inside.Forms.{comma}
use Rattle.sg_parse.specs.Grammar.Inside.States.{fits}
use Rattle.sg_rules.specs.sg_lex.Inside.Ahead.{Came, Off}
use Rattle.sg_parse.proofs.ByToken.{comma_came}
use Rattle.sg_rules.proofs.sg_lex.Chains.{on_true}
use Rattle.sg_parse.proofs.params.params.Goals as goal

pub returns-in_err-param-2-clause-leads : goal.returns-in_err-param-2-clause-leads
returns-in_err-param-2-clause-leads c = λ k.
    let p = err_from_is_err_and c.from_residual-in_err-param-2.result c.from_residual-in_err-param-2.ensures.1 in
    let old = c.params.reader in
    let new = c.take_mark.new.reader in
    let came = on_true (Came (fits comma) old.rest new.rest) ((new ≡ old) × Off (fits comma) old.rest) c.in_ok-take_mark.field-0 c.in_ok-take_mark.ensures.mark c.if-branch.true in
    rw (p.1, p.2) (λ ne.
    c.params.invariant.read_so_far k
    ∙ comma_came c.params.params k old new came c.in_ok-take_mark.ensures.end
    ∙ c.in_err-param-2.ensures.leads c.params.params k ne)
