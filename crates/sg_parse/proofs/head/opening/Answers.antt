-- The word, and then the marks.
use Rattle.std.proofs.Common.{◌∙◌}
use Rattle.std.proofs.lemmas.Result.{err_from_is_err_and}
use Rattle.sg_rules.proofs.sg_lex.Automata.{leads_along}
use Rattle.sg_parse.specs.Grammar.Inside.Forms.{equals, open_brace}
use Rattle.sg_parse.specs.Grammar.Inside.States.{due, trees}
use Rattle.sg_parse.proofs.head.opening.Goals as goal

pub returns-in_err-fixed : goal.returns-in_err-fixed
returns-in_err-fixed c = λ k.
    let p = err_from_is_err_and c.from_residual.result c.from_residual.ensures.1 in
    rw (p.1, p.2) (λ ne. c.in_err-fixed.ensures.leads (due equals (due open_brace k)) ne)

pub returns-in_err-mark : goal.returns-in_err-mark
returns-in_err-mark c = λ k.
    let p = err_from_is_err_and c.from_residual-in_err-mark.result c.from_residual-in_err-mark.ensures.1 in
    rw (p.1, p.2) (λ ne. c.in_ok-fixed.ensures.leads (due equals (due open_brace k)) ∙ c.in_err-mark.ensures.leads (due open_brace k) ne)

pub returns : goal.returns
returns c = λ k.
    leads_along trees _ _ c.mark-2.result (λ _. k) c.mark-2.new.reader
    (c.in_ok-fixed.ensures.leads (due equals (due open_brace k)) ∙ c.in_ok-mark.ensures.leads (due open_brace k))
    (c.mark-2.ensures.leads k)
