-- The word, and whether the one value comes or the other.
use Rattle.std.proofs.Common.{◌∙◌, true, false, ap}
use Rattle.std.specs.Prelude.{codes}
use Rattle.std.proofs.lemmas.Result.{err_from_is_err_and}
use Rattle.sg_rules.specs.sg_lex.Inside.Automata.{read}
use Rattle.sg_parse.specs.Grammar.Pieces.{word}
use Rattle.sg_parse.specs.Grammar.Inside.Forms.{equals}
use Rattle.sg_parse.specs.Grammar.Inside.States.{due, fork, trees}
use Rattle.sg_parse.specs.Inside.{one_of}
use Rattle.sg_parse.proofs.head.recovery.Goals as goal

pub returns-in_err-fixed : goal.returns-in_err-fixed
returns-in_err-fixed c = λ s.
    let p = err_from_is_err_and c.from_residual-in_err-fixed.result c.from_residual-in_err-fixed.ensures.1 in
    rw (p.1, p.2) (λ ne.
    c.in_ok-mark.ensures.leads (due (word (codes "desc_recover")) (due equals (fork (codes "eager") (s true) (due (word (codes "demand")) (s false)))))
    ∙ c.in_err-fixed.ensures.leads (due equals (fork (codes "eager") (s true) (due (word (codes "demand")) (s false)))) ne)

pub returns-in_err-mark-2 : goal.returns-in_err-mark-2
returns-in_err-mark-2 c = λ s.
    let p = err_from_is_err_and c.from_residual-in_err-mark-2.result c.from_residual-in_err-mark-2.ensures.1 in
    rw (p.1, p.2) (λ ne.
    c.in_ok-mark.ensures.leads (due (word (codes "desc_recover")) (due equals (fork (codes "eager") (s true) (due (word (codes "demand")) (s false)))))
    ∙ c.in_ok-fixed.ensures.leads (due equals (fork (codes "eager") (s true) (due (word (codes "demand")) (s false))))
    ∙ c.in_err-mark-2.ensures.leads (fork (codes "eager") (s true) (due (word (codes "demand")) (s false))) ne)

pub returns-in_err-forked : goal.returns-in_err-forked
returns-in_err-forked c = λ s.
    let p = err_from_is_err_and c.from_residual-in_err-forked.result c.from_residual-in_err-forked.ensures.1 in
    rw (p.1, p.2) (λ ne.
    c.in_ok-mark.ensures.leads (due (word (codes "desc_recover")) (due equals (fork (codes "eager") (s true) (due (word (codes "demand")) (s false)))))
    ∙ c.in_ok-fixed.ensures.leads (due equals (fork (codes "eager") (s true) (due (word (codes "demand")) (s false))))
    ∙ c.in_ok-mark-2.ensures.leads (fork (codes "eager") (s true) (due (word (codes "demand")) (s false)))
    ∙ c.in_err-forked.ensures.leads (s true) (due (word (codes "demand")) (s false)) ne)

pub returns-then-branch : goal.returns-then-branch
returns-then-branch c = λ s.
    c.in_ok-mark.ensures.leads (due (word (codes "desc_recover")) (due equals (fork (codes "eager") (s true) (due (word (codes "demand")) (s false)))))
    ∙ c.in_ok-fixed.ensures.leads (due equals (fork (codes "eager") (s true) (due (word (codes "demand")) (s false))))
    ∙ c.in_ok-mark-2.ensures.leads (fork (codes "eager") (s true) (due (word (codes "demand")) (s false)))
    ∙ c.in_ok-forked.ensures.leads (s true) (due (word (codes "demand")) (s false))
    ∙ ap (λ b. read trees (one_of (s true) (due (word (codes "demand")) (s false)) b) c.forked.new.reader) c.if-branch.true

pub returns-in_err-fixed-2 : goal.returns-in_err-fixed-2
returns-in_err-fixed-2 c = λ s.
    let p = err_from_is_err_and c.from_residual-in_err-fixed-2.result c.from_residual-in_err-fixed-2.ensures.1 in
    rw (p.1, p.2) (λ ne.
    c.in_ok-mark.ensures.leads (due (word (codes "desc_recover")) (due equals (fork (codes "eager") (s true) (due (word (codes "demand")) (s false)))))
    ∙ c.in_ok-fixed.ensures.leads (due equals (fork (codes "eager") (s true) (due (word (codes "demand")) (s false))))
    ∙ c.in_ok-mark-2.ensures.leads (fork (codes "eager") (s true) (due (word (codes "demand")) (s false)))
    ∙ c.in_ok-forked.ensures.leads (s true) (due (word (codes "demand")) (s false))
    ∙ ap (λ b. read trees (one_of (s true) (due (word (codes "demand")) (s false)) b) c.forked.new.reader) c.if-branch.false
    ∙ c.in_err-fixed-2.ensures.leads (s false) ne)

pub returns : goal.returns
returns c = λ s.
    c.in_ok-mark.ensures.leads (due (word (codes "desc_recover")) (due equals (fork (codes "eager") (s true) (due (word (codes "demand")) (s false)))))
    ∙ c.in_ok-fixed.ensures.leads (due equals (fork (codes "eager") (s true) (due (word (codes "demand")) (s false))))
    ∙ c.in_ok-mark-2.ensures.leads (fork (codes "eager") (s true) (due (word (codes "demand")) (s false)))
    ∙ c.in_ok-forked.ensures.leads (s true) (due (word (codes "demand")) (s false))
    ∙ ap (λ b. read trees (one_of (s true) (due (word (codes "demand")) (s false)) b) c.forked.new.reader) c.if-branch.false
    ∙ c.in_ok-fixed-2.ensures.leads (s false)
