-- Statement by statement.
use Rattle.std.proofs.Common.{◌≡◌, None, Some, take, sym, ◌∙◌, ap, subst}
use Rattle.std.proofs.lemmas.List.{take_more, take_all}
use Rattle.sg_check_statements.specs.Inside.Pieces.{NoStatement}
use Rattle.sg_check_statements.proofs.Firsts.{none_more, none_at_all, first_here}
use Rattle.sg_check_statements.proofs.judge.first_flaw.Goals as goal

pub statements-init : goal.statements-init
statements-init g c = none_at_all (λ before s p. g.J.Judge.flaw c.args.judge.now s ≡ Some p)

pub statements-preserved : goal.statements-preserved
statements-preserved g c =
    subst (NoStatement (λ before s p. g.J.Judge.flaw c.args.judge.now s ≡ Some p)) (sym (take_more c.args.statements.now c.statements.statement-index c.statement-item.result c.statements-test.true))
    (none_more (λ before s p. g.J.Judge.flaw c.args.judge.now s ≡ Some p) (take c.statements.statement-index c.args.statements.now) _ c.statements.invariant
    (λ place flaw. let no : None ≡ Some place = c.in_default.ensures ∙ ap (λ s. g.J.Judge.flaw c.args.judge.now s) c.statement-item.is ∙ flaw in cc no))

pub returns-in-Some : goal.returns-in-Some
returns-in-Some g c = first_here (λ before s p. g.J.Judge.flaw c.args.judge.now s ≡ Some p) c.args.statements.now c.statements.statement-index c.statement-item.result c.in-Some.at
    c.statements-test.true (sym c.statement-item.is) c.statements.invariant (sym c.in-Some.ensures)

pub returns : goal.returns
returns g c = subst (NoStatement (λ before s p. g.J.Judge.flaw c.args.judge.now s ≡ Some p)) (take_all c.statements.statement-index c.args.statements.now c.statements-test.false) c.statements.invariant
