-- Statement by statement.
use Rattle.std.proofs.Common.{◌≡◌, ◌||◌, None, Some, take, get_or, sym, ◌∙◌, ap, subst}
use Rattle.std.proofs.lemmas.List.{take_more}
use Rattle.sg_check_statements.specs.Inside.Pieces.{NoStatement, is_proto}
use Rattle.sg_check_statements.specs.Flaws.{duplicate}
use Rattle.sg_check_statements.specs.NameSet.{AreOf, has_name}
use Rattle.sg_check_statements.proofs.Firsts.{none_more, first_here}
use Rattle.sg_check_statements.proofs.Sets.{of_more}
use Rattle.sg_check_statements.proofs.protos.duplicate_in.Goals as goal

pub returns-in-Some : goal.returns-in-Some
returns-in-Some c = first_here (λ before s p. duplicate before s ≡ Some p) c.args.statements.now c.statements.statement-index c.statement-item.result c.in-Some.at
    c.statements-test.true (sym c.statement-item.is) c.statements.invariant.1 (sym (c.in-Some.ensures (take c.statements.statement-index c.args.statements.now) c.statements.invariant.0))

pub statements-preserved : goal.statements-preserved
statements-preserved c = (
  subst (AreOf c.add_proto.new.names) (sym (take_more c.args.statements.now c.statements.statement-index c.statement-item.result c.statements-test.true))
      (of_more c.statements.names c.add_proto.new.names (take c.statements.statement-index c.args.statements.now) (get_or c.args.statements.now c.statements.statement-index c.statement-item.result) c.statements.invariant.0
      (λ f. c.in_ok-add_proto.ensures f ∙ ap (λ s. is_proto f s || has_name c.statements.names f) c.statement-item.is)),
  subst (NoStatement (λ before s p. duplicate before s ≡ Some p)) (sym (take_more c.args.statements.now c.statements.statement-index c.statement-item.result c.statements-test.true))
      (none_more (λ before s p. duplicate before s ≡ Some p) (take c.statements.statement-index c.args.statements.now) _ c.statements.invariant.1
      (λ place flaw. let none : None ≡ Some place =
      c.in_default.ensures (take c.statements.statement-index c.args.statements.now) c.statements.invariant.0 ∙ ap (duplicate (take c.statements.statement-index c.args.statements.now)) c.statement-item.is ∙ flaw in cc none)),
)
