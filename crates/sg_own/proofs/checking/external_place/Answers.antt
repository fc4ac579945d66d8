-- Statement by statement.
use Rattle.std.proofs.Common.{sym, ap, ◌∙◌}
use Rattle.std.specs.Prelude.{slice_get}
use Rattle.sg_describe.proofs.sg_shape.Loops.{first_gathered, nothing_more}
use Rattle.sg_describe.specs.Said.{first_in}
use Rattle.sg_own.specs.Faults.{external_in}
use Rattle.sg_own.proofs.checking.external_place.Goals as goal

pub statements-preserved : goal.statements-preserved
statements-preserved c =
    let statements = c.as_slice-statements.result.now in
    nothing_more (external_in statements) statements c.statements.statement-index c.statement-item.result c.statements-test.true c.statement-item.is c.statements.invariant (sym c.in_default.ensures)

pub returns-in-Some : goal.returns-in-Some
returns-in-Some c =
    let statements = c.as_slice-statements.result.now in
    sym (ap (λ ss. first_in (external_in ss) ss) (sym c.as_slice-statements.ensures)
    ∙ ap (λ l. slice_get l 0)
    (first_gathered (external_in statements) statements c.statements.statement-index c.statement-item.result c.in-Some.at c.statements-test.true c.statement-item.is c.statements.invariant (sym c.in-Some.ensures)))
