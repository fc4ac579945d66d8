-- Statement by statement.
use Rattle.std.proofs.Common.{sym, ap}
use Rattle.std.specs.Prelude.{slice_get}
use Rattle.sg_shape.specs.sg_facts.Facts.{facts_of}
use Rattle.sg_shape.proofs.Loops.{first_gathered, nothing_more}
use Rattle.sg_describe.specs.AnswerFlaws.{statement_flaw}
use Rattle.sg_describe.proofs.flaws.first_flaw.Goals as goal

pub statements-preserved : goal.statements-preserved
statements-preserved c =
    nothing_more (statement_flaw c.args.kind (facts_of c.args.shape.now)) c.args.statements.now c.statements.statement-index c.statement-item.result c.statements-test.true c.statement-item.is c.statements.invariant
    (sym c.in_default.ensures)

pub returns-in-Some : goal.returns-in-Some
returns-in-Some c =
    sym (ap (λ l. slice_get l 0)
    (first_gathered (statement_flaw c.args.kind (facts_of c.args.shape.now)) c.args.statements.now c.statements.statement-index c.statement-item.result c.in-Some.at c.statements-test.true c.statement-item.is
    c.statements.invariant (sym c.in-Some.ensures)))
