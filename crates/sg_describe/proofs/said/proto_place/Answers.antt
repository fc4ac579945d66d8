-- Statement by statement.
use Rattle.std.proofs.Common.{sym, ap}
use Rattle.std.specs.Prelude.{slice_get}
use Rattle.sg_shape.proofs.Loops.{first_gathered, nothing_more}
use Rattle.sg_describe.specs.Said.{proto_in}
use Rattle.sg_describe.proofs.said.proto_place.Goals as goal

pub statements-preserved : goal.statements-preserved
statements-preserved c =
    nothing_more (proto_in c.args.fun.now) c.args.statements.now c.statements.statement-index c.statement-item.result c.statements-test.true c.statement-item.is c.statements.invariant (sym c.in_default.ensures)

pub returns-in-Some : goal.returns-in-Some
returns-in-Some c =
    sym (ap (λ l. slice_get l 0)
    (first_gathered (proto_in c.args.fun.now) c.args.statements.now c.statements.statement-index c.statement-item.result c.in-Some.at c.statements-test.true c.statement-item.is c.statements.invariant (sym c.in-Some.ensures)))
