-- The flaw of a prototype.
use Rattle.std.proofs.Common.{sym, ◌∙◌, ap}
use Rattle.std.specs.Bool.{then_some}
use Rattle.sg_check_statements.proofs.Sets.{second}
use Rattle.sg_check_statements.proofs.protos.second_in.Goals as goal

pub returns-then-has : goal.returns-then-has
returns-then-has c = λ before are. ap (λ b. then_some b c.name.inside.at) (sym c.if-has.true)
    ∙ second c.args.names.now before c.args.statement.now c.in-Proto.ret c.in-Proto.name c.in-Proto.params c.name.inside.slice.now c.name.inside.at c.has.result are c.in-Proto.is c.name.view_is c.has.ensures

pub returns-else-has : goal.returns-else-has
returns-else-has c = λ before are. ap (λ b. then_some b c.name.inside.at) (sym c.if-has.false)
    ∙ second c.args.names.now before c.args.statement.now c.in-Proto.ret c.in-Proto.name c.in-Proto.params c.name.inside.slice.now c.name.inside.at c.has.result are c.in-Proto.is c.name.view_is c.has.ensures
