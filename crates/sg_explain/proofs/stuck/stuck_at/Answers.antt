-- Statement by statement.
use Rattle.std.proofs.Common.{subst}
use Rattle.sg_input.specs.sg_check_statements.Flaws.{HasNoWalk, IsProtoWhere}
use Rattle.sg_input.specs.sg_parse.declared.tree.Statement.{Statement}
use Rattle.sg_explain.proofs.Protos.{found_one, is_found, none_at_all, none_more, not_all, not_found}
use Rattle.sg_explain.proofs.stuck.stuck_at.Goals as goal

pub statements-init : goal.statements-init
statements-init c = none_at_all c.args.iface.now c.args.at

pub statements-preserved : goal.statements-preserved
statements-preserved c =
    let i = c.args.iface.now in
    let free : (s : Statement) → Type 0 = λ s. IsProtoWhere i.facts (HasNoWalk i) s c.args.at → ⊥ in
    none_more i c.args.at c.args.statements.now c.statements.statement-index c.statement-item.result c.statements-test.true c.statements.invariant
    (subst free c.statement-item.is (not_found i c.statement-item.result c.args.at c.in_ok-found.found c.in-None.is c.in_ok-found.ensures))

pub returns-in-Some : goal.returns-in-Some
returns-in-Some c =
    found_one c.args.iface.now c.args.at c.args.statements.now c.statements.statement-index c.statement-item.result c.in-Some.triple c.statements-test.true c.statement-item.is
    (is_found c.args.iface.now c.statement-item.result c.args.at c.in_ok-found.found c.in-Some.triple c.in-Some.is c.in_ok-found.ensures)

pub unreachable-requires : goal.unreachable-requires
unreachable-requires c =
    not_all c.args.iface.now c.args.at c.args.statements.now c.statements.statement-index c.statements-test.false c.statements.invariant c.requires.there
