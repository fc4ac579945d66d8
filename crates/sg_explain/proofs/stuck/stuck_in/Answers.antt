-- What was found for the state is what was found for its prototype.
use Rattle.std.proofs.Common.{◌∙◌, ap, sym}
use Rattle.std.proofs.lemmas.Result.{IfOk-weaker}
use Rattle.sg_input.specs.sg_facts.Interface.{Declared}
use Rattle.sg_explain.specs.Inside.Search.{IsFoundAt, IsFoundIn, proto_at}
use Rattle.sg_explain.proofs.Protos.{found_in, none_in}
use Rattle.sg_explain.proofs.stuck.stuck_in.Goals as goal

pub returns-in-Some : goal.returns-in-Some
returns-in-Some c =
    IfOk-weaker c.first_stuck.result (IsFoundAt c.args.iface.now c.in-Some.state) (IsFoundIn c.args.iface.now c.args.statement.now c.args.at)
    (λ found. found_in c.args.iface.now c.args.statement.now c.args.at c.in-Some.state found (sym (ap (λ (i : Declared). proto_at i.facts c.args.statement.now c.args.at) c.iface.view_is) ∙ sym c.in-Some.ensures)) c.first_stuck.ensures

pub returns-in-None : goal.returns-in-None
returns-in-None c = none_in c.args.iface.now c.args.statement.now c.args.at (sym (ap (λ (i : Declared). proto_at i.facts c.args.statement.now c.args.at) c.iface.view_is) ∙ sym c.in-None.ensures)
