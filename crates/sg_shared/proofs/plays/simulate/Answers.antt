-- What was played keeps all that a play in one thread promises.
use Rattle.std.proofs.Common.{◌≡◌, ℕ, List, subst}
use Rattle.std.specs.Result.{IfOk}
use Rattle.sg_edge.specs.Stops.{up_to}
use Rattle.sg_facts.specs.Interface.{Declared}
use Rattle.sg_facts.specs.Trace.{run_of}
use Rattle.sg_shared.proofs.Running.{by_tables, in_order}
use Rattle.sg_sim.specs.sg_plain.Answering.{Answering}
use Rattle.sg_sim.specs.Played.{FollowsSchedule, IsPlayed}
use Rattle.sg_shared.proofs.plays.simulate.Goals as goal

pub returns : goal.returns
returns g c =
    let service : Answering = record { facts = g.S.Service.facts; ask = g.S.Service.ask; parts = g.S.Service.parts } in
    let tables = c.in_ok-tables.tables in
    in_order c.args.accepted.now service c.args.script c.play_script.result c.requires.stops
    (by_tables c.args.accepted.now tables.iface service tables.walks c.args.script c.play_script.result c.in_ok-tables.ensures.iface c.in_ok-tables.ensures.lines
    (subst (λ (plan : List ℕ).
    IfOk c.play_script.result (IsPlayed (record { interface = tables.iface; ask = service.ask; parts = service.parts; walks = tables.walks }) (λ asked struck plan. struck ≡ up_to asked plan) c.args.script plan))
    c.in_ok-stops.ensures.plan c.play_script.ensures.played))
    (subst (λ (i : Declared). IfOk c.play_script.result (λ ended. FollowsSchedule i g.S.Service.ask c.args.script (run_of ended.trace) ended.history.items)) c.in_ok-tables.ensures.iface c.play_script.ensures.schedule)
