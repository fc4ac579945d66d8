-- What was played with a thread for each client keeps all that a run promises.
use Rattle.sg_shared.proofs.Running.{by_tables, is_run}
use Rattle.sg_sim.specs.sg_plain.Answering.{Answering}
use Rattle.sg_shared.proofs.plays.share.Goals as goal

pub returns : goal.returns
returns g c =
    let service : Answering = record { facts = g.S.Service.facts; ask = g.S.Service.ask; parts = g.S.Service.parts } in
    is_run c.args.accepted.now service c.args.script c.run.result c.requires.stops
    (by_tables c.args.accepted.now c.in_ok-tables.tables.iface service c.in_ok-tables.tables.walks c.args.script c.run.result c.in_ok-tables.ensures.iface c.in_ok-tables.ensures.lines c.run.ensures.played)
