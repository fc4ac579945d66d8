-- A run of a play may be asked for its costs.
use Rattle.sg_top.proofs.Costing.{clients_by, few_by, numbered_by, recovered_by}
use Rattle.sg_top.proofs.services.cost_run.Goals as goal

pub costs_of-requires-clause-recovered : goal.costs_of-requires-clause-recovered
costs_of-requires-clause-recovered g c = recovered_by c.args.tables.now.iface c.args.tables.now.walks _ c.args.ended.now c.lines.ensures.are c.requires.run

pub costs_of-requires-clause-legal : goal.costs_of-requires-clause-legal
costs_of-requires-clause-legal g c = c.requires.run.2.legal

pub costs_of-requires-clause-numbered : goal.costs_of-requires-clause-numbered
costs_of-requires-clause-numbered g c = numbered_by c.args.tables.now.iface c.args.tables.now.walks _ c.args.ended.now c.lines.ensures.are c.requires.run

pub costs_of-requires-clause-calls : goal.costs_of-requires-clause-calls
costs_of-requires-clause-calls g c = clients_by c.args.tables.now.iface c.args.tables.now.walks _ c.args.ended.now c.lines.ensures.are c.requires.run

pub costs_of-requires-clause-few : goal.costs_of-requires-clause-few
costs_of-requires-clause-few g c = few_by c.args.tables.now.iface c.args.tables.now.walks _ c.args.ended.now c.lines.ensures.are c.requires.run
