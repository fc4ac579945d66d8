-- What is kept is kept of the run that was made.
use Rattle.sg_shared.specs.sg_sim.sg_plain.Answering.{Answering}
use Rattle.sg_explore.specs.Inside.Stopping.{points_of}
use Rattle.sg_explore.proofs.Trying.{kept_of}
use Rattle.sg_explore.proofs.plays.outcome_with.Goals as goal

pub returns : goal.returns
returns g c =
    let service : Answering = record { facts = g.S.Service.facts; ask = g.S.Service.ask; parts = g.S.Service.parts } in
    kept_of c.args.accepted.now service c.args.script.now c.args.plain.now c.in_ok-played.played c.ended.result.now (points_of c.args.stops) c.in_ok-list.list c.of-outcome.result
    c.in_ok-list.ensures c.in_ok-played.ensures c.ended.ensures c.of-outcome.ensures.is c.of-outcome.ensures.differs
