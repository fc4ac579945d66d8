-- The play is counted, with all of it.
use Rattle.sg_shared.specs.sg_sim.sg_plain.Answering.{Answering}
use Rattle.sg_explore.proofs.Trying.{adds_first}
use Rattle.sg_explore.specs.Inside.Stopping.{points_of}
use Rattle.sg_explore.specs.Inside.Sums.{sums_of}
use Rattle.sg_explore.proofs.exploring.add_first.Goals as goal

pub returns : goal.returns
returns g c =
    let service : Answering = record { facts = g.S.Service.facts; ask = g.S.Service.ask; parts = g.S.Service.parts } in
    adds_first c.args.accepted.now service c.args.script.now c.args.plain.now c.in_ok-played.played (points_of c.args.stops) c.in_ok-list.list c.count_first.result
    (sums_of c.args.tally.now) (sums_of c.count_first.new.self) c.in_ok-list.ensures c.in_ok-played.ensures c.count_first.ensures.sums c.count_first.ensures.differs
