-- A play more of the row is added.
use Rattle.sg_explore.proofs.Adding.{adds_none, adds_row_one}
use Rattle.sg_explore.specs.Inside.Jobs.{IsTriedOf}
use Rattle.sg_explore.specs.Inside.Stopping.{points_of}
use Rattle.sg_explore.specs.Inside.Sums.{sums_of}
use Rattle.sg_explore.proofs.exploring.add_outcomes.Goals as goal

pub plays-init : goal.plays-init
plays-init g c =
    adds_none (IsTriedOf c.args.accepted.now g.S.Service.facts g.S.Service.ask g.S.Service.parts c.args.script.now c.args.plain.now) (sums_of c.args.tally.now)

pub plays-preserved : goal.plays-preserved
plays-preserved g c =
    adds_row_one (IsTriedOf c.args.accepted.now g.S.Service.facts g.S.Service.ask g.S.Service.parts c.args.script.now c.args.plain.now)
    c.args.row.first c.args.row.from c.plays.at (points_of c.stops-points.result) (sums_of c.args.tally.now) (sums_of c.plays.tally) (sums_of c.add_outcome.new.tally)
    c.stops-points.ensures.points c.plays.invariant c.in_ok-add_outcome.ensures
