-- Nothing is listed up to 0.
use Rattle.std.proofs.Common.{length, sym, ap}
use Rattle.sg_edge.specs.Stops.{nothing_up_to_0}
use Rattle.sg_edge.proofs.stops.AtPoints.new.Goals as goal

pub invariant_of-result : goal.invariant_of-result
invariant_of-result c = (c.requires, ap length (nothing_up_to_0 c.args.points))

pub returns-clause-struck : goal.returns-clause-struck
returns-clause-struck c = sym (nothing_up_to_0 c.args.points)
