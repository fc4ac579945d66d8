-- Arrival after arrival.
use Rattle.std.proofs.Common.{sym}
use Rattle.sg_walk.proofs.GoingOn.{all_found}
use Rattle.sg_walk.proofs.arriving.arrivals_from.Goals as goal

pub arrivals-preserved : goal.arrivals-preserved
arrivals-preserved c = c.in_ok-add_next.ensures c.args.made c.arrivals.done (sym c.in-Some.ensures.arrival) c.arrivals.invariant

pub returns : goal.returns
returns c = all_found c.args.iface.now c.args.made c.arrivals.done 1 c.arrivals.found (sym c.in_default.ensures.arrival) c.arrivals.invariant
