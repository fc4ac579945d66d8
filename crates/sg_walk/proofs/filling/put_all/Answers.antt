-- Arrival after arrival.
use Rattle.std.proofs.Common.{sym}
use Rattle.sg_walk.specs.LeastWalks.{walk_at}
use Rattle.sg_walk.proofs.Putting.{first_all, first_next, first_none}
use Rattle.sg_walk.proofs.ReachedStates.Closure.{ended}
use Rattle.sg_walk.proofs.filling.put_all.Goals as goal

pub arrivals-init : goal.arrivals-init
arrivals-init c m s k = first_none c.args.iface.now c.args.made c.args.found.now (walk_at c.args.walks.now m s k) m s k

pub arrivals-preserved : goal.arrivals-preserved
arrivals-preserved c m s k =
    first_next c.args.iface.now c.args.made c.args.found.now c.arrivals.at m s k c.in-Some.spot.now c.in-Some.walk.now (walk_at c.args.walks.now m s k) (walk_at c.arrivals.walks m s k)
    (walk_at c.put_one.new.walks m s k) (sym c.in-Some.ensures.arrival) (c.arrivals.invariant m s k) (c.in_ok-put_one.ensures m s k)

pub returns : goal.returns
returns c m s k =
    first_all c.args.iface.now c.args.made c.args.found.now c.arrivals.at m s k (walk_at c.args.walks.now m s k) (walk_at c.arrivals.walks m s k)
    (ended c.args.found.now c.arrivals.at (sym c.in_default.ensures.arrival)) (c.arrivals.invariant m s k)
