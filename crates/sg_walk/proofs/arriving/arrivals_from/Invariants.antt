-- What the first arrivals lead to was found.
use Rattle.std.proofs.Common.{◌-◌, ◌^◌}
use Rattle.sg_walk.specs.Inside.Arrivals.{AreFound}
use Rattle.sg_walk.proofs.arriving.arrivals_from.Given as goal

abbrev pub invariant-arrivals : goal.invariant-arrivals
invariant-arrivals l = AreFound l.iface l.made l.done 1 l.found

abbrev pub decreases-arrivals : goal.decreases-arrivals
decreases-arrivals l = 2 ^ 64 - l.done
