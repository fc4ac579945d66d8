-- The first functions were tried.
use Rattle.sg_walk.specs.Inside.Arrivals.{GoesOn}
use Rattle.sg_walk.proofs.arriving.add_next.Given as goal

abbrev pub invariant-funs : goal.invariant-funs
invariant-funs l = GoesOn l.iface l.spot l.walk l.fun l.initial.found l.found
