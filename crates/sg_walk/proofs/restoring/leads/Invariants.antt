use Rattle.std.proofs.Common.{◌≡◌, drop}
use Rattle.sg_walk.specs.Inside.Spots.{shown, leads}
use Rattle.sg_walk.proofs.restoring.leads.Given as goal

-- what is left of the walk leads to the same
abbrev pub invariant-walk : goal.invariant-walk
invariant-walk l =
    leads l.iface (shown l.iface l.spot) (drop l.fun-index l.walk) l.goal
    ≡ leads l.iface (shown l.iface l.fn.from) l.walk l.goal
