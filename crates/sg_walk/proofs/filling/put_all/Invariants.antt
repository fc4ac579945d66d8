-- The walks of the first arrivals were put.
use Rattle.std.proofs.Common.{◌≡◌, ◌-◌, ◌^◌, ℕ}
use Rattle.std.specs.Option.{option_or}
use Rattle.sg_walk.specs.LeastWalks.{walk_at}
use Rattle.sg_walk.proofs.Putting.{first_of}
use Rattle.sg_walk.proofs.filling.put_all.Given as goal

abbrev pub invariant-arrivals : goal.invariant-arrivals
invariant-arrivals l = (m s k : ℕ) → walk_at l.walks m s k ≡ option_or (walk_at l.initial.walks m s k) (first_of l.iface l.made l.found l.at m s k)

abbrev pub decreases-arrivals : goal.decreases-arrivals
decreases-arrivals l = 2 ^ 64 - l.at
