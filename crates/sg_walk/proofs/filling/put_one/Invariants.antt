-- The walk was put at the first sets of fields that it restores.
use Rattle.std.proofs.Common.{◌≡◌, ℕ}
use Rattle.std.specs.Option.{option_or}
use Rattle.sg_walk.specs.LeastWalks.{walk_at}
use Rattle.sg_walk.proofs.Putting.{put_below}
use Rattle.sg_walk.proofs.filling.put_one.Given as goal

abbrev pub invariant-masks : goal.invariant-masks
invariant-masks l = (m s k : ℕ) → walk_at l.walks m s k ≡ option_or (walk_at l.initial.walks m s k) (put_below l.iface l.made l.spot l.walk l.number m s k)
