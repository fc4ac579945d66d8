-- The walks of the first creations were put.
use Rattle.std.proofs.Common.{◌≡◌, ◌<◌, ◌≤◌, ℕ, None}
use Rattle.sg_walk.specs.LeastWalks.{IsTheWalk, walk_at}
use Rattle.sg_walk.proofs.filling.fill.Given as goal

abbrev pub invariant-made : goal.invariant-made
invariant-made l = record {
  done : (m s k : ℕ) → m < l.made → IsTheWalk l.iface m s k (walk_at l.walks m s k);
  due : (m s k : ℕ) → l.made ≤ m → walk_at l.walks m s k ≡ None;
}
