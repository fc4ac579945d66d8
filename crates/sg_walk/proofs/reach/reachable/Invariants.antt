-- What descriptors of the first functions can come to.
use Rattle.std.proofs.Common.{◌<◌}
use Rattle.std.specs.List.{Contains}
use Rattle.sg_walk.specs.declared.place.Triple.{Triple}
use Rattle.sg_walk.specs.ReachedStates.Triples.{AreDistinct, IsReachedTriple}
use Rattle.sg_walk.proofs.reach.reachable.Given as goal

abbrev pub invariant-made : goal.invariant-made
invariant-made l = record {
  only : (t : Triple) → Contains l.triples t → IsReachedTriple l.iface t;
  all : (t : Triple) → t.made < l.made → IsReachedTriple l.iface t → Contains l.triples t;
  below : (t : Triple) → Contains l.triples t → t.made < l.made;
  once : AreDistinct l.triples;
}
