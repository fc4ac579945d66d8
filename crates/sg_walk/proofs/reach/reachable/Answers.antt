-- Creation by creation.
use Rattle.std.proofs.Common.{sym, subst, arith}
use Rattle.std.specs.List.{Contains}
use Rattle.sg_walk.proofs.ReachedStates.Triples.{all_more, below_more, none_in, only_more, zero_none}
use Rattle.sg_walk.specs.ReachedStates.Triples.{AreDistinct}
use Rattle.sg_walk.proofs.reach.reachable.Goals as goal

pub made-init : goal.made-init
made-init c = record {
  only = λ t has. absurd (none_in t (subst (λ l. Contains l t) c.new-triples.ensures has));
  all = λ t few reached. absurd (zero_none c.args.iface.now t few reached);
  below = λ t has. absurd (none_in t (subst (λ l. Contains l t) c.new-triples.ensures has));
  once = subst AreDistinct (sym c.new-triples.ensures) (λ i j d less within. absurd (omega (arith, within)));
}

pub made-preserved : goal.made-preserved
made-preserved c = record {
  only = only_more c.args.iface.now c.made.made c.in_ok-found.found c.made.triples c.add_triples.new.triples c.in_ok-add_triples.ensures.adds c.in_ok-found.ensures c.made.invariant.only;
  all = all_more c.args.iface.now c.made.made c.in_ok-found.found c.made.triples c.add_triples.new.triples c.in_ok-add_triples.ensures.adds c.in_ok-found.ensures c.made.invariant.all;
  below = below_more c.args.iface.now c.made.made c.in_ok-found.found c.made.triples c.add_triples.new.triples c.in_ok-add_triples.ensures.adds c.in_ok-found.ensures c.made.invariant.below;
  once = c.in_ok-add_triples.ensures.adds.once c.made.invariant.below c.made.invariant.once c.in_ok-add_triples.ensures.places;
}
