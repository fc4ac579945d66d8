-- Found is just what is reached.
use Rattle.std.proofs.Common.{subst, inl, inr}
use Rattle.std.specs.List.{Contains}
use Rattle.sg_walk.proofs.ReachedStates.Reaching.{all_found, begun_reached}
use Rattle.sg_walk.proofs.ReachedStates.Triples.{none_in}
use Rattle.sg_walk.proofs.reach.places_of.Goals as goal

pub returns : goal.returns
returns c p = (
  λ has. c.in_ok-close.ensures.reached c.args.made (λ q there. elim (c.in_ok-add_begins.ensures.only q there) [
    | inl before ↦ absurd (none_in q (subst (λ l. Contains l q) c.new-found.ensures before))
    | inr begins ↦ begun_reached c.args.iface.now c.args.made q begins
  ]) p has,
  λ is. all_found c.args.iface.now c.close.new.found c.in_ok-close.ensures.closed c.args.made p (λ q begins. c.in_ok-close.ensures.kept q (c.in_ok-add_begins.ensures.all q begins)) is,
)
