-- Place by place.
use Rattle.std.proofs.Common.{sym}
use Rattle.sg_walk.proofs.ReachedStates.Closure.{ended}
use Rattle.sg_walk.proofs.ReachedStates.Triples.{triples_more, triples_all}
use Rattle.sg_walk.proofs.reach.add_triples.Goals as goal

pub places-preserved : goal.places-preserved
places-preserved c =
    triples_more c.args.made c.places.at c.args.found.now c.in-Some.place.now c.args.triples.now c.places.triples c.push.new.self c.places.invariant
    (sym c.in-Some.ensures.place) c.in_ok-push.ensures.ok

pub returns-clause-adds : goal.returns-clause-adds
returns-clause-adds c = triples_all c.args.made c.places.at c.args.found.now c.args.triples.now c.places.triples (ended c.args.found.now c.places.at (sym c.in_default.ensures.place)) c.places.invariant
