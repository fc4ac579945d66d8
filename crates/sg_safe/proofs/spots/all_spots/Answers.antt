-- Walks of one call come first, and of these none is done.
use Rattle.std.proofs.Common.{map, ◌∙◌, ap}
use Rattle.sg_known.specs.sg_described.Described.{described_of}
use Rattle.sg_known.specs.sg_described.Walking.{add_spots, begins}
use Rattle.sg_safe.specs.Inside.Routes.{place_in}
use Rattle.sg_safe.proofs.Routing.{none_done, none_reached}
use Rattle.sg_safe.proofs.spots.all_spots.Goals as goal

pub add_begins-requires-clause-keys : goal.add_begins-requires-clause-keys
add_begins-requires-clause-keys c = c.nothing-first.ensures.keys (described_of c.args.description.now)

pub further-requires-clause-done : goal.further-requires-clause-done
further-requires-clause-done c = let d = described_of c.args.description.now in none_done d (map (place_in d) c.add_begins.new.found.list)

pub further-requires-clause-spots : goal.further-requires-clause-spots
further-requires-clause-spots c =
    let d = described_of c.args.description.now in
    c.in_ok-add_begins.ensures.spots ∙ ap (λ l. add_spots (map (place_in d) l) (begins d 1 d.facts.funs)) c.nothing-first.ensures.list

pub further-requires-clause-reached : goal.further-requires-clause-reached
further-requires-clause-reached c =
    c.in_ok-add_begins.ensures.reached (none_reached (described_of c.args.description.now) 1 c.nothing-first.result.list c.nothing-first.ensures.list)
