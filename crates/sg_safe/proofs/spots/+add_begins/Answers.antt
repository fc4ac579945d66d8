-- The first function is that of the number.
use Rattle.std.proofs.Common.{map, rules}
use Rattle.sg_known.specs.sg_described.Described.{described_of}
use Rattle.sg_safe.specs.Inside.Routes.{place_in}
use Rattle.sg_safe.proofs.Routing.{begins_all, first_there, rest_there}
use Rattle.sg_safe.proofs.spots.+add_begins.Goals as goal

pub add_begin-requires-clause-fun : goal.add_begin-requires-clause-fun
add_begin-requires-clause-fun t c = first_there (described_of c.args.description.now).facts.funs c.args.funs.now _ c.args.number c.requires.some c.requires.funs c.in-len1-up.len_at_least

pub add_begins-requires : goal.add_begins-requires
add_begins-requires t c = search (rules, rest_there (described_of c.args.description.now).facts.funs c.args.funs.now c.args.number c.requires.some c.requires.funs c.in-len1-up.len_at_least)

pub returns-in_ok-add_begins-in-len1-up-clause-spots : goal.returns-in_ok-add_begins-in-len1-up-clause-spots
returns-in_ok-add_begins-in-len1-up-clause-spots t c =
    let d = described_of c.args.description.now in
    begins_all d c.args.funs.now _ c.args.number (map (place_in d) c.args.found.now.list) (map (place_in d) c.add_begin.new.found.list) (map (place_in d) c.add_begins.new.found.list)
    c.in-len1-up.len_at_least c.in_ok-add_begin-in-len1-up.ensures.spots c.in_ok-add_begins-in-len1-up.ensures.spots
