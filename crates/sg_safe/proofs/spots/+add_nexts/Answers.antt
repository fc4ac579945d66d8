-- The first, and then the others.
use Rattle.std.proofs.Common.{◌<◌, length, map, sym, subst, rules, arith}
use Rattle.sg_known.specs.sg_described.Described.{described_of}
use Rattle.sg_safe.specs.Inside.Routes.{IsReached, place_in}
use Rattle.sg_safe.proofs.Routing.{all_rest, nexts_all, own_steps}
use Rattle.sg_safe.proofs.spots.+add_nexts.Goals as goal

pub add_steps-requires-clause-steps : goal.add_steps-requires-clause-steps
add_steps-requires-clause-steps t c = own_steps (described_of c.args.description.now)

pub add_nexts-requires : goal.add_nexts-requires
add_nexts-requires t c = search (rules, all_rest (λ r. length r.walk < 8) c.args.from.now c.requires.room)

pub returns-in_ok-add_nexts-in-len1-up-clause-spots : goal.returns-in_ok-add_nexts-in-len1-up-clause-spots
returns-in_ok-add_nexts-in-len1-up-clause-spots t c =
    let d = described_of c.args.description.now in
    nexts_all d c.args.from.now c.first-item.result (map (place_in d) c.args.found.now.list) (map (place_in d) c.add_steps.new.found.list) (map (place_in d) c.add_nexts.new.found.list)
    c.in-len1-up.len_at_least c.first-item.is c.in_ok-add_steps-in-len1-up.ensures.spots c.in_ok-add_nexts-in-len1-up.ensures.spots

pub returns-in_ok-add_nexts-in-len1-up-clause-reached : goal.returns-in_ok-add_nexts-in-len1-up-clause-reached
returns-in_ok-add_nexts-in-len1-up-clause-reached t c =
    λ calls from old.
    let d = described_of c.args.description.now in
    let some = c.in-len1-up.len_at_least in
    let low : 0 < length c.args.from.now = omega (arith, some) in
    let first : IsReached d calls c.first-item.result = subst (IsReached d calls) (sym c.first-item.is) (from 0 c.first-item.result low) in
    c.in_ok-add_nexts-in-len1-up.ensures.reached calls (all_rest (IsReached d calls) c.args.from.now from) (c.in_ok-add_steps-in-len1-up.ensures.reached calls first old)
