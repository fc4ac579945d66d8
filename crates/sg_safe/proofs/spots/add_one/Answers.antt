-- A spot is found by its key.
use Rattle.std.proofs.Common.{map, ◌∙◌, ap}
use Rattle.sg_known.specs.sg_described.Described.{described_of}
use Rattle.sg_safe.specs.Inside.Keys.{keyed}
use Rattle.sg_safe.specs.Inside.Routes.{place_in}
use Rattle.sg_safe.proofs.Keying.{found_by, found_more, listed_one, lost_one, new_one}
use Rattle.sg_safe.proofs.spots.add_one.Goals as goal

pub returns-then-has-clause-spots : goal.returns-then-has-clause-spots
returns-then-has-clause-spots c =
    let d = described_of c.args.description.now in
    listed_one d (map (place_in d) c.args.found.now.list) (place_in d c.args.reached) c.has.result
    (found_by d c.args.found.now c.args.reached c.key_of-key.result c.has.result c.requires.keys (c.key_of-key.ensures ∙ ap (λ n. keyed n c.args.reached.spot) c.count.ensures) c.has.ensures) c.if-has.true

pub returns-then-loses-clause-spots : goal.returns-then-loses-clause-spots
returns-then-loses-clause-spots c =
    let d = described_of c.args.description.now in
    lost_one d (map (place_in d) c.args.found.now.list) (place_in d c.args.reached) c.loses.result c.loses.ensures c.if-loses.true

pub returns-clause-spots : goal.returns-clause-spots
returns-clause-spots c =
    let d = described_of c.args.description.now in
    new_one d c.args.found.now.list c.push.new.self c.args.reached c.has.result c.loses.result
    (found_by d c.args.found.now c.args.reached c.key_of-key.result c.has.result c.requires.keys (c.key_of-key.ensures ∙ ap (λ n. keyed n c.args.reached.spot) c.count.ensures) c.has.ensures) c.if-has.false
    c.loses.ensures c.if-loses.false c.in_ok-push.ensures.ok

pub returns-clause-keys : goal.returns-clause-keys
returns-clause-keys c =
    found_more (described_of c.args.description.now) c.args.found.now _ c.args.reached c.key_of-key.result c.requires.keys (c.key_of-key.ensures ∙ ap (λ n. keyed n c.args.reached.spot) c.count.ensures)
    c.in_ok-add.ensures.ok c.in_ok-push.ensures.ok
