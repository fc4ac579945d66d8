-- Whether the function makes a descriptor.
use Rattle.std.proofs.Common.{map, ◌∙◌, sym, ap}
use Rattle.sg_known.specs.sg_facts.Facts.{fun_of_shape}
use Rattle.sg_known.specs.sg_described.Described.{described_of}
use Rattle.sg_safe.specs.Inside.Routes.{place_in}
use Rattle.sg_safe.proofs.Routing.{begin_no, begin_yes, reached_begun}
use Rattle.sg_safe.proofs.spots.add_begin.Goals as goal

pub returns-then-not-is_creation-clause-spots : goal.returns-then-not-is_creation-clause-spots
returns-then-not-is_creation-clause-spots c =
    let d = described_of c.args.description.now in
    begin_no d (map (place_in d) c.args.found.now.list) c.args.number (fun_of_shape c.args.fun.now) c.is_creation.result c.is_creation.ensures c.if-not-is_creation.true

pub returns-clause-spots : goal.returns-clause-spots
returns-clause-spots c =
    let d = described_of c.args.description.now in
    begin_yes d (map (place_in d) c.args.found.now.list) (map (place_in d) c.add_one.new.found.list) c.args.number (fun_of_shape c.args.fun.now) (place_in d c.in_ok-begun.field-0)
    c.is_creation.result c.is_creation.ensures c.if-not-is_creation.false c.in_ok-begun.ensures.spot c.in_ok-add_one.ensures.spots

pub returns-clause-reached : goal.returns-clause-reached
returns-clause-reached c = λ old. c.in_ok-add_one.ensures.reached 1
    (reached_begun (described_of c.args.description.now) c.in_ok-begun.field-0 c.args.number c.in_ok-begun.ensures.spot c.in_ok-begun.ensures.walk
    (ap (λ f. f.creation) c.requires.fun ∙ sym c.is_creation.ensures ∙ c.if-not-is_creation.false)) old
