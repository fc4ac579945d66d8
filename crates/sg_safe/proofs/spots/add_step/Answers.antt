-- Whether the pair is a step from there.
use Rattle.std.proofs.Common.{◌≡◌, true, ◌+◌, length, map, sym, ◌∙◌}
use Rattle.sg_known.specs.sg_described.Described.{described_of}
use Rattle.sg_known.specs.sg_described.Walking.{is_step}
use Rattle.sg_safe.specs.Inside.Routes.{place_in}
use Rattle.sg_safe.proofs.Routing.{reached_more, step_no, step_yes, steps_on_by}
use Rattle.sg_safe.proofs.spots.add_step.Goals as goal

pub returns-then-not-steps_from-clause-spots : goal.returns-then-not-steps_from-clause-spots
returns-then-not-steps_from-clause-spots c =
    let d = described_of c.args.description.now in
    step_no d (map (place_in d) c.args.found.now.list) (place_in d c.args.from.now) (c.args.pair.0, c.args.pair.1) c.steps_from.result (c.steps_from.ensures (length d.facts.fields)) c.if-not-steps_from.true

pub returns-clause-spots : goal.returns-clause-spots
returns-clause-spots c =
    let d = described_of c.args.description.now in
    step_yes d (map (place_in d) c.args.found.now.list) (map (place_in d) c.add_one.new.found.list) (place_in d c.args.from.now) (place_in d c.in_ok-continued.field-0) (c.args.pair.0, c.args.pair.1)
    c.steps_from.result (c.steps_from.ensures (length d.facts.fields)) c.if-not-steps_from.false c.in_ok-continued.ensures.spot c.in_ok-add_one.ensures.spots

pub returns-clause-reached : goal.returns-clause-reached
returns-clause-reached c = λ calls from old.
    let d = described_of c.args.description.now in
    let step : is_step d (place_in d c.args.from.now) (c.args.pair.0, c.args.pair.1) ≡ true = sym (c.steps_from.ensures (length d.facts.fields)) ∙ c.if-not-steps_from.false in
    let goes = steps_on_by d (place_in d c.args.from.now) c.args.pair.0 c.args.pair.1 c.requires.step step in
    c.in_ok-add_one.ensures.reached (calls + 1)
    (reached_more d calls c.args.from.now c.in_ok-continued.field-0 c.args.pair.1 from c.in_ok-continued.ensures.spot c.in_ok-continued.ensures.walk goes) old
