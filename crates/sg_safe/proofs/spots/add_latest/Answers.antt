-- From those that were found last.
use Rattle.std.proofs.Common.{◌<◌, ◌-◌, ◌∙◌, length, take, drop, ap}
use Rattle.sg_known.specs.sg_described.Described.{described_of}
use Rattle.sg_safe.specs.Inside.Routes.{IsReached}
use Rattle.sg_safe.proofs.Routing.{all_latest, latest_more, reached_weaker}
use Rattle.sg_safe.proofs.spots.add_latest.Goals as goal

pub add_nexts-requires-clause-room : goal.add_nexts-requires-clause-room
add_nexts-requires-clause-room c =
    all_latest (λ r. length r.walk < 8) c.args.done c.args.found.now.list c.as_slice-2.result.now
    (c.as_slice-2.ensures ∙ c.in_ok-latest.ensures ∙ ap (λ l. take (length l - c.args.done) (drop c.args.done l)) c.as_slice.ensures) c.requires.room

pub returns-clause-spots : goal.returns-clause-spots
returns-clause-spots c =
    latest_more (described_of c.args.description.now) c.args.done c.args.found.now.list c.add_nexts.new.found.list c.as_slice-2.result.now c.requires.done
    (c.as_slice-2.ensures ∙ c.in_ok-latest.ensures ∙ ap (λ l. take (length l - c.args.done) (drop c.args.done l)) c.as_slice.ensures) c.in_ok-add_nexts.ensures.spots

pub returns-clause-reached : goal.returns-clause-reached
returns-clause-reached c =
    λ calls all.
    let d = described_of c.args.description.now in
    c.in_ok-add_nexts.ensures.reached calls
    (all_latest (IsReached d calls) c.args.done c.args.found.now.list c.as_slice-2.result.now
    (c.as_slice-2.ensures ∙ c.in_ok-latest.ensures ∙ ap (λ l. take (length l - c.args.done) (drop c.args.done l)) c.as_slice.ensures) all)
    (reached_weaker d calls c.args.found.now.list all)
