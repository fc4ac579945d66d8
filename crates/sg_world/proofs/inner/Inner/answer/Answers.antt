-- After a reply the step is one of its lines.
use Rattle.std.proofs.Common.{ap, if◌then◌else◌, inl, inr, ◌∙◌}
use Rattle.sg_facts.specs.sg_base.Stops.{asked_after}
use Rattle.sg_clients.specs.WorldView.{struck_at, with_points}
use Rattle.sg_world.specs.Inners.{view_in}
use Rattle.sg_world.proofs.inner.Inner.answer.Goals as goal

pub returns-then-strikes-clause-did : goal.returns-then-strikes-clause-did
returns-then-strikes-clause-did g c = λ s asked was.
    let between = view_in c.commit.new.self in
    inr (inr (inr (record {
      between = between;
      commits = c.commit.ensures.commits s asked was;
      now = c.strikes.ensures.view ∙ ap (λ t. if t then struck_at between (asked_after between.run.points 1) else with_points between (asked_after between.run.points 1)) c.if-strikes.true;
    })))

pub returns-else-strikes-clause-did : goal.returns-else-strikes-clause-did
returns-else-strikes-clause-did g c = λ s asked was.
    let between = view_in c.commit.new.self in
    inl (record {
      between = between;
      commits = c.commit.ensures.commits s asked was;
      now = c.strikes.ensures.view ∙ ap (λ t. if t then struck_at between (asked_after between.run.points 1) else with_points between (asked_after between.run.points 1)) c.if-strikes.false;
    })

pub returns-else-visible-clause-did : goal.returns-else-visible-clause-did
returns-else-visible-clause-did g c = λ s asked was. inr (c.hold.ensures.holds c.args.patch s asked was)
