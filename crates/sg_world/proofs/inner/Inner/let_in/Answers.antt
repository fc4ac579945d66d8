-- A call that the guard lets pass boots a service that failed, and else uses it.
use Rattle.std.proofs.Common.{◌≡◌, ◌∙◌, ap, if◌then◌else◌, inl, inr, subst, sym}
use Rattle.std.specs.Prelude.{IfOk, IsSome}
use Rattle.sg_facts.specs.sg_base.Stops.{asked_after}
use Rattle.sg_clients.specs.WorldView.{WorldView, struck_at, with_points}
use Rattle.sg_world.specs.Inners.{view_in}
use Rattle.sg_world.specs.Inside.Lines.{NoMemoryLeft}
use Rattle.sg_world.specs.Steps.{StopsIdle, Steps}
use Rattle.sg_world.specs.Worlded.{setting_of}
use Rattle.sg_world.proofs.Points.{some_is}
use Rattle.sg_world.proofs.Rebuilding.{on_err_map}
use Rattle.sg_world.proofs.inner.Inner.let_in.Goals as goal

pub returns-then-strikes-clause-did : goal.returns-then-strikes-clause-did
returns-then-strikes-clause-did g c =
    let x = c.args.self.now in
    let z = setting_of g.S.Service.ask g.S.Service.sound g.S.Service.parts x.engine.tables in
    let w : WorldView = view_in x in
    let later : WorldView = view_in c.strikes.new.self in
    let up : IsSome w.running = sym c.is_up.ensures ∙ c.if-not-is_up.false in
    let held = some_is w.running up in
    let point = asked_after w.run.points 1 in
    let stops : StopsIdle z w c.args.client later = record {
      service = held.0;
      uses = record { let_in = record { phase = c.requires.let_in.phase; passes = c.requires.let_in.passes }; running = held.1 };
      now = c.strikes.ensures.view ∙ ap (λ b. if b then struck_at w point else with_points w point) c.if-strikes.true;
    } in
    inl stops

pub returns-clause-did : goal.returns-clause-did
returns-clause-did g c =
    let x = c.args.self.now in
    let w : WorldView = view_in x in
    let between : WorldView = view_in c.strikes.new.self in
    let later : WorldView = view_in c.use_service.new.self in
    let point = asked_after w.run.points 1 in
    let counted : between ≡ with_points w point = c.strikes.ensures.view ∙ ap (λ b. if b then struck_at w point else with_points w point) c.if-strikes.false in
    subst (λ t. IfOk c.use_service.result (λ did. Steps (setting_of g.S.Service.ask g.S.Service.sound g.S.Service.parts t) w c.args.client did later)) c.strikes.ensures.rest.tables
    (subst (λ y. IfOk c.use_service.result (λ did. Steps (setting_of g.S.Service.ask g.S.Service.sound g.S.Service.parts c.strikes.new.self.engine.tables) (with_points y w.run.points) c.args.client did later)) counted
    (c.use_service.ensures.did w.run.points (ap (λ y. y.run.points) counted)))

pub returns-clause-err : goal.returns-clause-err
returns-clause-err g c =
    let x = c.args.self.now in
    let z = setting_of g.S.Service.ask g.S.Service.sound g.S.Service.parts x.engine.tables in
    let w : WorldView = view_in x in
    let between : WorldView = view_in c.strikes.new.self in
    let later : WorldView = view_in c.use_service.new.self in
    let point = asked_after w.run.points 1 in
    let counted : between ≡ with_points w point = c.strikes.ensures.view ∙ ap (λ b. if b then struck_at w point else with_points w point) c.if-strikes.false in
    on_err_map c.use_service.result (later ≡ between) (NoMemoryLeft z w c.args.client later)
    (λ same. record { let_in = record { phase = c.requires.let_in.phase; passes = c.requires.let_in.passes }; now = inr (same ∙ counted) }) c.use_service.ensures.err
