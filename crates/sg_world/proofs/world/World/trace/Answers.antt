-- The run recovers, and its points and stops are what the world keeps of them.
use Rattle.std.proofs.Common.{subst, ◌≡◌}
use Rattle.sg_world.specs.Engines.Stubs.{stub_of}
use Rattle.sg_replay.specs.sg_hist.Recovered.{AreInBoots, IsRecovered, struck_in}
use Rattle.sg_replay.specs.sg_hist.Growing.{IsRecovering}
use Rattle.sg_clients.specs.WorldView.{unanswered}
use Rattle.sg_world.proofs.Recovered.{last_now, recovered_now, recovering_now, tested_now}
use Rattle.sg_world.specs.Inners.{view_in}
use Rattle.sg_world.specs.Worlded.{CountsAll, Worlded, setting_of}
use Rattle.sg_world_laws.specs.Ending.{HasLastBoot, IsEnding}
use Rattle.sg_world_laws.specs.Setting.{stubs_of}
use Rattle.sg_world.proofs.world.World.trace.Goals as goal

pub returns-clause-recovering : goal.returns-clause-recovering
returns-clause-recovering g c =
    let x = c.self.inside.inner in
    subst (λ (y : Worlded). IsRecovering (stubs_of (setting_of g.S.Service.ask g.S.Service.sound g.S.Service.parts y.tables)) y.view.history y.view.run (unanswered y.view)) c.self.view_is
    (recovering_now (setting_of g.S.Service.ask g.S.Service.sound g.S.Service.parts x.engine.tables) (view_in x) (stub_of x.engine) c.self.invariant.0.world.keeps)

pub returns-clause-recovered : goal.returns-clause-recovered
returns-clause-recovered g c =
    let x = c.self.inside.inner in
    subst (λ (y : Worlded). y.view.refused ≡ 0 → IsRecovered (stubs_of (setting_of g.S.Service.ask g.S.Service.sound g.S.Service.parts y.tables)) y.view.history y.view.run (unanswered y.view)) c.self.view_is
    (recovered_now (setting_of g.S.Service.ask g.S.Service.sound g.S.Service.parts x.engine.tables) (view_in x) (stub_of x.engine) c.self.invariant.0.world.keeps c.self.invariant.1 c.self.invariant.3)

pub returns-clause-held : goal.returns-clause-held
returns-clause-held g c = subst (λ (y : Worlded). AreInBoots y.tables.iface.facts y.view.run 0 y.view.history) c.self.view_is c.self.invariant.3

pub returns-clause-stopped : goal.returns-clause-stopped
returns-clause-stopped g c =
    let x = c.self.inside.inner in
    subst (λ (y : Worlded). g.T.Stops.test y.view.run.points (struck_in y.view.run) y.plan) c.self.view_is
    (tested_now g.T.Stops.test (view_in x) (g.T.Stops.asked x.stops) (g.T.Stops.struck x.stops) (g.T.Stops.plan x.stops) c.self.invariant.0.points)

pub returns-clause-points : goal.returns-clause-points
returns-clause-points g c = subst (λ (y : Worlded). CountsAll (setting_of g.S.Service.ask g.S.Service.sound g.S.Service.parts y.tables) y.view) c.self.view_is c.self.invariant.1

pub returns-clause-last : goal.returns-clause-last
returns-clause-last g c =
    let x = c.self.inside.inner in
    subst (λ (y : Worlded). HasLastBoot y.view) c.self.view_is (last_now (setting_of g.S.Service.ask g.S.Service.sound g.S.Service.parts x.engine.tables) (view_in x) (stub_of x.engine) c.self.invariant.0.world.keeps)

pub returns-clause-ending : goal.returns-clause-ending
returns-clause-ending g c = subst (λ (y : Worlded). IsEnding (setting_of g.S.Service.ask g.S.Service.sound g.S.Service.parts y.tables) y.view) c.self.view_is c.self.invariant.2
