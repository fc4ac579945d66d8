-- Who waits, waits in a call that has no answer.
use Rattle.std.proofs.Common.{None, length, subst, sym, ◌∙◌, ◌≡◌, ◌≤◌}
use Rattle.sg_world.specs.Engines.Stubs.{stub_of}
use Rattle.sg_facts.specs.Legal.{answer}
use Rattle.sg_facts.specs.Object.{object_of}
use Rattle.sg_clients.specs.WorldView.{seat_of}
use Rattle.sg_world.proofs.Recovered.{seated_now}
use Rattle.sg_world.specs.Inners.{view_in}
use Rattle.sg_world.specs.Worlded.{Worlded, setting_of}
use Rattle.sg_world.proofs.world.World.phase.Goals as goal

pub returns-clause-waits : goal.returns-clause-waits
returns-clause-waits g c = λ blocked.
    let x = c.self.inside.inner in
    let last = subst (λ (y : Worlded). c.args.client ≤ length y.view.seats) (sym c.self.view_is) c.requires.client.1 in
    let seated = seated_now (setting_of g.S.Service.ask g.S.Service.sound g.S.Service.parts x.engine.tables) (view_in x) (stub_of x.engine) c.self.invariant.0.world.keeps c.args.client c.requires.client.0 last in
    subst (λ (y : Worlded). answer y.tables.iface g.S.Service.ask (object_of y.tables.iface.facts y.view.history) (seat_of y.view c.args.client).call ≡ None) c.self.view_is (seated.waits (sym c.phase.ensures ∙ blocked))
