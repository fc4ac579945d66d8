-- The history is legal, and who waits has no answer after it.
use Rattle.std.proofs.Common.{None, ℕ, length, subst, ◌≡◌, ◌≤◌}
use Rattle.sg_world.specs.Engines.Stubs.{stub_of}
use Rattle.sg_facts.specs.Legal.{LegalFrom, answer}
use Rattle.sg_facts.specs.Object.{empty_object, object_of}
use Rattle.sg_clients.specs.WorldView.{seat_of}
use Rattle.sg_clients.specs.declared.phase.Phase.TheVariants.{Blocked}
use Rattle.sg_world.proofs.Recovered.{seated_now}
use Rattle.sg_world.specs.Inners.{view_in}
use Rattle.sg_world.specs.Worlded.{Worlded, setting_of}
use Rattle.sg_world.proofs.world.World.history.Goals as goal

pub returns-clause-legal : goal.returns-clause-legal
returns-clause-legal g c = subst (λ (y : Worlded). LegalFrom y.tables.iface g.S.Service.ask empty_object y.view.history) c.self.view_is c.self.invariant.0.world.keeps.legal

pub returns-clause-waits : goal.returns-clause-waits
returns-clause-waits g c =
    let x = c.self.inside.inner in
    subst (λ (y : Worlded). (client : ℕ) → 1 ≤ client → client ≤ length y.view.seats
    → (seat_of y.view client).phase ≡ Blocked → answer y.tables.iface g.S.Service.ask (object_of y.tables.iface.facts y.view.history) (seat_of y.view client).call ≡ None) c.self.view_is
    (λ client first last. (seated_now (setting_of g.S.Service.ask g.S.Service.sound g.S.Service.parts x.engine.tables) (view_in x) (stub_of x.engine) c.self.invariant.0.world.keeps client first last).waits)
