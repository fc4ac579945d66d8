-- A call that isn't answered is its client's, and a receipt is for its client's last entry.
use Rattle.std.proofs.Common.{Some, true, length, subst, sym, ◌≡◌, ◌≤◌}
use Rattle.sg_clients.specs.WorldView.{is_offered, seat_of}
use Rattle.sg_clients.specs.declared.phase.Phase.TheVariants.{Receipted}
use Rattle.sg_replay.specs.sg_hist.Clients.{calls_of}
use Rattle.sg_world.proofs.Recovered.{seated_now}
use Rattle.sg_world.specs.Engines.Stubs.{stub_of}
use Rattle.sg_world.specs.Inners.{view_in}
use Rattle.sg_world.specs.Worlded.{Worlded, setting_of}
use Rattle.sg_world_laws.specs.Seats.{last_of}
use Rattle.sg_world.proofs.world.World.call.Goals as goal

pub returns-clause-its : goal.returns-clause-its
returns-clause-its g c =
    let x = c.self.inside.inner in
    let last = subst (λ (y : Worlded). c.args.client ≤ length y.view.seats) (sym c.self.view_is) c.requires.client.1 in
    let seated = seated_now (setting_of g.S.Service.ask g.S.Service.sound g.S.Service.parts x.engine.tables) (view_in x) (stub_of x.engine) c.self.invariant.0.world.keeps c.args.client c.requires.client.0 last in
    subst (λ (y : Worlded). is_offered (seat_of y.view c.args.client).phase ≡ true → (seat_of y.view c.args.client).call.client ≡ c.args.client) c.self.view_is seated.its

pub returns-clause-receipt : goal.returns-clause-receipt
returns-clause-receipt g c =
    let x = c.self.inside.inner in
    let last = subst (λ (y : Worlded). c.args.client ≤ length y.view.seats) (sym c.self.view_is) c.requires.client.1 in
    let seated = seated_now (setting_of g.S.Service.ask g.S.Service.sound g.S.Service.parts x.engine.tables) (view_in x) (stub_of x.engine) c.self.invariant.0.world.keeps c.args.client c.requires.client.0 last in
    subst (λ (y : Worlded). (seat_of y.view c.args.client).phase ≡ Receipted
    → last_of (calls_of y.view.history c.args.client) ≡ Some (record { call = (seat_of y.view c.args.client).call; reply = (seat_of y.view c.args.client).reply })) c.self.view_is seated.receipt
