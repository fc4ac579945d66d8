-- A world keeps what it keeps where a client leaves.
use Rattle.std.proofs.Common.{◌≤◌, sym, ◌∙◌, subst, arith, length, ap, ◌-◌}
use Rattle.sg_clients.specs.WorldView.{IsFree, WorldView, seat_of}
use Rattle.sg_clients.specs.declared.phase.Phase.TheVariants.{Left}
use Rattle.sg_world.proofs.Rooming.{length_set}
use Rattle.sg_world.specs.Inners.{rooms_in, view_in}
use Rattle.sg_world.specs.Worlded.{Rooms, setting_of}
use Rattle.sg_world.proofs.Turning.{left_on, may_leave}
use Rattle.sg_world.proofs.Ends.{ends_left}
use Rattle.sg_world.proofs.world.World.leave.Goals as goal

pub add-requires : goal.add-requires
add-requires g c =
    let e = c.self.inside.inner.engine in
    let w : WorldView = view_in c.self.inside.inner in
    let rooms : Rooms = rooms_in c.self.inside.inner in
    may_leave (setting_of g.S.Service.ask g.S.Service.sound g.S.Service.parts e.tables) e w rooms rooms c.self.invariant.0.world c.args.client c.requires.client.0
    (subst (λ x. c.args.client ≤ length x.view.seats) (sym c.self.view_is) c.requires.client.1)
    (subst (λ x. IsFree (seat_of x.view c.args.client).phase) (sym c.self.view_is) c.requires.free) (sym c.has_left.ensures ∙ c.if-not-has_left.true)

pub invariant_of-self : goal.invariant_of-self
invariant_of-self g c =
    let e = c.self.inside.inner.engine in
    let w : WorldView = view_in c.self.inside.inner in
    let rooms : Rooms = rooms_in c.self.inside.inner in
    let later : Rooms = record { entries = c.self.inside.inner.history.room; withdrawals = c.self.inside.inner.withdrawn.room; marks = c.add.new.self.room } in (
      record {
        world = left_on (setting_of g.S.Service.ask g.S.Service.sound g.S.Service.parts e.tables) e w rooms later c.self.invariant.0.world c.args.client c.requires.client.0
            (subst (λ x. c.args.client ≤ length x.view.seats) (sym c.self.view_is) c.requires.client.1)
            (subst (λ x. IsFree (seat_of x.view c.args.client).phase) (sym c.self.view_is) c.requires.free) (sym c.has_left.ensures ∙ c.if-not-has_left.true)
            c.leave.new.self c.add.new.self.items c.saturating_add-self-inside.result c.leave.ensures c.add.ensures.items (omega arith) (omega arith) c.add.ensures.room;
        points = record { asked_so = c.self.invariant.0.points.asked_so; struck_so = c.self.invariant.0.points.struck_so; tested = c.self.invariant.0.points.tested };
        clients = (let same = ap length c.leave.ensures ∙ length_set c.self.inside.inner.clients (c.args.client - 1) (record (seat_of w c.args.client) { phase = Left }) in let was = c.self.invariant.0.clients in omega (arith, same, was));
        service = c.self.invariant.0.service;
      },
      c.self.invariant.1,
      ends_left (setting_of g.S.Service.ask g.S.Service.sound g.S.Service.parts e.tables) w c.args.client c.requires.client.0 (subst (λ x. c.args.client ≤ length x.view.seats) (sym c.self.view_is) c.requires.client.1) c.self.invariant.2 (subst (λ x. IsFree (seat_of x.view c.args.client).phase) (sym c.self.view_is) c.requires.free) (sym c.has_left.ensures ∙ c.if-not-has_left.true)
          c.leave.new.self c.leave.ensures c.add.new.self.items c.saturating_add-self-inside.result,
      c.self.invariant.3,
    )
