-- A world keeps what it keeps where a call is withdrawn.
use Rattle.std.proofs.Common.{◌≤◌, sym, ap, subst, arith, length, ◌-◌, ◌∙◌}
use Rattle.sg_clients.specs.WorldView.{MayWithdraw, WorldView, seat_of}
use Rattle.sg_clients.specs.declared.phase.Phase.TheVariants.{Idle}
use Rattle.sg_world.proofs.Rooming.{length_set}
use Rattle.sg_world.specs.Inners.{rooms_in, view_in}
use Rattle.sg_world.specs.Worlded.{Rooms, setting_of}
use Rattle.sg_world.proofs.Turning.{may_withdraw, withdrawn_on}
use Rattle.sg_world.proofs.Ends.{ends_withdrawn}
use Rattle.sg_world.proofs.world.World.withdraw.Goals as goal

pub add-requires : goal.add-requires
add-requires g c =
    let e = c.self.inside.inner.engine in
    let w : WorldView = view_in c.self.inside.inner in
    let rooms : Rooms = rooms_in c.self.inside.inner in
    (may_withdraw (setting_of g.S.Service.ask g.S.Service.sound g.S.Service.parts e.tables) e w rooms rooms c.self.invariant.0.world c.args.client c.requires.client.0
    (subst (λ x. c.args.client ≤ length x.view.seats) (sym c.self.view_is) c.requires.client.1)
    (subst (λ x. MayWithdraw (seat_of x.view c.args.client).phase) (sym c.self.view_is) c.requires.may)).0

pub add-requires-2 : goal.add-requires-2
add-requires-2 g c =
    let e = c.self.inside.inner.engine in
    let w : WorldView = view_in c.self.inside.inner in
    let rooms : Rooms = rooms_in c.self.inside.inner in
    (may_withdraw (setting_of g.S.Service.ask g.S.Service.sound g.S.Service.parts e.tables) e w rooms rooms c.self.invariant.0.world c.args.client c.requires.client.0
    (subst (λ x. c.args.client ≤ length x.view.seats) (sym c.self.view_is) c.requires.client.1)
    (subst (λ x. MayWithdraw (seat_of x.view c.args.client).phase) (sym c.self.view_is) c.requires.may)).1

pub invariant_of-self : goal.invariant_of-self
invariant_of-self g c =
    let e = c.self.inside.inner.engine in
    let w : WorldView = view_in c.self.inside.inner in
    let rooms : Rooms = rooms_in c.self.inside.inner in
    let later : Rooms = record { entries = c.self.inside.inner.history.room; withdrawals = c.add.new.self.room; marks = c.add-2.new.self.room } in (
      record {
        world = withdrawn_on (setting_of g.S.Service.ask g.S.Service.sound g.S.Service.parts e.tables) e w rooms later c.self.invariant.0.world c.args.client c.requires.client.0
            (subst (λ x. c.args.client ≤ length x.view.seats) (sym c.self.view_is) c.requires.client.1)
            (subst (λ x. MayWithdraw (seat_of x.view c.args.client).phase) (sym c.self.view_is) c.requires.may)
            c.withdraw-withdrawn.new.self c.add.new.self.items c.withdraw-withdrawn.result c.add-2.new.self.items c.saturating_add-self-inside.result c.withdraw-withdrawn.ensures.seats
            (ap (λ x. x.call) c.withdraw-withdrawn.ensures.withdrawn) c.add.ensures.items c.add-2.ensures.items (omega arith) c.add.ensures.room c.add-2.ensures.room;
        points = record { asked_so = c.self.invariant.0.points.asked_so; struck_so = c.self.invariant.0.points.struck_so; tested = c.self.invariant.0.points.tested };
        clients = (let same = ap length c.withdraw-withdrawn.ensures.seats ∙ length_set c.self.inside.inner.clients (c.args.client - 1) (record (seat_of w c.args.client) { phase = Idle }) in let was = c.self.invariant.0.clients in omega (arith, same, was));
        service = c.self.invariant.0.service;
      },
      c.self.invariant.1,
      ends_withdrawn (setting_of g.S.Service.ask g.S.Service.sound g.S.Service.parts e.tables) w c.args.client c.requires.client.0 (subst (λ x. c.args.client ≤ length x.view.seats) (sym c.self.view_is) c.requires.client.1) c.self.invariant.2 c.withdraw-withdrawn.new.self c.withdraw-withdrawn.ensures.seats
          c.add.new.self.items c.withdraw-withdrawn.result c.add.ensures.items c.add-2.new.self.items c.saturating_add-self-inside.result,
      c.self.invariant.3,
    )
