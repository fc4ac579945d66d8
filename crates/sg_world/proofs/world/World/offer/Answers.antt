-- A world keeps what it keeps after an offer.
use Rattle.std.proofs.Common.{◌≡◌, ◌+◌, ◌++◌, ◌∷◌, [], ◌≤◌, sym, ◌∙◌, ap, subst, arith, refl, length, true, ◌-◌}
use Rattle.sg_facts.specs.sg_base.declared.call.Call.{Call}
use Rattle.sg_facts.specs.Interface.{declares}
use Rattle.sg_facts.specs.Kinds.{FitsKinds}
use Rattle.sg_clients.specs.WorldView.{IsFree, happened, offered, seat_of}
use Rattle.sg_clients.specs.declared.mark.MarkKind.TheVariants.{Offer}
use Rattle.sg_replay.specs.sg_hist.Clients.{MayBeMade}
use Rattle.sg_replay.specs.sg_hist.Recovered.{AreInBoots}
use Rattle.sg_clients.specs.declared.phase.Phase.TheVariants.{Asked}
use Rattle.sg_world.proofs.Rooming.{length_set}
use Rattle.sg_world.specs.Inners.{rooms_in, view_in}
use Rattle.sg_world.specs.Worlded.{IsWorld, Rooms, setting_of}
use Rattle.sg_world.proofs.Turning.{may_make, offered_again, only_counted_of}
use Rattle.sg_world.proofs.Ends.{ends_same, kept_offered}
use Rattle.sg_world.proofs.world.World.offer.Goals as goal

pub invariant_of-self-2 : goal.invariant_of-self-2
invariant_of-self-2 g c =
    let e = c.self.inside.inner.engine in
    let z = setting_of g.S.Service.ask g.S.Service.sound g.S.Service.parts e.tables in
    let w = view_in c.self.inside.inner in
    let rooms : Rooms = rooms_in c.self.inside.inner in
    let later : Rooms = record { entries = c.reserve.new.self.room; withdrawals = c.reserve-2.new.self.room; marks = c.add.new.self.room } in
    let call : Call = record { client = c.args.client; seq = c.seq.result + 1; fun = c.args.fun; desc = c.args.desc; args = c.args.args } in
    let last : c.args.client ≤ length w.seats = subst (λ x. c.args.client ≤ length x.view.seats) (sym c.self.view_is) c.requires.client.1 in
    let declared : declares z.iface c.args.fun ≡ true = subst (λ x. declares x.tables.iface c.args.fun ≡ true) (sym c.self.view_is) c.requires.declared in
    let fits : FitsKinds z.iface.facts call
    = subst (λ x. FitsKinds x.tables.iface.facts call) (sym c.self.view_is) (record { args = c.requires.fits.args; desc = c.requires.fits.desc }) in
    let few = c.self.invariant.0.world.keeps.seats.few in
    let may : MayBeMade z.iface call = may_make z c.self.invariant.0.world.set call c.requires.client.0 (omega (arith, last, few)) declared fits c.requires.words in (
      record {
        world = offered_again z e w rooms later c.self.invariant.0.world c.args.client c.requires.client.0 last call (subst (λ x. IsFree (seat_of x.view c.args.client).phase) (sym c.self.view_is) c.requires.free) refl
            (ap (λ n. n + 1) c.seq.ensures) may c.reserve.new.self.items c.offer.new.self c.reserve-2.new.self.items c.add.new.self.items c.saturating_add-self-inside.result c.reserve.ensures.items c.in_ok-offer.ensures.ok c.reserve-2.ensures.items
            (c.add.ensures.items ∙ ap (λ l. l ++ record { client = c.args.client; kind = Offer } ∷ []) c.reserve-3.ensures.items)
            (let n = c.len-clients.ensures in let room = c.in_ok-reserve.ensures.ok in omega (arith, n, room))
            (let n = c.len-clients.ensures in let room = c.in_ok-reserve-2.ensures.ok in omega (arith, n, room))
            (let n = c.len-clients.ensures in let room = c.in_ok-reserve-3.ensures.ok in let left = c.add.ensures.room in omega (arith, n, room, left));
        points = record { asked_so = c.self.invariant.0.points.asked_so; struck_so = c.self.invariant.0.points.struck_so; tested = c.self.invariant.0.points.tested };
        clients = (let same = ap length c.in_ok-offer.ensures.ok ∙ length_set c.self.inside.inner.clients (c.args.client - 1) (record (seat_of w c.args.client) { phase = Asked; call = call }) in let was = c.self.invariant.0.clients in omega (arith, same, was));
        service = c.self.invariant.0.service;
      },
      c.self.invariant.1,
      ends_same z (happened (offered w c.args.client call)) (record w { history = c.reserve.new.self.items; seats = c.offer.new.self; withdrawn = c.reserve-2.new.self.items; marks = c.add.new.self.items; events = c.saturating_add-self-inside.result }) c.reserve.ensures.items refl c.reserve-2.ensures.items c.in_ok-offer.ensures.ok
          (kept_offered z w c.args.client c.requires.client.0 last c.self.invariant.2 call (subst (λ x. IsFree (seat_of x.view c.args.client).phase) (sym c.self.view_is) c.requires.free)),
      subst (AreInBoots e.tables.iface.facts w.run 0) (sym c.reserve.ensures.items) c.self.invariant.3,
    )

pub invariant_of-self-in_err-reserve-2 : goal.invariant_of-self-in_err-reserve-2
invariant_of-self-in_err-reserve-2 g c =
    let e = c.self.inside.inner.engine in
    let w = view_in c.self.inside.inner in
    let rooms : Rooms = rooms_in c.self.inside.inner in
    let later : Rooms = record { entries = c.reserve.new.self.room; withdrawals = c.reserve-2.new.self.room; marks = c.self.inside.inner.marks.room } in (
      record {
        world = only_counted_of (setting_of g.S.Service.ask g.S.Service.sound g.S.Service.parts e.tables) e w rooms later c.self.invariant.0.world c.reserve.new.self.items c.reserve-2.new.self.items c.self.inside.inner.marks.items
            c.saturating_add-self-inside.result c.reserve.ensures.items c.reserve-2.ensures.items refl c.reserve.ensures.room c.reserve-2.ensures.room (omega arith);
        points = record { asked_so = c.self.invariant.0.points.asked_so; struck_so = c.self.invariant.0.points.struck_so; tested = c.self.invariant.0.points.tested };
        clients = c.self.invariant.0.clients;
        service = c.self.invariant.0.service;
      },
      c.self.invariant.1,
      ends_same (setting_of g.S.Service.ask g.S.Service.sound g.S.Service.parts e.tables) w (record w { history = c.reserve.new.self.items; seats = w.seats; withdrawn = c.reserve-2.new.self.items; marks = w.marks; events = c.saturating_add-self-inside.result }) c.reserve.ensures.items refl c.reserve-2.ensures.items refl c.self.invariant.2,
      subst (AreInBoots e.tables.iface.facts w.run 0) (sym c.reserve.ensures.items) c.self.invariant.3,
    )

pub invariant_of-self-in_err-reserve-3 : goal.invariant_of-self-in_err-reserve-3
invariant_of-self-in_err-reserve-3 g c =
    let e = c.self.inside.inner.engine in
    let w = view_in c.self.inside.inner in
    let rooms : Rooms = rooms_in c.self.inside.inner in
    let later : Rooms = record { entries = c.reserve.new.self.room; withdrawals = c.reserve-2.new.self.room; marks = c.reserve-3.new.self.room } in (
      record {
        world = only_counted_of (setting_of g.S.Service.ask g.S.Service.sound g.S.Service.parts e.tables) e w rooms later c.self.invariant.0.world c.reserve.new.self.items c.reserve-2.new.self.items c.reserve-3.new.self.items
            c.saturating_add-self-inside.result c.reserve.ensures.items c.reserve-2.ensures.items c.reserve-3.ensures.items c.reserve.ensures.room c.reserve-2.ensures.room c.reserve-3.ensures.room;
        points = record { asked_so = c.self.invariant.0.points.asked_so; struck_so = c.self.invariant.0.points.struck_so; tested = c.self.invariant.0.points.tested };
        clients = c.self.invariant.0.clients;
        service = c.self.invariant.0.service;
      },
      c.self.invariant.1,
      ends_same (setting_of g.S.Service.ask g.S.Service.sound g.S.Service.parts e.tables) w (record w { history = c.reserve.new.self.items; seats = w.seats; withdrawn = c.reserve-2.new.self.items; marks = c.reserve-3.new.self.items; events = c.saturating_add-self-inside.result }) c.reserve.ensures.items refl c.reserve-2.ensures.items refl c.self.invariant.2,
      subst (AreInBoots e.tables.iface.facts w.run 0) (sym c.reserve.ensures.items) c.self.invariant.3,
    )

pub invariant_of-self-in_err-offer : goal.invariant_of-self-in_err-offer
invariant_of-self-in_err-offer g c =
    let e = c.self.inside.inner.engine in
    let w = view_in c.self.inside.inner in
    let rooms : Rooms = rooms_in c.self.inside.inner in
    let later : Rooms = record { entries = c.reserve.new.self.room; withdrawals = c.reserve-2.new.self.room; marks = c.reserve-3.new.self.room } in (
      record {
        world = subst (λ l. IsWorld (setting_of g.S.Service.ask g.S.Service.sound g.S.Service.parts e.tables) e
            (record w { history = c.reserve.new.self.items; seats = l; withdrawn = c.reserve-2.new.self.items; marks = c.reserve-3.new.self.items; events = c.saturating_add-self-inside.result }) later) (sym c.in_err-offer.ensures.err)
            (only_counted_of (setting_of g.S.Service.ask g.S.Service.sound g.S.Service.parts e.tables) e w rooms later c.self.invariant.0.world c.reserve.new.self.items c.reserve-2.new.self.items c.reserve-3.new.self.items
            c.saturating_add-self-inside.result c.reserve.ensures.items c.reserve-2.ensures.items c.reserve-3.ensures.items c.reserve.ensures.room c.reserve-2.ensures.room c.reserve-3.ensures.room);
        points = record { asked_so = c.self.invariant.0.points.asked_so; struck_so = c.self.invariant.0.points.struck_so; tested = c.self.invariant.0.points.tested };
        clients = (let same = ap length c.in_err-offer.ensures.err in let was = c.self.invariant.0.clients in omega (arith, same, was));
        service = c.self.invariant.0.service;
      },
      c.self.invariant.1,
      ends_same (setting_of g.S.Service.ask g.S.Service.sound g.S.Service.parts e.tables) w (record w { history = c.reserve.new.self.items; seats = c.offer.new.self; withdrawn = c.reserve-2.new.self.items; marks = c.reserve-3.new.self.items; events = c.saturating_add-self-inside.result }) c.reserve.ensures.items refl c.reserve-2.ensures.items c.in_err-offer.ensures.err c.self.invariant.2,
      subst (AreInBoots e.tables.iface.facts w.run 0) (sym c.reserve.ensures.items) c.self.invariant.3,
    )

pub invariant_of-self : goal.invariant_of-self
invariant_of-self g c =
    let e = c.self.inside.inner.engine in
    let w = view_in c.self.inside.inner in
    let rooms : Rooms = rooms_in c.self.inside.inner in
    let later : Rooms = record { entries = c.reserve.new.self.room; withdrawals = c.self.inside.inner.withdrawn.room; marks = c.self.inside.inner.marks.room } in (
      record {
        world = only_counted_of (setting_of g.S.Service.ask g.S.Service.sound g.S.Service.parts e.tables) e w rooms later c.self.invariant.0.world c.reserve.new.self.items c.self.inside.inner.withdrawn.items c.self.inside.inner.marks.items
            c.saturating_add-self-inside.result c.reserve.ensures.items refl refl c.reserve.ensures.room (omega arith) (omega arith);
        points = record { asked_so = c.self.invariant.0.points.asked_so; struck_so = c.self.invariant.0.points.struck_so; tested = c.self.invariant.0.points.tested };
        clients = c.self.invariant.0.clients;
        service = c.self.invariant.0.service;
      },
      c.self.invariant.1,
      ends_same (setting_of g.S.Service.ask g.S.Service.sound g.S.Service.parts e.tables) w (record w { history = c.reserve.new.self.items; events = c.saturating_add-self-inside.result }) c.reserve.ensures.items refl refl refl c.self.invariant.2,
      subst (AreInBoots e.tables.iface.facts w.run 0) (sym c.reserve.ensures.items) c.self.invariant.3,
    )
