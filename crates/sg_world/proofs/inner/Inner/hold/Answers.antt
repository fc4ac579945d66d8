-- A world keeps what it keeps where a client holds the reply to its call.
use Rattle.std.proofs.Common.{ap, arith, length, refl, sym, ◌-◌, ◌∙◌, ◌≡◌}
use Rattle.sg_facts.specs.Invoke.{Points}
use Rattle.sg_clients.specs.WorldView.{Seat, seat_in}
use Rattle.sg_clients.specs.declared.phase.Phase.TheVariants.{Held}
use Rattle.sg_world.specs.Inners.{rooms_in}
use Rattle.sg_world.specs.Inside.Served.{view_with}
use Rattle.sg_world.specs.Worlded.{setting_of}
use Rattle.sg_world.proofs.Replying.{held_line, held_on, replied_counted}
use Rattle.sg_world.proofs.Rooming.{length_set}
use Rattle.sg_world.proofs.inner.Inner.hold.Goals as goal

pub returns-clause-order : goal.returns-clause-order
returns-clause-order g c =
    let x = c.args.self.now in
    let z = setting_of g.S.Service.ask g.S.Service.sound g.S.Service.parts x.engine.tables in
    let s = c.requires.served.1 in
    let w = view_with s.before x in
    let later : Points = record { asked = g.T.Stops.asked x.stops; struck = g.T.Stops.struck x.stops } in
    let counts = replied_counted z s.before w (rooms_in x) s.world refl refl s.walks c.args.client c.requires.client.0 c.requires.client.1 s.let_in s.held s.up s.whole s.is_engine.given
    s.points later c.args.reply c.requires.served.0 x.engine s.tells s.counts.struck_so in
    record {
      world = held_on z s.before w (rooms_in x) s.world refl refl s.walks c.args.client c.requires.client.0 c.requires.client.1 s.let_in s.held s.up s.whole s.is_engine.given
          s.points later c.args.reply c.requires.served.0 x.engine s.tells c.requires.hidden s.tracked_same s.stored_same s.present_same c.boot_number-boot.result c.boot_number-boot.ensures c.hold.new.self c.hold.ensures;
      points = record { asked_so = counts.0; struck_so = counts.1; tested = s.tested };
      clients = (let seat : Seat = seat_in x.clients c.args.client in
          let same = ap length c.hold.ensures ∙ length_set x.clients (c.args.client - 1) (record seat { phase = Held; boot = c.boot_number-boot.result; reply = c.args.reply }) in
          let was = s.places in
          let stored : x.engine.stored.clients ≡ s.before.stored.clients = ap (λ t. t.clients) s.stored_same in
          omega (arith, same, was, stored));
      service = c.requires.service;
    }

pub returns-clause-holds : goal.returns-clause-holds
returns-clause-holds g c = λ patch s asked was.
    let x = c.args.self.now in
    let z = setting_of g.S.Service.ask g.S.Service.sound g.S.Service.parts x.engine.tables in
    let w = view_with s.before x in
    let later : Points = record { asked = g.T.Stops.asked x.stops; struck = g.T.Stops.struck x.stops } in
    held_line z s.before w (rooms_in x) s.world refl refl s.walks c.args.client c.requires.client.0 c.requires.client.1 s.let_in s.held s.up s.whole s.is_engine.given
    s.points later c.args.reply patch x.engine s.tells c.requires.hidden s.tracked_same s.stored_same s.present_same c.boot_number-boot.result c.boot_number-boot.ensures c.hold.new.self c.hold.ensures
    asked (sym s.counts.asked_so ∙ was)
