-- A world keeps what it keeps where a reply is handed over.
use Rattle.std.proofs.Common.{arith, ap, length, ◌∙◌, ◌-◌}
use Rattle.sg_clients.specs.WorldView.{no_reply, seat_in}
use Rattle.sg_clients.specs.declared.phase.Phase.TheVariants.{Idle}
use Rattle.sg_world.proofs.Rooming.{length_set}
use Rattle.sg_world.specs.Inners.{rooms_in, view_in}
use Rattle.sg_world.specs.Worlded.{Rooms, setting_of}
use Rattle.sg_world.proofs.Handing.{handed_on, may_hand}
use Rattle.sg_world.proofs.inner.Inner.hand_over.Goals as goal

pub add-requires : goal.add-requires
add-requires g c =
    let x = c.args.self.now in
    may_hand (setting_of g.S.Service.ask g.S.Service.sound g.S.Service.parts x.engine.tables) x.engine (view_in x) (rooms_in x) (rooms_in x) c.requires.order.world c.args.client c.requires.client.0 c.requires.client.1 c.requires.receipted

pub returns-clause-order : goal.returns-clause-order
returns-clause-order g c =
    let x = c.args.self.now in
    let later : Rooms = record { entries = x.history.room; withdrawals = x.withdrawn.room; marks = c.add.new.self.room } in
    record {
      world = handed_on (setting_of g.S.Service.ask g.S.Service.sound g.S.Service.parts x.engine.tables) x.engine (view_in x) (rooms_in x) later c.requires.order.world c.args.client c.requires.client.0 c.requires.client.1
          c.requires.receipted c.hand_over-reply.new.self c.add.new.self.items c.hand_over-reply.ensures.seats c.add.ensures.items (omega arith) (omega arith) c.add.ensures.room;
      points = record { asked_so = c.requires.order.points.asked_so; struck_so = c.requires.order.points.struck_so; tested = c.requires.order.points.tested };
      clients = (let same = ap length c.hand_over-reply.ensures.seats ∙ length_set x.clients (c.args.client - 1) (record (seat_in x.clients c.args.client) { phase = Idle; reply = no_reply }) in let was = c.requires.order.clients in omega (arith, same, was));
      service = c.requires.order.service;
    }
