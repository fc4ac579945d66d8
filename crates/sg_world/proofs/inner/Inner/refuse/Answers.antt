-- A world keeps what it keeps where the guard refuses a call.
use Rattle.std.proofs.Common.{length, ◌-◌, ap, arith, subst, ◌++◌, ◌∙◌, ◌∷◌, [], ◌≡◌, ◌<◌, ◌≤◌, ◌^◌}
use Rattle.sg_facts.specs.sg_base.declared.reply.Reply.TheVariants.{Refused}
use Rattle.sg_clients.specs.WorldView.{Seat, no_reply, seat_in}
use Rattle.sg_clients.specs.declared.phase.Phase.TheVariants.{Idle}
use Rattle.sg_world.proofs.Rooming.{length_set}
use Rattle.sg_clients.specs.declared.mark.MarkKind.TheVariants.{Answer, Entry as IsEntered}
use Rattle.sg_world.specs.Inners.{rooms_in, view_in}
use Rattle.sg_world.specs.Worlded.{Rooms, setting_of}
use Rattle.sg_world.proofs.Denying.{denial_rooms, denied_on, denied_view}
use Rattle.sg_world.proofs.inner.Inner.refuse.Given
use Rattle.sg_world.proofs.inner.Inner.refuse.Goals.{Start}
use Rattle.sg_world.proofs.inner.Inner.refuse.Goals as goal

-- there is room for what is added
rooms : (g : Given.Over) (c : Start g) → (1 ≤ c.args.self.now.history.room) × (3 ≤ c.args.self.now.marks.room)
rooms g c = denial_rooms (setting_of g.S.Service.ask g.S.Service.sound g.S.Service.parts c.args.self.now.engine.tables) c.args.self.now.engine (view_in c.args.self.now) (rooms_in c.args.self.now) c.requires.order.world c.args.client c.requires.client.0 c.requires.client.1 c.requires.asks c.args.code c.requires.refuses

pub add-requires : goal.add-requires
add-requires g c = (rooms g (goal.at.add-requires g c).Start).0

pub add-requires-2 : goal.add-requires-2
add-requires-2 g c = omega (arith, (rooms g (goal.at.add-requires-2 g c).Start).1)

pub add-requires-3 : goal.add-requires-3
add-requires-3 g c = omega (arith, (rooms g (goal.at.add-requires-3 g c).Start).1, c.add-2.ensures.room)

-- what `denied_on` and `denied_view` take
module _ (g : Given.Over) (c : goal.After-add-3 g) where
  fits : (seat_in c.args.self.now.clients c.args.client).call.seq < 2 ^ 32
  fits = subst (λ q. q.seq < 2 ^ 32) c.refuse-call.ensures.call c.refuse-call.ensures.number

  history : c.add.new.self.items ≡ c.args.self.now.history.items ++ record { call = (seat_in c.args.self.now.clients c.args.client).call; reply = Refused c.args.code } ∷ []
  history = c.add.ensures.items ∙ ap (λ q. c.args.self.now.history.items ++ record { call = q; reply = Refused c.args.code } ∷ []) c.refuse-call.ensures.call

  marks : c.add-3.new.self.items ≡ (c.args.self.now.marks.items ++ record { client = c.args.client; kind = IsEntered } ∷ []) ++ record { client = c.args.client; kind = Answer } ∷ []
  marks = c.add-3.ensures.items ∙ ap (λ l. l ++ record { client = c.args.client; kind = Answer } ∷ []) c.add-2.ensures.items

pub returns-clause-view : goal.returns-clause-view
returns-clause-view g c =
    let x = c.args.self.now in
    denied_view (setting_of g.S.Service.ask g.S.Service.sound g.S.Service.parts x.engine.tables) x.engine (view_in x) (rooms_in x) c.requires.order.world c.args.client c.requires.client.0 c.requires.client.1 c.requires.asks c.args.code c.requires.refuses
    (rooms_in x) (fits g c) c.add.new.self.items (history g c) c.refuse-call.new.self c.refuse-call.ensures.seats c.add-3.new.self.items (marks g c)

pub returns-clause-order : goal.returns-clause-order
returns-clause-order g c =
    let x = c.args.self.now in
    let later : Rooms = record { entries = c.add.new.self.room; withdrawals = x.withdrawn.room; marks = c.add-3.new.self.room } in
    record {
      world = denied_on (setting_of g.S.Service.ask g.S.Service.sound g.S.Service.parts x.engine.tables) x.engine (view_in x) (rooms_in x) c.requires.order.world c.args.client c.requires.client.0 c.requires.client.1 c.requires.asks c.args.code c.requires.refuses
          later (fits g c) c.add.new.self.items (history g c) c.refuse-call.new.self c.refuse-call.ensures.seats c.add-3.new.self.items (marks g c)
          c.add.ensures.room (omega arith) (let one = c.add-2.ensures.room in let two = c.add-3.ensures.room in omega (arith, one, two));
      points = record { asked_so = c.requires.order.points.asked_so; struck_so = c.requires.order.points.struck_so; tested = c.requires.order.points.tested };
      clients = (let s : Seat = seat_in x.clients c.args.client in let same = ap length c.refuse-call.ensures.seats ∙ length_set x.clients (c.args.client - 1) (record s { phase = Idle; seq = s.call.seq; reply = no_reply }) in let was = c.requires.order.clients in omega (arith, same, was));
      service = c.requires.order.service;
    }
