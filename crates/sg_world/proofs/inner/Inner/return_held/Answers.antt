-- A world keeps what it keeps where a held reply is committed and handed over.
use Rattle.std.proofs.Common.{length, ◌-◌, ◌≤◌, None, ap, arith, map, subst, sym, ◌++◌, ◌∙◌, ◌∷◌, [], ◌≡◌, ◌<◌, ◌^◌, refl}
use Rattle.sg_facts.specs.Inside.Rows.{given_after, track}
use Rattle.sg_replay.specs.sg_hist.Recovered.{struck_in}
use Rattle.sg_replay.specs.Committing.{MayCommitAt}
use Rattle.sg_clients.specs.WorldView.{wakes_seat, woken_seat, seat_in, Seat, no_reply}
use Rattle.sg_clients.specs.declared.mark.MarkKind.TheVariants.{Answer, Entry as IsEntered}
use Rattle.sg_world.specs.Inners.{rooms_in, view_in}
use Rattle.sg_world.specs.Worlded.{IsWorld, Rooms, setting_of}
use Rattle.sg_world.proofs.Returning.{has_rooms, may_return, returned_on, returned_view, waits_live}
use Rattle.sg_world.specs.Inside.Waiting.{WaitOnLive}
use Rattle.std.proofs.lemmas.List.{length-map}
use Rattle.sg_world.proofs.Rooming.{length_set}
use Rattle.sg_clients.specs.declared.phase.Phase.TheVariants.{Idle}
use Rattle.sg_world.proofs.inner.Inner.return_held.Given
use Rattle.sg_world.proofs.inner.Inner.return_held.Goals.{Start}
use Rattle.sg_world.proofs.inner.Inner.return_held.Goals as goal

pub commit-requires : goal.commit-requires
commit-requires g c =
    let x = c.args.self.now in
    let s = seat_in x.clients c.args.client in
    subst (λ f. MayCommitAt f x.engine c.give_back-entry.result.entry.call c.give_back-entry.result.reply None) c.requires.order.service
    (subst (λ en. MayCommitAt x.engine.tables.iface.facts x.engine en.call c.give_back-entry.result.reply None) (sym c.give_back-entry.ensures.entry)
    (subst (λ r. MayCommitAt x.engine.tables.iface.facts x.engine s.call r None) (sym c.give_back-entry.ensures.reply)
    (may_return (setting_of g.S.Service.ask g.S.Service.sound g.S.Service.parts x.engine.tables) x.engine (view_in x) (rooms_in x) c.requires.order.world c.args.client c.requires.client.0 c.requires.client.1 c.requires.held c.requires.up c.requires.boot)))

-- there is room for what is added
rooms : (g : Given.Over) (c : Start g) → (1 ≤ c.args.self.now.history.room) × (3 ≤ c.args.self.now.marks.room)
rooms g c = has_rooms (setting_of g.S.Service.ask g.S.Service.sound g.S.Service.parts c.args.self.now.engine.tables) c.args.self.now.engine (view_in c.args.self.now) (rooms_in c.args.self.now) c.requires.order.world c.args.client c.requires.client.0 c.requires.client.1 c.requires.held c.requires.up c.requires.boot

pub add-requires : goal.add-requires
add-requires g c = (rooms g (goal.at.add-requires g c).Start).0

pub add-requires-2 : goal.add-requires-2
add-requires-2 g c = omega (arith, (rooms g (goal.at.add-requires-2 g c).Start).1)

pub add-requires-3 : goal.add-requires-3
add-requires-3 g c = omega (arith, (rooms g (goal.at.add-requires-3 g c).Start).1, c.add-2.ensures.room)

pub returns-clause-reply : goal.returns-clause-reply
returns-clause-reply g c = c.give_back-entry.ensures.answer

-- what `returned_on` and `returned_view` take
module _ (g : Given.Over) (c : goal.After-add-3 g) where
  fits : (seat_in c.args.self.now.clients c.args.client).call.seq < 2 ^ 32
  fits = subst (λ en. en.call.seq < 2 ^ 32) c.give_back-entry.ensures.entry c.give_back-entry.ensures.number

  rows : c.commit.new.self.tracked.rows ≡ track c.args.self.now.engine.tables.iface.facts c.args.self.now.engine.tracked.rows (seat_in c.args.self.now.clients c.args.client).call (seat_in c.args.self.now.clients c.args.client).reply
  rows = c.commit.ensures.rows
      ∙ ap (λ f. track f c.args.self.now.engine.tracked.rows c.give_back-entry.result.entry.call c.give_back-entry.result.reply) (sym c.requires.order.service)
      ∙ ap (λ en. track c.args.self.now.engine.tables.iface.facts c.args.self.now.engine.tracked.rows en.call c.give_back-entry.result.reply) c.give_back-entry.ensures.entry
      ∙ ap (track c.args.self.now.engine.tables.iface.facts c.args.self.now.engine.tracked.rows (seat_in c.args.self.now.clients c.args.client).call) c.give_back-entry.ensures.reply

  given : c.commit.new.self.tracked.given ≡ given_after c.args.self.now.engine.tables.iface.facts c.args.self.now.engine.tracked.given (seat_in c.args.self.now.clients c.args.client).call (seat_in c.args.self.now.clients c.args.client).reply
  given = c.commit.ensures.given
      ∙ ap (λ f. given_after f c.args.self.now.engine.tracked.given c.give_back-entry.result.entry.call c.give_back-entry.result.reply) (sym c.requires.order.service)
      ∙ ap (λ en. given_after c.args.self.now.engine.tables.iface.facts c.args.self.now.engine.tracked.given en.call c.give_back-entry.result.reply) c.give_back-entry.ensures.entry
      ∙ ap (given_after c.args.self.now.engine.tables.iface.facts c.args.self.now.engine.tracked.given (seat_in c.args.self.now.clients c.args.client).call) c.give_back-entry.ensures.reply

  history : c.add.new.self.items ≡ c.args.self.now.history.items ++ record { call = (seat_in c.args.self.now.clients c.args.client).call; reply = (seat_in c.args.self.now.clients c.args.client).reply } ∷ []
  history = c.add.ensures.items ∙ ap (λ en. c.args.self.now.history.items ++ en ∷ []) c.give_back-entry.ensures.entry

  marks : c.add-3.new.self.items ≡ (c.args.self.now.marks.items ++ record { client = c.args.client; kind = IsEntered } ∷ []) ++ record { client = c.args.client; kind = Answer } ∷ []
  marks = c.add-3.ensures.items ∙ ap (λ l. l ++ record { client = c.args.client; kind = Answer } ∷ []) c.add-2.ensures.items

  seats : c.wake.new.clients ≡ map (woken_seat (wakes_seat c.args.self.now.engine.tables.iface.facts c.args.self.now.engine.tracked.rows (seat_in c.args.self.now.clients c.args.client).call (seat_in c.args.self.now.clients c.args.client).reply)) c.give_back-entry.new.self
  seats =
      let x = c.args.self.now in
      let z = setting_of g.S.Service.ask g.S.Service.sound g.S.Service.parts x.engine.tables in
      let s = seat_in x.clients c.args.client in
      let en = c.give_back-entry.result.entry in
      subst (λ i. c.commit.new.self.tracked.rows ≡ track i.iface.facts x.engine.tracked.rows en.call en.reply → WaitOnLive i.iface.facts x.engine.tracked.rows en.call c.give_back-entry.new.self
      → c.wake.new.clients ≡ map (woken_seat (wakes_seat i.iface.facts x.engine.tracked.rows en.call en.reply)) c.give_back-entry.new.self) c.commit.ensures.tables (c.wake.ensures x.engine.tracked.rows)
      (rows ∙ sym (ap (λ y. track z.iface.facts x.engine.tracked.rows y.call y.reply) c.give_back-entry.ensures.entry))
      (subst (WaitOnLive z.iface.facts x.engine.tracked.rows en.call) (sym c.give_back-entry.ensures.seats)
      (waits_live z x.engine (view_in x) (rooms_in x) c.requires.order.world c.args.client c.requires.client.0 c.requires.client.1 c.requires.held c.requires.up c.requires.boot en.call (ap (λ y. y.call) c.give_back-entry.ensures.entry)
      (record s { phase = Idle; seq = s.call.seq; reply = no_reply }) refl))
      ∙ ap (λ y. map (woken_seat (wakes_seat z.iface.facts x.engine.tracked.rows y.call y.reply)) c.give_back-entry.new.self) c.give_back-entry.ensures.entry

pub returns-clause-view : goal.returns-clause-view
returns-clause-view g c =
    let x = c.args.self.now in
    let z = setting_of g.S.Service.ask g.S.Service.sound g.S.Service.parts x.engine.tables in
    returned_view z x.engine (view_in x) (rooms_in x) c.requires.order.world c.args.client c.requires.client.0 c.requires.client.1 c.requires.held c.requires.up c.requires.boot
    c.commit.new.self (rooms_in x) (fits g c) (rows g c) (given g c) c.commit.ensures.files c.commit.ensures.names c.commit.ensures.present c.add.new.self.items (history g c) c.give_back-entry.new.self c.wake.new.clients c.give_back-entry.ensures.seats
    (seats g c) c.add-3.new.self.items (marks g c) c.commit.new.self.cell.run c.commit.new.self.cell.running (ap (λ y. y.run) c.commit.ensures.cell) (ap (λ y. y.running) c.commit.ensures.cell)

pub returns-clause-order : goal.returns-clause-order
returns-clause-order g c =
    let x = c.args.self.now in
    let z = setting_of g.S.Service.ask g.S.Service.sound g.S.Service.parts x.engine.tables in
    let later : Rooms = record { entries = c.add.new.self.room; withdrawals = x.withdrawn.room; marks = c.add-3.new.self.room } in
    record {
      world =
          subst (λ t. IsWorld (setting_of g.S.Service.ask g.S.Service.sound g.S.Service.parts t) c.commit.new.self
          (record (view_in x) { history = c.add.new.self.items; run = c.commit.new.self.cell.run; running = c.commit.new.self.cell.running; seats = c.wake.new.clients; marks = c.add-3.new.self.items }) later) (sym c.commit.ensures.tables)
          (subst (λ y. IsWorld z c.commit.new.self (record (view_in x) { history = c.add.new.self.items; run = y.run; running = y.running; seats = c.wake.new.clients; marks = c.add-3.new.self.items }) later) (sym c.commit.ensures.cell)
          (returned_on z x.engine (view_in x) (rooms_in x) c.requires.order.world c.args.client c.requires.client.0 c.requires.client.1 c.requires.held c.requires.up c.requires.boot
          c.commit.new.self later (fits g c) (rows g c) (given g c) c.commit.ensures.files c.commit.ensures.names c.commit.ensures.present c.add.new.self.items (history g c) c.give_back-entry.new.self c.wake.new.clients c.give_back-entry.ensures.seats
          (seats g c) c.add-3.new.self.items (marks g c) c.add.ensures.room (omega arith) (let one = c.add-2.ensures.room in let two = c.add-3.ensures.room in omega (arith, one, two))));
      points = record {
        asked_so = ap (λ y. y.run.points) c.commit.ensures.cell ∙ c.requires.order.points.asked_so;
        struck_so = ap (λ y. struck_in y.run) c.commit.ensures.cell ∙ c.requires.order.points.struck_so;
        tested = c.requires.order.points.tested;
      };
      clients = subst (λ n. length c.wake.new.clients ≤ n) (sym c.commit.ensures.clients)
          (let s : Seat = seat_in x.clients c.args.client in
          let same = ap length (seats g c) ∙ length-map c.give_back-entry.new.self (woken_seat (wakes_seat x.engine.tables.iface.facts x.engine.tracked.rows s.call s.reply)) ∙ ap length c.give_back-entry.ensures.seats
          ∙ length_set x.clients (c.args.client - 1) (record s { phase = Idle; seq = s.call.seq; reply = no_reply }) in
          let was = c.requires.order.clients in
          omega (arith, same, was));
      service = ap (λ t. t.iface.facts) c.commit.ensures.tables ∙ c.requires.order.service;
    }
