-- A world keeps what it keeps where a visible call is committed.
use Rattle.std.proofs.Common.{IsSome, [], ap, arith, length, map, refl, subst, sym, ◌++◌, ◌-◌, ◌<◌, ◌^◌, ◌∙◌, ◌∷◌, ◌≡◌, ◌≤◌}
use Rattle.std.proofs.lemmas.List.{length-map}
use Rattle.sg_facts.specs.Invoke.{Points}
use Rattle.std.specs.Prelude.{slice_set}
use Rattle.sg_facts.specs.Object.{object_of}
use Rattle.sg_facts.specs.Inside.Rows.{given_after, track}
use Rattle.sg_replay.specs.sg_hist.Recovered.{struck_in}
use Rattle.sg_replay.specs.Committing.{MayCommitAt}
use Rattle.sg_clients.specs.WorldView.{Seat, is_offered, seat_in, wakes_seat, woken_seat}
use Rattle.sg_clients.specs.declared.phase.Phase.TheVariants.{Receipted}
use Rattle.sg_world.specs.Inners.{rooms_in}
use Rattle.sg_world.specs.Inside.Served.{view_with}
use Rattle.sg_world.specs.Inside.Waiting.{WaitOnLive, refuses}
use Rattle.sg_world.specs.Worlded.{IsWorld, Rooms, setting_of, view_of}
use Rattle.sg_world.proofs.Entering.{entered_some}
use Rattle.sg_world.proofs.Replying.{committed_line, committed_on, may_commit, replied_counted, replied_up, waits_live}
use Rattle.sg_world.proofs.Rooming.{length_set}
use Rattle.sg_world.proofs.Wakes.{refuses_so, same_call}
use Rattle.sg_world_laws.proofs.Turns.{seat_there}
use Rattle.sg_world.proofs.inner.Inner.commit.Given
use Rattle.sg_world.proofs.inner.Inner.commit.Goals.{in-Refused, in_default}
use Rattle.sg_world.proofs.inner.Inner.commit.Goals as goal

pub enter-requires-clause-fits : goal.enter-requires-clause-fits
enter-requires-clause-fits g c = c.requires.served.fits.0

pub commit-requires : goal.commit-requires
commit-requires g c =
    let x = c.args.self.now in
    let z = setting_of g.S.Service.ask g.S.Service.sound g.S.Service.parts x.engine.tables in
    let s = c.requires.served in
    let w = view_with s.before x in
    let later : Points = record { asked = g.T.Stops.asked x.stops; struck = g.T.Stops.struck x.stops } in
    subst (λ f. MayCommitAt f x.engine c.call-call.result.now c.args.reply c.args.patch) c.requires.service
    (subst (λ q. MayCommitAt x.engine.tables.iface.facts x.engine q c.args.reply c.args.patch) (sym (same_call x.clients c.enter.new.clients c.args.client (record (seat_in x.clients c.args.client) { phase = Receipted; seq = (seat_in x.clients c.args.client).call.seq; reply = c.args.reply }) c.call-call.result.now c.requires.client.0 c.requires.client.1 c.enter.ensures.seats c.call-call.ensures))
    (may_commit z s.before w (rooms_in x) s.world refl refl s.walks c.args.client c.requires.client.0 c.requires.client.1 s.let_in s.held s.up s.whole s.is_engine.given
    s.points later c.args.reply c.args.patch x.engine s.tells c.requires.visible s.tracked_same s.stored_same s.present_same s.is_engine s.places s.rooms s.fits))

pub enter-requires-clause-room : goal.enter-requires-clause-room
enter-requires-clause-room g c =
    let x = c.args.self.now in
    let s = c.requires.served in
    let w = view_with s.before x in
    (entered_some x.clients (rooms_in x) s.world.rooms_are (c.args.client - 1) (seat_in x.clients c.args.client) (seat_there w c.args.client c.requires.client.0 c.requires.client.1) (ap is_offered s.let_in.phase)).0

pub add-requires : goal.add-requires
add-requires g c =
    let x = c.args.self.now in
    let s = c.requires.served in
    let w = view_with s.before x in
    let some = (entered_some x.clients (rooms_in x) s.world.rooms_are (c.args.client - 1) (seat_in x.clients c.args.client) (seat_there w c.args.client c.requires.client.0 c.requires.client.1) (ap is_offered s.let_in.phase)).1 in
    omega (arith, some)

-- whether the reply refuses was told
told_refused : (g : Given.Over) (c : goal.After-add g) → refuses c.args.reply ≡ c.match-matches.matches
told_refused g c = elim c.match-matches.branch [
  | in-Refused w ↦ refuses_so c.args.reply w.in-Refused.field-0 w.in-Refused.is ∙ sym w.matches-is
  | in_default w ↦ ap refuses w.in_default.is ∙ sym w.matches-is
]

-- what `committed_on` and `committed_line` take
module _ (g : Given.Over) (c : goal.After-add g) where
  fits : (seat_in c.args.self.now.clients c.args.client).call.seq < 2 ^ 32
  fits = c.enter.ensures.number

  called : c.call-call.result.now ≡ (seat_in c.args.self.now.clients c.args.client).call
  called = same_call c.args.self.now.clients c.enter.new.clients c.args.client (record (seat_in c.args.self.now.clients c.args.client) { phase = Receipted; seq = (seat_in c.args.self.now.clients c.args.client).call.seq; reply = c.args.reply })
      c.call-call.result.now c.requires.client.0 c.requires.client.1 c.enter.ensures.seats c.call-call.ensures

  rows : c.commit.new.self.tracked.rows ≡ track c.args.self.now.engine.tables.iface.facts c.args.self.now.engine.tracked.rows (seat_in c.args.self.now.clients c.args.client).call c.args.reply
  rows = c.commit.ensures.rows
      ∙ ap (λ f. track f c.args.self.now.engine.tracked.rows c.call-call.result.now c.args.reply) (sym c.requires.service)
      ∙ ap (λ q. track c.args.self.now.engine.tables.iface.facts c.args.self.now.engine.tracked.rows q c.args.reply) called

  given : c.commit.new.self.tracked.given ≡ given_after c.args.self.now.engine.tables.iface.facts c.args.self.now.engine.tracked.given (seat_in c.args.self.now.clients c.args.client).call c.args.reply
  given = c.commit.ensures.given
      ∙ ap (λ f. given_after f c.args.self.now.engine.tracked.given c.call-call.result.now c.args.reply) (sym c.requires.service)
      ∙ ap (λ q. given_after c.args.self.now.engine.tables.iface.facts c.args.self.now.engine.tracked.given q c.args.reply) called

  history : c.enter.new.history.items ≡ c.args.self.now.history.items ++ record { call = (seat_in c.args.self.now.clients c.args.client).call; reply = c.args.reply } ∷ []
  history = c.enter.ensures.history

  seats : c.wake_by.new.clients ≡ map (woken_seat (wakes_seat c.args.self.now.engine.tables.iface.facts (object_of c.args.self.now.engine.tables.iface.facts c.args.self.now.history.items).rows (seat_in c.args.self.now.clients c.args.client).call c.args.reply))
      (slice_set c.args.self.now.clients (c.args.client - 1) (record (seat_in c.args.self.now.clients c.args.client) { phase = Receipted; seq = (seat_in c.args.self.now.clients c.args.client).call.seq; reply = c.args.reply }))
  seats =
      let x = c.args.self.now in
      let z = setting_of g.S.Service.ask g.S.Service.sound g.S.Service.parts x.engine.tables in
      let s = c.requires.served in
      let w = view_with s.before x in
      let later : Points = record { asked = g.T.Stops.asked x.stops; struck = g.T.Stops.struck x.stops } in
      let seat = seat_in x.clients c.args.client in
      let old = (object_of z.iface.facts x.history.items).rows in
      let same : x.engine.tracked.rows ≡ old = ap (λ t. t.rows) s.tracked_same ∙ s.world.tracked.rows in
      subst (λ i. c.commit.new.self.tracked.rows ≡ track i.iface.facts old seat.call c.args.reply → WaitOnLive i.iface.facts old seat.call c.enter.new.clients
      → c.wake_by.new.clients ≡ map (woken_seat (wakes_seat i.iface.facts old seat.call c.args.reply)) c.enter.new.clients) c.commit.ensures.tables
      (c.wake_by.ensures old seat.call c.args.reply (ap (λ q. q.fun) (sym called)) (ap (λ q. q.desc) (sym called)) (told_refused g c))
      (rows ∙ ap (λ l. track z.iface.facts l seat.call c.args.reply) same)
      (subst (WaitOnLive z.iface.facts old seat.call) (sym c.enter.ensures.seats)
      (waits_live z s.before w (rooms_in x) s.world refl refl s.walks c.args.client c.requires.client.0 c.requires.client.1 s.let_in s.held s.up s.whole s.is_engine.given
      s.points later c.args.reply c.args.patch x.engine s.tells))
      ∙ ap (map (woken_seat (wakes_seat z.iface.facts old seat.call c.args.reply))) c.enter.ensures.seats

pub returns-clause-up : goal.returns-clause-up
returns-clause-up g c =
    let x = c.args.self.now in
    let z = setting_of g.S.Service.ask g.S.Service.sound g.S.Service.parts x.engine.tables in
    let s = c.requires.served in
    let later : Points = record { asked = g.T.Stops.asked x.stops; struck = g.T.Stops.struck x.stops } in
    subst (λ y. IsSome y.running) (sym c.commit.ensures.cell)
    (subst (λ r. IsSome r) (sym (replied_up z s.before (view_with s.before x) (rooms_in x) s.world refl refl s.walks c.args.client c.requires.client.0 c.requires.client.1 s.let_in s.held s.up s.whole s.is_engine.given
    s.points later c.args.reply c.args.patch x.engine s.tells)) refl)

pub returns-clause-order : goal.returns-clause-order
returns-clause-order g c =
    let x = c.args.self.now in
    let z = setting_of g.S.Service.ask g.S.Service.sound g.S.Service.parts x.engine.tables in
    let s = c.requires.served in
    let w = view_with s.before x in
    let later : Points = record { asked = g.T.Stops.asked x.stops; struck = g.T.Stops.struck x.stops } in
    let room : Rooms = record { entries = c.enter.new.history.room; withdrawals = x.withdrawn.room; marks = c.add.new.self.room } in
    let counts = replied_counted z s.before w (rooms_in x) s.world refl refl s.walks c.args.client c.requires.client.0 c.requires.client.1 s.let_in s.held s.up s.whole s.is_engine.given
    s.points later c.args.reply c.args.patch x.engine s.tells s.counts.struck_so in
    record {
      world = subst (λ t. IsWorld (setting_of g.S.Service.ask g.S.Service.sound g.S.Service.parts t) c.commit.new.self (view_of c.commit.new.self c.enter.new.history.items c.wake_by.new.clients x.withdrawn.items c.add.new.self.items x.events x.refused) room) (sym c.commit.ensures.tables)
          (committed_on z s.before w (rooms_in x) s.world refl refl s.walks c.args.client c.requires.client.0 c.requires.client.1 s.let_in s.held s.up s.whole s.is_engine.given
          s.points later c.args.reply c.args.patch x.engine s.tells (fits g c) s.tracked_same s.stored_same s.present_same c.commit.new.self c.commit.ensures.cell (rows g c) (given g c)
          c.commit.ensures.names c.commit.ensures.present c.commit.ensures.files room c.enter.ensures.room (omega arith) c.add.ensures.room c.enter.new.history.items (history g c)
          c.add.new.self.items c.add.ensures.items c.wake_by.new.clients (seats g c));
      points = record {
        asked_so = ap (λ y. y.run.points) c.commit.ensures.cell ∙ counts.0;
        struck_so = ap (λ y. struck_in y.run) c.commit.ensures.cell ∙ counts.1;
        tested = s.tested;
      };
      clients = subst (λ n. length c.wake_by.new.clients ≤ n) (sym (c.commit.ensures.clients ∙ ap (λ t. t.clients) s.stored_same))
          (let seat : Seat = seat_in x.clients c.args.client in
          let new : Seat = record seat { phase = Receipted; seq = seat.call.seq; reply = c.args.reply } in
          let same = ap length (seats g c) ∙ length-map (slice_set x.clients (c.args.client - 1) new) (woken_seat (wakes_seat z.iface.facts (object_of z.iface.facts x.history.items).rows seat.call c.args.reply))
          ∙ length_set x.clients (c.args.client - 1) new in
          let was = s.places in
          omega (arith, same, was));
      service = ap (λ t. t.iface.facts) c.commit.ensures.tables ∙ c.requires.service;
    }

pub returns-clause-commits : goal.returns-clause-commits
returns-clause-commits g c = λ s asked was.
    let x = c.args.self.now in
    let z = setting_of g.S.Service.ask g.S.Service.sound g.S.Service.parts x.engine.tables in
    let w = view_with s.before x in
    let later : Points = record { asked = g.T.Stops.asked x.stops; struck = g.T.Stops.struck x.stops } in
    let room : Rooms = record { entries = c.enter.new.history.room; withdrawals = x.withdrawn.room; marks = c.add.new.self.room } in
    committed_line z s.before w (rooms_in x) s.world refl refl s.walks c.args.client c.requires.client.0 c.requires.client.1 s.let_in s.held s.up s.whole s.is_engine.given
    s.points later c.args.reply c.args.patch x.engine s.tells (fits g c) s.tracked_same s.stored_same s.present_same c.commit.new.self c.commit.ensures.cell (rows g c) (given g c)
    c.commit.ensures.names c.commit.ensures.present c.commit.ensures.files room c.enter.ensures.room (omega arith) c.add.ensures.room c.enter.new.history.items (history g c)
    c.add.new.self.items c.add.ensures.items c.wake_by.new.clients (seats g c) asked (sym s.counts.asked_so ∙ was) c.requires.visible
