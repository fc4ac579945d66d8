-- The service replied to a client's call: what its world keeps where the call is committed, and where its reply is held.
use Rattle.std.proofs.Common.{Bool, List, None, Option, Some, [], ap, arith, false, if◌then◌else◌, length, map, refl, slice_get, slice_set, subst, sym, true, unwrap_or, ℕ, ◌++◌, ◌+◌, ◌-◌, ◌<◌, ◌^◌, ◌∙◌, ◌∷◌, ◌≡◌, ◌≤◌, ◌||◌}
use Rattle.std.specs.Prelude.{IfSome}
use Rattle.sg_world_laws.proofs.Advancing.Noted.{length_noted}
use Rattle.sg_facts.specs.sg_base.Stops.{asked_after}
use Rattle.sg_facts.specs.sg_base.declared.call.Call.{Call}
use Rattle.sg_facts.specs.sg_base.declared.reply.Reply.{Reply}
use Rattle.sg_facts.specs.sg_base.declared.reply.Reply.TheVariants.{Ok, Refused}
use Rattle.sg_replay.specs.sg_boot.Invoking.{item_of_call, with_item}
use Rattle.sg_world_laws.proofs.Committing.Later.{patch_it}
use Rattle.sg_world_laws.proofs.Committing.Committed.{committed_keeps, committed_next}
use Rattle.sg_world_laws.proofs.Committing.Holding.{held_keeps, held_next}
use Rattle.sg_world_laws.proofs.Committing.Storing.{makes_next, may_track_it, writes_needed}
use Rattle.sg_world_laws.proofs.Committing.Turning.{given_back, holds_back}
use Rattle.sg_world_laws.specs.Committing.Serving.{IsCommittedIn, IsHeldBy, IsServedCall}
use Rattle.sg_world_laws.specs.Committing.Telling.{TellsAfter}
use Rattle.sg_world.proofs.Engines.Looking.{serve_tells_same, tells_after}
use Rattle.sg_world.proofs.Engines.Serving.{served}
use Rattle.sg_world.specs.Engines.Engines.{as_shown}
use Rattle.sg_world.specs.Engines.Stubs.{stub_of, told_of}
use Rattle.sg_facts.specs.declared.entry.Entry.{Entry}
use Rattle.sg_facts.specs.declared.outcome.Outcome.TheVariants.{Replied}
use Rattle.sg_facts.specs.declared.outcome.Patch.{Patch}
use Rattle.sg_facts.specs.declared.trace.Item.{Item}
use Rattle.sg_facts.specs.declared.trace.Tag.TheVariants.{Client}
use Rattle.sg_facts.specs.Alike.{SameFile, Serves, named}
use Rattle.sg_facts.specs.Facts.{fun_at, is_visible}
use Rattle.sg_facts.specs.Invoke.{FitsRoom, Points, parts_of}
use Rattle.sg_facts.specs.Legal.{answer}
use Rattle.sg_facts.specs.Inside.Rows.{refused_or, given_after, track}
use Rattle.sg_facts.specs.Object.{Object, file_at, object_of, patch_of}
use Rattle.sg_facts.specs.Trace.{Boot, Run}
use Rattle.sg_replay.specs.sg_hist.Reading.{last_items}
use Rattle.sg_replay.specs.sg_hist.Inside.Reads.{after_item}
use Rattle.sg_replay.specs.sg_hist.Recovered.{IsPointOfCall, struck_in}
use Rattle.sg_replay.specs.sg_hist.Inside.Parts.{answer_to}
use Rattle.sg_replay.specs.sg_name.Names.{named_at}
use Rattle.sg_replay.specs.sg_name.declared.named.Named.TheVariants.{Live}
use Rattle.sg_world_laws.proofs.sg_recovery_laws.Objects.Waiting.{hidden_is}
use Rattle.sg_replay.specs.sg_hist.Growing.{IsNextItem, noted, place_after}
use Rattle.sg_world_laws.specs.sg_recovery_laws.Midway.Progress.{IsNone}
use Rattle.sg_replay.proofs.Fitting.{fits_stored}
use Rattle.sg_replay.specs.Committing.{MayCommitAt, MayStore, is_written, name_left}
use Rattle.sg_replay.specs.Engined.{AreGiven, Engined, IsEngine}
use Rattle.sg_replay.specs.Missing.{missing}
use Rattle.sg_replay.specs.Present.{HasMark, is_present}
use Rattle.sg_replay.specs.Serving.{TellsReply, is_named_by, pairs_of, real_call, real_in}
use Rattle.sg_clients.specs.WorldView.{Seat, WorldView, held_in, is_blocked_phase, is_held_phase, is_offered, no_seat, seat_in, seat_of, unanswered, wakes_seat, with_points, woken_seat}
use Rattle.sg_clients.specs.declared.mark.Mark.{Mark}
use Rattle.sg_clients.specs.declared.mark.MarkKind.TheVariants.{Entry as IsEntered}
use Rattle.sg_clients.specs.declared.phase.Phase.TheVariants.{Held, Receipted}
use Rattle.sg_replay.specs.sg_store.Spans.{patched_at}
use Rattle.sg_replay.specs.sg_store.Committing.{NamesNext}
use Rattle.sg_replay.specs.sg_store.Stored.{HasRoom, bytes_of, tracked_in}
use Rattle.sg_replay.specs.sg_track.Tracked.{MayTrack}
use Rattle.sg_world.proofs.Entering.{entered_rooms, entered_told}
use Rattle.sg_world.proofs.Moving.{answered_seats, rooms_moved, told_moved}
use Rattle.sg_world.proofs.Points.{stops_noted, stores_same}
use Rattle.sg_world.proofs.Reaching.{all_there, k, reaches_now, sp}
use Rattle.sg_world.proofs.Rebuilding.{let_in_now, own, reply_next}
use Rattle.sg_world.proofs.Storing.{stored_on}
use Rattle.sg_world.proofs.Waiting.{each_set, wait_on_live}
use Rattle.sg_world.specs.Due.{needs_in}
use Rattle.sg_world.specs.Inside.Served.{HasRooms}
use Rattle.sg_world.specs.Inside.Waiting.{WaitOnLive}
use Rattle.sg_world.specs.Marked.{AreTold, TellsAll}
use Rattle.sg_world.specs.Steps.{AsksService, Commits, Holds, PassesGuard}
use Rattle.sg_world.specs.Worlded.{HaveRooms, IsWorld, Rooms, StoresObject}
use Rattle.sg_world_laws.proofs.Alike.{keeps_alike}
use Rattle.sg_world_laws.proofs.Asked.{serves_call}
use Rattle.sg_world_laws.proofs.Seating.{HasSeat, has_seat, woken_at}
use Rattle.sg_world_laws.proofs.Turns.{seat_there}
use Rattle.sg_world_laws.specs.Keeping.{KeepsPromise, TellSame, standing}
use Rattle.sg_world_laws.specs.Setting.{Setting, stubs_of}

-- the number of the last point of a call that was replied to
points_at : (parts : ℕ → ℕ) (asked n later : ℕ) (call asks : Call) (reply : Reply) (patch : Option Patch) (there : Option Reply) → asks.fun ≡ call.fun → n ≡ asked_after asked 1
    → later ≡ asked_after (asked_after n (parts_of parts asks reply)) 1 → IsPointOfCall true parts asked there call.fun (Replied reply patch) later
points_at parts asked n later call asks (Ok good) patch there same start is = reply_next asked n (parts asks.fun) later start is ∙ ap (λ fun. asked_after asked (2 + parts fun)) same
points_at parts asked n later call asks (Refused code) patch there same start is = reply_next asked n 0 later start is

module _ (z : Setting) (e : Engined) (w : WorldView) (rooms : Rooms) (is : IsWorld z e w rooms) (run : e.cell.run ≡ w.run) (running : e.cell.running ≡ w.running) (walks : e.tables.walks ≡ z.walks)
    (client : ℕ) (first : 1 ≤ client) (last : client ≤ length w.seats) (let_in : PassesGuard z w client) (v : Object) (up : w.running ≡ Some v)
    (whole : missing e (needs_in z w (seat_of w client).call) ≡ None) (ids : AreGiven e.cell.running e.names.known)
    (start later : Points) (reply : Reply) (patch : Option Patch) (new : Engined) (t : TellsReply z.iface.facts z.ask z.parts v e (seat_of w client).call start reply patch new later) where
  abbrev st : Seat
  st = seat_of w client

  abbrev call : Call
  call = (seat_of w client).call

  abbrev b : Boot
  b = (sp z e w rooms is run running walks client first last let_in v up whole).first

  abbrev boots : List Boot
  boots = (sp z e w rooms is run running walks client first last let_in v up whole).others

  abbrev kept : KeepsPromise z (standing w b boots (Some v)) (stub_of e)
  kept = k z e w rooms is run running walks client first last let_in v up whole

  abbrev item : Item
  item = item_of_call (Client (seat_of w client).call.client (seat_of w client).call.seq) (seat_of w client).call (real_call e (seat_of w client).call).desc later.asked (Replied t.reply patch)

  abbrev entry : Entry
  entry = record { call = (seat_of w client).call; reply = reply }

  has : HasSeat w.seats (client - 1) (seat_of w client)
  has = has_seat w.seats (client - 1) (seat_of w client) (seat_there w client first last)

  offers : is_offered (seat_of w client).phase ≡ true
  offers = ap is_offered let_in.phase

  not_held : is_held_phase (seat_of w client).phase ≡ false
  not_held = ap is_held_phase let_in.phase

  stays : is_blocked_phase (seat_of w client).phase ≡ false
  stays = ap is_blocked_phase let_in.phase

  own_client : (seat_of w client).call.client ≡ client
  own_client = own z e w rooms is run running walks client first last let_in v up

  pub served_now : IsServedCall z (standing w b boots (Some v)) (stub_of e) v (seat_of w client).call item reply t.reply patch
  served_now = served z is.set w b boots v e (λ id. told_of (named_at e.names.known id)) (λ path. is_present e.present path) kept call
      (let_in_now z e w rooms is run running walks client first last let_in v up) (all_there z e w rooms is run running walks client first last let_in v up whole) is.tracked.given
      (subst (λ r. AreGiven r e.names.known) (running ∙ up) ids) start later reply patch new t

  answers_now : answer z.iface z.ask (object_of z.iface.facts w.history) (seat_of w client).call ≡ Some reply
  answers_now = ap (λ g. refused_or g (z.ask (object_of z.iface.facts w.history) call)) let_in.passes ∙ served_now.replied.answered

  grown : new.cell.run ≡ with_item w.run item later.asked
  grown = t.notes.run ∙ ap (λ (r : Run). with_item r item later.asked) run

  grown_boots : new.cell.run.boots ≡ noted (b ∷ boots) item
  grown_boots = ap (λ r. r.boots) grown ∙ ap (λ l. noted l item) (sp z e w rooms is run running walks client first last let_in v up whole).boots

  pub replied_counted : struck_in w.run ≡ start.struck → (new.cell.run.points ≡ later.asked) × (struck_in new.cell.run ≡ later.struck)
  replied_counted struck = (ap (λ r. r.points) grown, ap struck_in grown ∙ stops_noted w.run.boots item ∙ struck ∙ sym t.notes.answers.struck)

  pub replied_up : new.cell.running ≡ Some (after_item z.iface.facts v item)
  replied_up = t.notes.running

  at_place : (l : List Entry) (u : List Call) → IsNextItem (stubs_of z) l u (place_after [] (b ∷ boots) item) → IsNextItem (stubs_of z) l u (place_after [] w.run.boots item)
  at_place l u next = subst (λ x. IsNextItem (stubs_of z) l u (place_after [] x item)) (sym (sp z e w rooms is run running walks client first last let_in v up whole).boots) next

  abbrev asks_now : (asked : ℕ) → AsksService z (with_points w asked) client
  asks_now asked = record { service = v; reaches = reaches_now z e w rooms is run running walks client first last let_in v up whole asked; item = item; tag = ap (λ c. Client c call.seq) own_client; shown = refl }

  -- ---- the reply is held

  module _ (hidden : is_visible z.iface.facts (seat_of w client).call.fun ≡ false) (tracked_same : new.tracked ≡ e.tracked) (stored_same : new.stored ≡ e.stored) (present_same : new.present ≡ e.present)
      (boot : ℕ) (boot_is : boot ≡ length new.cell.run.boots) (seats : List Seat) (set : seats ≡ slice_set w.seats (client - 1) (record (seat_of w client) { phase = Held; boot = boot; reply = reply })) where
    abbrev holding : WorldView
    holding = record (as_shown w new) { seats = seats }

    long : boot ≡ length (b ∷ boots)
    long = boot_is ∙ ap length grown_boots ∙ length_noted (b ∷ boots) item

    split : seats ≡ has.front ++ record (seat_of w client) { phase = Held; boot = length (b ∷ boots); reply = reply } ∷ has.back
    split = set ∙ ap (λ n. slice_set w.seats (client - 1) (record (seat_of w client) { phase = Held; boot = n; reply = reply })) long ∙ has.set (record (seat_of w client) { phase = Held; boot = length (b ∷ boots); reply = reply })

    by_it : IsHeldBy z (standing w b boots (Some v)) (stub_of e) v (seat_of w client).call item reply t.reply (held_in (length (b ∷ boots)) has.front) (held_in (length (b ∷ boots)) has.back) holding
    by_it = holds_back z is.set w b boots v (stub_of e) kept has.front has.back st has.is offers not_held item reply t.reply patch served_now holding refl grown_boots t.notes.running refl split

    tells : TellSame (stub_of e) (stub_of new)
    tells =
        let none : (fun_at z.iface.facts.funs call.fun).creation ≡ false = (hidden_is z.iface.facts call.fun hidden).makes in
        subst (λ p. TellSame (stub_of e) (record { names = pairs_of new.names.known; told = λ id. told_of (named_at new.names.known id); present = λ path. is_present p path })) (sym present_same)
        (serve_tells_same told_of refl (λ real. refl) e.names.known new.names.known (λ path. is_present e.present path) (e.tracked.given + 1) t.reply
        (λ id. t.names id ∙ ap (λ c. if is_named_by c (e.tracked.given + 1) t.reply id then Live (real_in t.reply) else named_at e.names.known id) none))

    pub held_on : IsWorld z new (record (as_shown w new) { seats = seats }) rooms
    held_on = record {
      set = is.set;
      keeps = keeps_alike z holding (stub_of e) (stub_of new) tells
          (held_keeps z is.set w b boots v (stub_of e) kept call item reply t.reply patch served_now hidden (held_in (length (b ∷ boots)) has.front) (held_in (length (b ∷ boots)) has.back) holding by_it);
      tracked = stores_same z.iface.facts e new w.history tracked_same stored_same is.tracked;
      rooms_are = subst (λ s. HaveRooms s rooms) (sym set) (rooms_moved w.seats (client - 1) st (record st { phase = Held; boot = boot; reply = reply }) rooms (seat_there w client first last) offers refl is.rooms_are);
      marked = record {
        entries = is.marked.entries;
        withdrawals = is.marked.withdrawals;
        phases = subst (AreTold w.marks 1) (sym set) (told_moved w.marks w.seats (client - 1) st (record st { phase = Held; boot = boot; reply = reply }) (seat_there w client first last) offers refl is.marked.phases);
      };
    }

    pub held_line : (asked : ℕ) → start.asked ≡ asked_after asked 1 → Holds z (with_points w asked) client (record (as_shown w new) { seats = seats })
    held_line asked start_is = record {
      asks = asks_now asked;
      hidden = hidden;
      reply = reply;
      answers = answers_now;
      outcome = refl;
      noted = record {
        next = at_place w.history (unanswered holding)
            (held_next z is.set w b boots v (stub_of e) kept call item reply t.reply patch served_now hidden (held_in (length (b ∷ boots)) has.front) (held_in (length (b ∷ boots)) has.back) holding by_it);
        points = points_at z.parts asked start.asked later.asked call (real_call e call) t.reply patch (answer_to z.iface.facts z.ask (last_items w.run.boots) item) refl start_is t.notes.answers.asked;
      };
      now = ap (λ (r : Run). record w { run = r; running = new.cell.running; seats = seats }) grown
          ∙ ap (λ r. record w { run = with_item w.run item later.asked; running = r; seats = seats }) replied_up
          ∙ ap (λ s. record w { run = with_item w.run item later.asked; running = Some (after_item z.iface.facts v item); seats = s })
          (set ∙ ap (λ n. slice_set w.seats (client - 1) (record (seat_of w client) { phase = Held; boot = n; reply = reply })) (long ∙ sym (ap length (sp z e w rooms is run running walks client first last let_in v up whole).boots)));
    }

  -- ---- the call is committed

  abbrev test : Call → Bool
  test = wakes_seat z.iface.facts (object_of z.iface.facts w.history).rows (seat_of w client).call reply

  abbrev answered : Seat
  answered = record (seat_of w client) { phase = Receipted; seq = (seat_of w client).call.seq; reply = reply }

  module _ (fits : (seat_of w client).call.seq < 2 ^ 32) (tracked_same : new.tracked ≡ e.tracked) (stored_same : new.stored ≡ e.stored) (present_same : new.present ≡ e.present)
      (done : Engined) (cell_same : done.cell ≡ new.cell) (rows : done.tracked.rows ≡ track z.iface.facts new.tracked.rows (seat_of w client).call reply)
      (given : done.tracked.given ≡ given_after z.iface.facts new.tracked.given (seat_of w client).call reply)
      (names : (id : ℕ) → named_at done.names.known id ≡ name_left new.tracked.rows done.tracked.rows id (named_at new.names.known id))
      (present : (key : List ℕ) → is_present done.present key ≡ (is_present new.present key || is_written patch key))
      (files : (key : List ℕ) → bytes_of done.stored key ≡ patched_at patch key (bytes_of new.stored key))
      (room : Rooms) (entries : rooms.entries ≤ room.entries + 1) (withdrawals : rooms.withdrawals ≤ room.withdrawals) (marks_room : rooms.marks ≤ room.marks + 1)
      (history : List Entry) (history_is : history ≡ w.history ++ record { call = (seat_of w client).call; reply = reply } ∷ []) (marks : List Mark) (marks_are : marks ≡ w.marks ++ record { client = client; kind = IsEntered } ∷ [])
      (seats : List Seat) (woken : seats ≡ map (woken_seat (wakes_seat z.iface.facts (object_of z.iface.facts w.history).rows (seat_of w client).call reply))
      (slice_set w.seats (client - 1) (record (seat_of w client) { phase = Receipted; seq = (seat_of w client).call.seq; reply = reply }))) where
    abbrev committing : WorldView
    committing = record (as_shown w done) { history = history; seats = seats; marks = marks }

    done_boots : done.cell.run.boots ≡ noted (b ∷ boots) item
    done_boots = ap (λ c. c.run.boots) cell_same ∙ grown_boots

    done_up : done.cell.running ≡ Some (after_item z.iface.facts v item)
    done_up = ap (λ c. c.running) cell_same ∙ replied_up

    done_split : seats ≡ map (woken_seat test) has.front ++ answered ∷ map (woken_seat test) has.back
    done_split = woken ∙ ap (map (woken_seat test)) (has.set answered) ∙ woken_at test has.front has.back answered

    in_place : seats ≡ slice_set (map (woken_seat test) w.seats) (client - 1) answered
    in_place = woken ∙ (answered_seats test w.seats (client - 1) st (seat_there w client first last) stays answered refl).0

    by_done : IsCommittedIn z (standing w b boots (Some v)) (stub_of e) v (seat_of w client).call item reply t.reply committing
    by_done = given_back z is.set w b boots v (stub_of e) kept has.front has.back st has.is offers not_held item reply t.reply patch served_now fits Receipted reply refl committing history_is done_boots done_up refl done_split

    same_rows : new.tracked.rows ≡ (object_of z.iface.facts w.history).rows
    same_rows = ap (λ x. x.rows) tracked_same ∙ is.tracked.rows

    patch_is : patch ≡ patch_of z.iface.facts (object_of z.iface.facts w.history) (seat_of w client).call reply
    patch_is = patch_it z is.set w b boots v (stub_of e) kept call item reply t.reply patch served_now

    done_tells : TellsAfter z.iface.facts (object_of z.iface.facts w.history) (seat_of w client).call reply t.reply (stub_of e) (stub_of done)
    done_tells = tells_after told_of refl (λ real. refl) z.iface.facts (object_of z.iface.facts w.history) call reply t.reply patch (e.tracked.given + 1) e.names.known new.names.known done.names.known
        (λ path. is_present e.present path) (λ path. is_present done.present path) served_now.replied.same
        (λ good its makes. makes_next z is.set w b boots v (stub_of e) kept call item reply t.reply patch served_now good its makes ∙ ap (λ n. n + 1) (sym is.tracked.given)) t.names
        (λ id. names id ∙ ap (λ a. name_left a done.tracked.rows id (named_at new.names.known id)) same_rows
        ∙ ap (λ a. name_left (object_of z.iface.facts w.history).rows a id (named_at new.names.known id)) (rows ∙ ap (λ l. track z.iface.facts l call reply) same_rows))
        (λ path. present path ∙ ap (λ p. is_present p path || is_written patch path) present_same) patch_is

    told_all : TellsAll (record w { history = w.history ++ entry ∷ []; seats = slice_set (map (woken_seat test) w.seats) (client - 1) answered; marks = w.marks ++ record { client = client; kind = IsEntered } ∷ [] })
    told_all = entered_told w is.marked client st (seat_there w client first last) first stays test entry own_client answered refl w.events w.refused

    pub committed_on : IsWorld z done (record (as_shown w done) { history = history; seats = seats; marks = marks }) room
    committed_on = record {
      set = is.set;
      keeps = committed_keeps z is.set w b boots v (stub_of e) kept call item reply t.reply patch served_now committing by_done (stub_of done) done_tells;
      tracked = subst (StoresObject z.iface.facts done) (sym history_is)
          (stored_on z.iface.facts new done w.history call reply patch (stores_same z.iface.facts e new w.history tracked_same stored_same is.tracked) rows given files patch_is);
      rooms_are = subst (λ s. HaveRooms s room) (sym in_place)
          (entered_rooms w.seats rooms room is.rooms_are (client - 1) st (seat_there w client first last) offers stays test answered refl entries withdrawals (omega (arith, marks_room)));
      marked = subst (λ h. TellsAll (record (as_shown w done) { history = h; seats = seats; marks = marks })) (sym history_is)
          (subst (λ s. TellsAll (record (as_shown w done) { history = w.history ++ entry ∷ []; seats = s; marks = marks })) (sym in_place)
          (subst (λ m. TellsAll (record (as_shown w done) { history = w.history ++ entry ∷ []; seats = slice_set (map (woken_seat test) w.seats) (client - 1) answered; marks = m })) (sym marks_are)
          (record { entries = told_all.entries; withdrawals = told_all.withdrawals; phases = told_all.phases })));
    }

    -- the seat that is given the reply, in the terms of a world
    given_seat : (c : ℕ) → c ≡ client → slice_set (map (woken_seat test) w.seats) (client - 1) answered
        ≡ slice_set (map (woken_seat test) w.seats) (c - 1) (record (seat_in (map (woken_seat test) w.seats) c) { phase = Receipted; seq = (seat_of w client).call.seq; reply = reply })
    given_seat c same =
        let there : slice_get (map (woken_seat test) w.seats) (client - 1) ≡ Some st = (answered_seats test w.seats (client - 1) st (seat_there w client first last) stays answered refl).1 in
        ap (λ s. slice_set (map (woken_seat test) w.seats) (client - 1) (record s { phase = Receipted; seq = (seat_of w client).call.seq; reply = reply })) (sym (ap (λ x. unwrap_or x no_seat) there))
        ∙ ap (λ n. slice_set (map (woken_seat test) w.seats) (n - 1) (record (seat_in (map (woken_seat test) w.seats) n) { phase = Receipted; seq = (seat_of w client).call.seq; reply = reply })) (sym same)

    pub committed_line : (asked : ℕ) → start.asked ≡ asked_after asked 1 → is_visible z.iface.facts (seat_of w client).call.fun ≡ true → Commits z (with_points w asked) client (record (as_shown w done) { history = history; seats = seats; marks = marks })
    committed_line asked start_is visible = record {
      asks = asks_now asked;
      visible = visible;
      reply = reply;
      answers = answers_now;
      outcome = refl;
      noted = record {
        next = at_place (w.history ++ entry ∷ []) (unanswered committing) (committed_next z is.set w b boots v (stub_of e) kept call item reply t.reply patch served_now committing by_done);
        points = points_at z.parts asked start.asked later.asked call (real_call e call) t.reply patch (answer_to z.iface.facts z.ask (last_items w.run.boots) item) refl start_is t.notes.answers.asked;
      };
      now = ap (λ (r : Run). record w { history = history; run = r; running = done.cell.running; seats = seats; marks = marks }) (ap (λ c. c.run) cell_same ∙ grown)
          ∙ ap (λ r. record w { history = history; run = with_item w.run item later.asked; running = r; seats = seats; marks = marks }) done_up
          ∙ ap (λ h. record w { history = h; run = with_item w.run item later.asked; running = Some (after_item z.iface.facts v item); seats = seats; marks = marks }) history_is
          ∙ ap (λ m. record w { history = w.history ++ entry ∷ []; run = with_item w.run item later.asked; running = Some (after_item z.iface.facts v item); seats = seats; marks = m })
          (marks_are ∙ ap (λ c. w.marks ++ record { client = c; kind = IsEntered } ∷ []) (sym own_client))
          ∙ ap (λ s. record w {
            history = w.history ++ entry ∷ [];
            run = with_item w.run item later.asked;
            running = Some (after_item z.iface.facts v item);
            seats = s;
            marks = w.marks ++ record { client = call.client; kind = IsEntered } ∷ [];
          }) (in_place ∙ given_seat call.client own_client);
    }

  -- ---- it may be committed

  -- whoever waits, waits in a call on no descriptor or on a live one, once the client has its reply
  pub waits_live : WaitOnLive z.iface.facts (object_of z.iface.facts w.history).rows (seat_of w client).call
      (slice_set w.seats (client - 1) (record (seat_of w client) { phase = Receipted; seq = (seat_of w client).call.seq; reply = reply }))
  waits_live = record {
    allowed = is.set.law.shape.shape;
    is_call = served_now.let_in.passes.is_call;
    each = each_set (λ s. is_blocked_phase s.phase ≡ true → IsNone (object_of z.iface.facts w.history).rows s.call.desc) w.seats (client - 1) answered (λ waits. absurd (cc waits))
        (wait_on_live z is.set w.history w.withdrawn 1 w.seats is.keeps.seats.each);
  }

  pub may_commit : is_visible z.iface.facts (seat_of w client).call.fun ≡ true → new.tracked ≡ e.tracked → new.stored ≡ e.stored → new.present ≡ e.present → IsEngine z.iface.facts e → length w.seats ≤ e.stored.clients
      → HasRooms e (needs_in z w (seat_of w client).call).file → FitsRoom v (Replied reply patch) → MayCommitAt z.iface.facts new (seat_of w client).call reply patch
  may_commit visible tracked_same stored_same present_same engine places have fits = record {
    tracks = subst (λ x. MayTrack z.iface.facts x call reply) (sym tracked_same) tracks_now;
    stores = subst (λ x. MayStore z.iface.facts x call reply patch) (sym stored_same) (record {
      visible = λ shows. record {
        first = subst (λ n. 1 ≤ n) (sym own_client) first;
        last = subst (λ n. n ≤ e.stored.clients) (sym own_client) (omega (arith, last, places));
        follows = record {
          tracks = λ all. may_track_it z is.set w b boots v (stub_of e) kept call item reply t.reply patch served_now (tracked_in e.stored) (engine.rows all ∙ is.tracked.rows) (engine.ids ∙ is.tracked.given) have.stored;
          names = λ private. names_next reply refl;
        };
        fits = fits_stored v e.stored patch fits.1 (same_file patch refl) (room_for patch refl have.room);
      };
      hidden = λ hides. absurd (cc (visible, hides));
    });
    marked = subst (λ x. IfSome patch (λ p. HasMark x p.key)) (sym present_same) (mark_for patch refl have.mark);
  }
    where
      serves : Serves z.iface.facts (pairs_of e.names.known) (object_of z.iface.facts w.history) v (seat_of w client).call
      serves = serves_call z is.set w b boots v (stub_of e) kept call served_now.let_in served_now.all

      tracks_now : MayTrack z.iface.facts e.tracked (seat_of w client).call reply
      tracks_now = may_track_it z is.set w b boots v (stub_of e) kept call item reply t.reply patch served_now e.tracked is.tracked.rows is.tracked.given have.row

      names_next : (r : Reply) → reply ≡ r → NamesNext z.iface.facts e.stored.given (seat_of w client).call r
      names_next (Ok good) its = λ makes. makes_next z is.set w b boots v (stub_of e) kept call item reply t.reply patch served_now good its makes ∙ ap (λ n. n + 1) (sym (engine.ids ∙ is.tracked.given))
      names_next (Refused code) its = tt

      room_for : (q : Option Patch) → patch ≡ q → IfSome (needs_in z w (seat_of w client).call).file (HasRoom e.stored) → IfSome q (λ p. HasRoom e.stored p.key)
      room_for None its some = tt
      room_for (Some p) its some = subst (λ f. IfSome f (HasRoom e.stored)) (writes_needed z is.set w b boots v (stub_of e) kept call item reply t.reply patch served_now p its) some

      mark_for : (q : Option Patch) → patch ≡ q → IfSome (needs_in z w (seat_of w client).call).file (HasMark e.present) → IfSome q (λ p. HasMark e.present p.key)
      mark_for None its some = tt
      mark_for (Some p) its some = subst (λ f. IfSome f (HasMark e.present)) (writes_needed z is.set w b boots v (stub_of e) kept call item reply t.reply patch served_now p its) some

      same_file : (q : Option Patch) → patch ≡ q → IfSome q (λ p. file_at v.files p.key ≡ bytes_of e.stored p.key)
      same_file None its = tt
      same_file (Some p) its =
          let both : SameFile (object_of z.iface.facts w.history) v call.desc (named (pairs_of e.names.known) call.desc) (Some p.key)
          = subst (SameFile (object_of z.iface.facts w.history) v call.desc (named (pairs_of e.names.known) call.desc)) (writes_needed z is.set w b boots v (stub_of e) kept call item reply t.reply patch served_now p its) serves.file in
          both.1 ∙ sym (is.tracked.files p.key)
