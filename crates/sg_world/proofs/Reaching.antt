-- A client's call that has all that it needs reaches the service: what its world keeps where it waits, where the service stops, and where
-- the service replies.
use Rattle.std.proofs.Common.{IsSome, List, None, Some, [], ap, if◌then◌else◌, inl, length, refl, slice_set, subst, sym, true, ℕ, ◌++◌, ◌-◌, ◌∙◌, ◌∷◌, ◌≡◌, ◌≤◌}
use Rattle.sg_world_laws.proofs.Advancing.Advances.{call_stopped, stopped_next, waited, waiting_next, would_wait}
use Rattle.sg_world_laws.proofs.Advancing.Noted.{length_noted}
use Rattle.sg_facts.specs.sg_base.Stops.{asked_after}
use Rattle.sg_facts.specs.sg_base.declared.call.Call.{Call}
use Rattle.sg_replay.proofs.sg_boot.LastBoot.{begun_noted, stop_noted}
use Rattle.sg_replay.specs.sg_boot.Cells.{IsRunning, IsUp}
use Rattle.sg_replay.specs.sg_boot.Invoking.{NotesStop, item_of_call, with_item, with_stop}
use Rattle.sg_world.proofs.Engines.Left.{has_all}
use Rattle.sg_world.specs.Engines.Engines.{as_shown}
use Rattle.sg_world.specs.Engines.Stubs.{stub_of}
use Rattle.sg_facts.specs.declared.outcome.Outcome.TheVariants.{Blocks, Stopped}
use Rattle.sg_facts.specs.declared.trace.Item.{Item}
use Rattle.sg_facts.specs.declared.trace.Tag.TheVariants.{Client}
use Rattle.sg_facts.specs.Invoke.{Points}
use Rattle.sg_facts.specs.Legal.{answer}
use Rattle.sg_facts.specs.Inside.Rows.{refused_or}
use Rattle.sg_facts.specs.Object.{Object, object_of}
use Rattle.sg_facts.specs.Trace.{Run}
use Rattle.sg_replay.specs.sg_hist.Recovered.{IsPointOfCall, struck_in}
use Rattle.sg_replay.specs.sg_hist.Inside.Parts.{answer_to}
use Rattle.sg_replay.specs.sg_hist.Growing.{IsNextItem, noted, place_after}
use Rattle.sg_replay.specs.sg_hist.Reading.{last_items}
use Rattle.sg_replay.specs.Engined.{Engined}
use Rattle.sg_replay.specs.Missing.{missing}
use Rattle.sg_replay.specs.Serving.{real_call}
use Rattle.sg_clients.specs.WorldView.{Seat, WorldView, is_held_phase, is_offered, seat_of, unanswered, with_points}
use Rattle.sg_clients.specs.declared.phase.Phase.TheVariants.{Blocked}
use Rattle.sg_world.proofs.Missing.{due_is}
use Rattle.sg_world.proofs.Moving.{rooms_moved, told_moved}
use Rattle.sg_world.proofs.Points.{not_stopped, stops_noted, stops_struck}
use Rattle.sg_world.proofs.Rebuilding.{engine_is, keeps_now, let_in_now, own, spelt, stop_at}
use Rattle.sg_world.proofs.Upright.{Upright}
use Rattle.sg_world.specs.Due.{needs_in}
use Rattle.sg_world.specs.Steps.{PassesGuard, ReachesService, StopsCall, WaitsNow}
use Rattle.sg_world.specs.Worlded.{IsWorld, Rooms, StoresObject}
use Rattle.sg_world_laws.proofs.Alike.{keeps_alike}
use Rattle.sg_world_laws.proofs.Moves.{its_boot, its_gone, its_seat, moves}
use Rattle.sg_world_laws.proofs.Turns.{none_now, seat_there}
use Rattle.sg_world_laws.specs.Keeping.{KeepsPromise, Stub, TellSame, standing}
use Rattle.std.specs.List.{Contains}
use Rattle.sg_world_laws.specs.Seats.{HaveSeats, IsSeated}
use Rattle.sg_world_laws.specs.Setting.{Setting, stubs_of}
use Rattle.sg_world_laws.specs.Turns.{HasAll, IsAskedItem}

module _ (z : Setting) (e : Engined) (w : WorldView) (rooms : Rooms) (is : IsWorld z e w rooms) (run : e.cell.run ≡ w.run) (running : e.cell.running ≡ w.running) (walks : e.tables.walks ≡ z.walks)
    (client : ℕ) (first : 1 ≤ client) (last : client ≤ length w.seats) (let_in : PassesGuard z w client) (v : Object) (up : w.running ≡ Some v)
    (whole : missing e (needs_in z w (seat_of w client).call) ≡ None) where
  abbrev st : Seat
  st = seat_of w client

  abbrev call : Call
  call = (seat_of w client).call

  abbrev pub sp : Upright w (Some v)
  sp = spelt z e w rooms is run running walks client first last let_in v up

  abbrev pub k : KeepsPromise z (standing w (spelt z e w rooms is run running walks client first last let_in v up).first (spelt z e w rooms is run running walks client first last let_in v up).others (Some v)) (stub_of e)
  k = keeps_now z e w rooms is run running walks client first last let_in v up

  -- all that the call needs is there
  pub all_there : HasAll z (standing w (spelt z e w rooms is run running walks client first last let_in v up).first (spelt z e w rooms is run running walks client first last let_in v up).others (Some v)) (stub_of e) (seat_of w client).call
  all_there = has_all z is.set (standing w sp.first sp.others (Some v)) e (engine_is z e w rooms is run running walks client first last let_in v up) call (let_in_now z e w rooms is run running walks client first last let_in v up) whole

  -- and nothing is due, at any number of points
  pub reaches_now : (asked : ℕ) → ReachesService z (with_points w asked) client v
  reaches_now asked = record {
    uses = record { let_in = record { phase = let_in.phase; passes = let_in.passes }; running = up };
    nothing_due = due_is z e w rooms is v up call ∙ whole;
  }

  -- ---- an item of the call, at an outcome

  module _ (points : ℕ) where
    -- the call waits
    abbrev waiting : Item
    waiting = item_of_call (Client call.client call.seq) call (real_call e call).desc points Blocks

    module _ (unanswered_there : z.ask v (real_call e (seat_of w client).call) ≡ None) where
      waits_asked : IsAskedItem z (stub_of e) v (seat_of w client).call (item_of_call (Client (seat_of w client).call.client (seat_of w client).call.seq) (seat_of w client).call (real_call e (seat_of w client).call).desc points Blocks)
      waits_asked = record { tag = refl; shown = refl; real = refl; table = unanswered_there }

      pub waits_at : answer z.iface z.ask (object_of z.iface.facts w.history) (seat_of w client).call ≡ None
      waits_at = ap (λ g. refused_or g (z.ask (object_of z.iface.facts w.history) call)) let_in.passes
          ∙ would_wait z is.set w sp.first sp.others v (stub_of e) k call (let_in_now z e w rooms is run running walks client first last let_in v up) all_there waiting waits_asked refl

      pub waits_next : IsNextItem (stubs_of z) w.history (unanswered w) (place_after [] w.run.boots (item_of_call (Client (seat_of w client).call.client (seat_of w client).call.seq) (seat_of w client).call (real_call e (seat_of w client).call).desc points Blocks))
      waits_next = subst (λ l. IsNextItem (stubs_of z) w.history (unanswered w) (place_after [] l waiting)) (sym sp.boots)
          (waiting_next z is.set w sp.first sp.others v (stub_of e) k call (let_in_now z e w rooms is run running walks client first last let_in v up) all_there waiting waits_asked refl)

      -- the world with its item
      abbrev with_waiting : WorldView
      with_waiting = record w { run = with_item w.run waiting points; running = Some v }

      noted_keeps : KeepsPromise z (record w { run = with_item w.run (item_of_call (Client (seat_of w client).call.client (seat_of w client).call.seq) (seat_of w client).call (real_call e (seat_of w client).call).desc points Blocks) points; running = Some v }) (stub_of e)
      noted_keeps = subst (λ l. KeepsPromise z (record w { run = record { boots = noted l waiting; points = points }; running = Some v }) (stub_of e)) (sym sp.boots)
          (waited z is.set w sp.first sp.others v (stub_of e) k call (let_in_now z e w rooms is run running walks client first last let_in v up) all_there waiting waits_asked refl points w.seats refl refl
          (subst (λ n. HaveSeats z w.history w.withdrawn n w.seats) (sym (length_noted (sp.first ∷ sp.others) waiting)) k.seats))

      seated : IsSeated z w.history client (seat_of w client)
      seated = its_seat z w (stub_of e) is.keeps client st (seat_there w client first last) first st w.withdrawn w.marks w.events w.refused

      offers : is_offered (seat_of w client).phase ≡ true
      offers = ap is_offered let_in.phase

      waits_keeps : KeepsPromise z (record w {
        run = with_item w.run (item_of_call (Client (seat_of w client).call.client (seat_of w client).call.seq) (seat_of w client).call (real_call e (seat_of w client).call).desc points Blocks) points;
        running = Some v;
        seats = slice_set w.seats (client - 1) (record (seat_of w client) { phase = Blocked });
      }) (stub_of e)
      waits_keeps =
          let new : Seat = record st { phase = Blocked } in
          let there = seat_there w client first last in
          moves z with_waiting (stub_of e) noted_keeps client st there first new w.withdrawn w.marks w.events w.refused
          (record { its = λ held. seated.its offers; next = λ held. seated.next offers; may = λ held. seated.may offers; waits = λ held. waits_at; receipt = λ isn't. absurd (cc isn't); count = seated.count; few = seated.few })
          (λ d x other are. are) (its_gone z w (stub_of e) is.keeps client st there first new w.withdrawn w.marks w.events w.refused) refl
          (its_boot z with_waiting (stub_of e) noted_keeps client st there first new w.withdrawn w.marks w.events w.refused)
          (none_now with_waiting st (ap is_held_phase let_in.phase)) (none_now with_waiting new refl)
          (λ x has. inl (subst (λ q. Contains (if q then call ∷ [] else []) x) offers has)) (λ x has. has)

      -- a world in which it waits
      pub waits_on : (new : Engined) → new.cell.run ≡ with_item e.cell.run (item_of_call (Client (seat_of w client).call.client (seat_of w client).call.seq) (seat_of w client).call (real_call e (seat_of w client).call).desc points Blocks) points
          → new.cell.running ≡ Some v → StoresObject z.iface.facts new w.history → TellSame (stub_of e) (stub_of new) → (seats : List Seat) → seats ≡ slice_set w.seats (client - 1) (record (seat_of w client) { phase = Blocked })
          → IsWorld z new (record (as_shown w new) { seats = seats }) rooms
      waits_on new grown now stores tells seats set =
          subst (λ s. IsWorld z new (record (as_shown w new) { seats = s }) rooms) (sym set)
          (record {
            set = is.set;
            keeps = subst (λ (r : Run). KeepsPromise z (record w { run = r; running = new.cell.running; seats = slice_set w.seats (client - 1) blocked }) (stub_of new)) (sym (grown ∙ ap (λ (r : Run). with_item r waiting points) run))
                (subst (λ r. KeepsPromise z (record w { run = with_item w.run waiting points; running = r; seats = slice_set w.seats (client - 1) blocked }) (stub_of new)) (sym now)
                (keeps_alike z (record w { run = with_item w.run waiting points; running = Some v; seats = slice_set w.seats (client - 1) blocked }) (stub_of e) (stub_of new) tells waits_keeps));
            tracked = stores;
            rooms_are = rooms_moved w.seats (client - 1) st blocked rooms (seat_there w client first last) offers refl is.rooms_are;
            marked = record { entries = is.marked.entries; withdrawals = is.marked.withdrawals; phases = told_moved w.marks w.seats (client - 1) st blocked (seat_there w client first last) offers refl is.marked.phases };
          })
        where
          blocked : Seat
          blocked = record (seat_of w client) { phase = Blocked }

      -- and the line
      pub waits_line : (asked : ℕ) → points ≡ asked_after asked 1 → (new : Engined)
          → new.cell.run ≡ with_item e.cell.run (item_of_call (Client (seat_of w client).call.client (seat_of w client).call.seq) (seat_of w client).call (real_call e (seat_of w client).call).desc points Blocks) points
          → new.cell.running ≡ Some v → (seats : List Seat) → seats ≡ slice_set w.seats (client - 1) (record (seat_of w client) { phase = Blocked })
          → WaitsNow z (with_points w asked) client (record (as_shown w new) { seats = seats })
      waits_line asked points_are new grown now seats set = record {
        asks = record { service = v; reaches = reaches_now asked; item = waiting; tag = ap (λ c. Client c call.seq) (own z e w rooms is run running walks client first last let_in v up); shown = refl };
        none = waits_at;
        outcome = refl;
        noted = record { next = waits_next; points = points_are };
        now = ap (λ (r : Run). record w { run = r; running = new.cell.running; seats = seats }) (grown ∙ ap (λ (r : Run). with_item r waiting points) run)
            ∙ ap (λ r. record w { run = with_item w.run waiting points; running = r; seats = seats }) (now ∙ sym up)
            ∙ ap (λ s. record w { run = with_item w.run waiting points; seats = s }) set;
      }

    -- the service stops within the call
    abbrev stopping : Item
    stopping = item_of_call (Client call.client call.seq) call (real_call e call).desc points Stopped

    module _ (answered : IsSome (z.ask v (real_call e (seat_of w client).call))) where
      stops_asked : IsAskedItem z (stub_of e) v (seat_of w client).call (item_of_call (Client (seat_of w client).call.client (seat_of w client).call.seq) (seat_of w client).call (real_call e (seat_of w client).call).desc points Stopped)
      stops_asked = record { tag = refl; shown = refl; real = refl; table = answered }

      stops_next : IsNextItem (stubs_of z) w.history (unanswered w) (place_after [] w.run.boots (item_of_call (Client (seat_of w client).call.client (seat_of w client).call.seq) (seat_of w client).call (real_call e (seat_of w client).call).desc points Stopped))
      stops_next = subst (λ l. IsNextItem (stubs_of z) w.history (unanswered w) (place_after [] l stopping)) (sym sp.boots)
          (stopped_next z is.set w sp.first sp.others v (stub_of e) k call (let_in_now z e w rooms is run running walks client first last let_in v up) all_there stopping stops_asked refl)

      stops_keeps : (later : Stub)
          → KeepsPromise z (record w { run = with_stop (with_item w.run (item_of_call (Client (seat_of w client).call.client (seat_of w client).call.seq) (seat_of w client).call (real_call e (seat_of w client).call).desc points Stopped) points) points; running = None }) later
      stops_keeps later = subst (λ l. KeepsPromise z (record w { run = with_stop (record { boots = noted l stopping; points = points }) points; running = None }) later) (sym sp.boots)
          (call_stopped z is.set w sp.first sp.others v (stub_of e) k call (let_in_now z e w rooms is run running walks client first last let_in v up) all_there stopping stops_asked refl points points later)

  -- a world in which the service stopped within the call
  module _ (start : Points) (new : Engined) (later : Points) (s : NotesStop z.ask z.parts v e.cell (Client (seat_of w client).call.client (seat_of w client).call.seq) (seat_of w client).call (real_call e (seat_of w client).call) start new.cell later) where
    abbrev item : Item
    item = item_of_call (Client call.client call.seq) call (real_call e call).desc later.asked Stopped

    some : IsSome (z.ask v (real_call e (seat_of w client).call))
    some = subst (λ r. IsSome r) (sym s.stops.answered) refl

    run_is : new.cell.run ≡ with_stop (with_item w.run (item_of_call (Client (seat_of w client).call.client (seat_of w client).call.seq) (seat_of w client).call (real_call e (seat_of w client).call).desc later.asked Stopped) later.asked) later.asked
    run_is = s.run ∙ ap (λ (r : Run). with_stop (with_item r item later.asked) later.asked) run

    pub stops_on : StoresObject z.iface.facts new w.history → IsWorld z new (as_shown w new) rooms
    stops_on stores = record {
      set = is.set;
      keeps = subst (λ (r : Run). KeepsPromise z (record w { run = r; running = new.cell.running }) (stub_of new)) (sym run_is)
          (subst (λ r. KeepsPromise z (record w { run = with_stop (with_item w.run item later.asked) later.asked; running = r }) (stub_of new)) (sym s.running) (stops_keeps later.asked some (stub_of new)));
      tracked = stores;
      rooms_are = is.rooms_are;
      marked = record { entries = is.marked.entries; withdrawals = is.marked.withdrawals; phases = is.marked.phases };
    }

    pub stops_counted : struck_in w.run ≡ start.struck → (new.cell.run.points ≡ later.asked) × (struck_in new.cell.run ≡ later.struck)
    stops_counted struck = (
      ap (λ r. r.points) s.run,
      ap struck_in run_is ∙ stops_struck (noted w.run.boots item) later.asked (begun_noted w.run.boots item is.keeps.cell.begun) (stop_noted w.run.boots item ∙ not_stopped z e w rooms is v up)
          ∙ ap (λ l. l ++ later.asked ∷ []) (stops_noted w.run.boots item ∙ struck) ∙ sym s.stops.struck,
    )

    pub stops_line : (asked : ℕ) → start.asked ≡ asked_after asked 1 → StopsCall z (with_points w asked) client (as_shown w new)
    stops_line asked start_is =
        let folded : IsUp z.iface.facts w.run.boots v = subst (IsRunning z.iface.facts w.run.boots) up is.keeps.cell.runs in
        let answered : answer_to z.iface.facts z.ask (last_items w.run.boots) item ≡ Some s.stops.reply = ap (λ o. z.ask o (real_call e call)) (sym folded.folded) ∙ s.stops.answered in
        record {
          asks = record { service = v; reaches = reaches_now asked; item = item; tag = ap (λ c. Client c call.seq) (own z e w rooms is run running walks client first last let_in v up); shown = refl };
          outcome = refl;
          noted = record {
            next = stops_next later.asked some;
            points = subst (λ x. IsPointOfCall true z.parts asked x call.fun Stopped later.asked) (sym answered)
                (stop_at z.parts asked start.asked later.asked call.fun s.stops.reply (real_call e call) refl start_is s.stops.first s.stops.last s.counted);
          };
          now = ap (λ (r : Run). record w { run = r; running = new.cell.running }) run_is ∙ ap (λ r. record w { run = with_stop (with_item w.run item later.asked) later.asked; running = r }) s.running;
        }
