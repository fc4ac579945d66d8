-- The parts of a world where a call that has all that it needs is asked of the service.
use Rattle.std.proofs.Common.{IsSome, List, None, Option, Some, ap, if◌then◌else◌, length, refl, slice_set, subst, sym, ℕ, ◌-◌, ◌∙◌, ◌≡◌, ◌≤◌, ◌||◌}
use Rattle.std.specs.Prelude.{IfSome}
use Rattle.sg_facts.specs.sg_base.Stops.{asked_after}
use Rattle.sg_facts.specs.sg_base.declared.call.Call.{Call}
use Rattle.sg_facts.specs.sg_base.declared.reply.Reply.{Reply}
use Rattle.sg_world.proofs.Engines.Looking.{tell_same}
use Rattle.sg_world.proofs.Engines.Serving.{may_serve}
use Rattle.sg_world.specs.Engines.Engines.{as_shown}
use Rattle.sg_world.specs.Engines.Stubs.{stub_of, told_of}
use Rattle.sg_facts.specs.declared.outcome.Outcome.TheVariants.{Blocks, NoMemory, Replied, Stopped}
use Rattle.sg_facts.specs.declared.outcome.Patch.{Patch}
use Rattle.sg_facts.specs.Facts.{Facts}
use Rattle.sg_facts.specs.Invoke.{FitsRoom, Points}
use Rattle.sg_facts.specs.Legal.{Table}
use Rattle.sg_facts.specs.Needs.{Needs}
use Rattle.sg_facts.specs.Object.{Object}
use Rattle.sg_facts.specs.Trace.{Run}
use Rattle.sg_replay.specs.sg_hist.Recovered.{struck_in}
use Rattle.sg_replay.specs.sg_boot.Invoking.{item_of_call}
use Rattle.sg_facts.specs.declared.trace.Tag.TheVariants.{Client}
use Rattle.sg_replay.specs.sg_name.Names.{named_at}
use Rattle.sg_replay.specs.Engined.{Engined, IsEngine}
use Rattle.sg_replay.specs.Missing.{is_empty, missing, missing_file, missing_row, or_else}
use Rattle.sg_replay.specs.Present.{HasMark, is_present}
use Rattle.sg_replay.specs.Serving.{MayServe, ServesOne, real_call}
use Rattle.sg_replay.specs.declared.todo.Todo.TheVariants.{Load}
use Rattle.sg_clients.specs.WorldView.{Seat, WorldView, seat_in, with_points}
use Rattle.sg_clients.specs.declared.phase.Phase.TheVariants.{Blocked}
use Rattle.sg_replay.specs.sg_store.Stored.{HasRoom, bytes_of}
use Rattle.sg_world.proofs.Points.{some_is, stops_noted, stores_same}
use Rattle.sg_world.proofs.Reaching.{all_there, k, sp, stops_counted, stops_line, stops_on, waits_line, waits_on}
use Rattle.sg_world.proofs.Rebuilding.{let_in_now}
use Rattle.sg_world.proofs.Reserving.{ShowsSame, reserved}
use Rattle.sg_world.proofs.Rooming.{length_set}
use Rattle.sg_world.specs.declared.inner.Inner.{Inner}
use Rattle.sg_world.specs.Due.{needs_in}
use Rattle.sg_world.specs.Inners.{IsInOrder, rooms_in, view_in}
use Rattle.sg_world.specs.Inside.Served.{HasServed, view_with}
use Rattle.sg_world.specs.Steps.{PassesGuard, StopsCall, WaitsNow}
use Rattle.sg_world.specs.Worlded.{IsWorld, StoresObject, setting_of}
use Rattle.sg_world_laws.proofs.Alike.{keeps_alike}
use Rattle.sg_world_laws.specs.Keeping.{TellSame}
use Rattle.sg_world_laws.specs.Setting.{Setting}

-- the same is missing, where names, files and what is present are the same
missing_same : (e new : Engined) (needs : Needs) → ShowsSame e new → missing new needs ≡ missing e needs
missing_same e new needs same =
    ap (λ known. or_else (missing_row known needs.ids) (missing_file new needs.file)) same.names ∙ ap (λ f. or_else (missing_row e.names.known needs.ids) f) (file needs.file)
  where
    file : (f : Option (List ℕ)) → missing_file new f ≡ missing_file e f
    file None = refl
    file (Some key) =
        ap (λ bytes. if is_empty bytes || is_present new.present key then None else Some Load) (same.files key)
        ∙ ap (λ b. if is_empty (bytes_of e.stored key) || b then None else Some Load) (same.present key)

-- the service of parts that stand in order may be asked a client's call, by an engine that shows the same and has taken its memory
pub record MayBeServed {S T I : Type 0} (facts : Facts) (ask : Table) (sound : Object → Type 0) (parts : ℕ → ℕ) (test : ℕ → List ℕ → List ℕ → Type 0) (asked : T → ℕ) (struck plan : T → List ℕ) (x : Inner S T I) (client : ℕ) (file : Option (List ℕ))
    (e : Engined) : Type 0 where
  pub order : IsInOrder facts ask sound parts test asked struck plan x
  pub first : 1 ≤ client
  pub last : client ≤ length x.clients
  pub let_in : PassesGuard (setting_of ask sound parts x.engine.tables) (view_in x) client
  pub up : IsSome x.engine.cell.running
  pub file_is : file ≡ (needs_in (setting_of ask sound parts x.engine.tables) (view_in x) (seat_in x.clients client).call).file
  pub whole : missing x.engine (needs_in (setting_of ask sound parts x.engine.tables) (view_in x) (seat_in x.clients client).call) ≡ None
  pub same : ShowsSame x.engine e
  pub tables : e.tables ≡ x.engine.tables
  pub places : e.stored.clients ≡ x.engine.stored.clients

-- an engine that asked, with the stops since, changed nothing but its cell and its names
pub record HasAsked {T : Type 0} (test : ℕ → List ℕ → List ℕ → Type 0) (asked : T → ℕ) (struck plan : T → List ℕ) (e : Engined) (before : T) (new : Engined) (stops : T) : Type 0 where
  pub tables_kept : new.tables ≡ e.tables
  pub stored_kept : new.stored ≡ e.stored
  pub tracked_kept : new.tracked ≡ e.tracked
  pub present_kept : new.present ≡ e.present
  pub plan_kept : plan stops ≡ plan before
  pub tested : test (asked stops) (struck stops) (plan stops)

module _ {S T I : Type 0} {facts : Facts} {ask : Table} {sound : Object → Type 0} {parts : ℕ → ℕ} {test : ℕ → List ℕ → List ℕ → Type 0} {asked : T → ℕ} {struck plan : T → List ℕ} {x : Inner S T I} {client : ℕ} {file : Option (List ℕ)} {e : Engined}
    (m : MayBeServed facts ask sound parts test asked struck plan x client file e) where
  open m use {order, first, last, let_in, up, file_is, whole, same, tables, places}

  abbrev z : Setting
  z = setting_of ask sound parts x.engine.tables

  -- the world as the engine shows it that has taken its memory
  abbrev w : WorldView
  w = view_with e x

  same_view : view_with e x ≡ view_in x
  same_view = ap (λ (r : Run). record (view_in x) { run = r; running = e.cell.running }) same.run ∙ ap (λ r. record (view_in x) { running = r }) same.running

  pub world : IsWorld (setting_of ask sound parts x.engine.tables) e (view_with e x) (rooms_in x)
  world = subst (λ v. IsWorld z e v (rooms_in x)) (sym same_view) (reserved z x.engine e (view_in x) (rooms_in x) same order.world)

  abbrev pub held : Object
  held = (some_is x.engine.cell.running up).0

  pub held_is : e.cell.running ≡ Some (some_is x.engine.cell.running up).0
  held_is = same.running ∙ (some_is x.engine.cell.running up).1

  pub passes : PassesGuard (setting_of ask sound parts x.engine.tables) (view_with e x) client
  passes = record { phase = let_in.phase; passes = let_in.passes }

  pub all_whole : missing e (needs_in (setting_of ask sound parts x.engine.tables) (view_with e x) (seat_in x.clients client).call) ≡ None
  all_whole = missing_same x.engine e (needs_in (setting_of ask sound parts x.engine.tables) (view_in x) (seat_in x.clients client).call) same ∙ whole

  pub walks_are : e.tables.walks ≡ x.engine.tables.walks
  walks_are = ap (λ t. t.walks) tables

  pub asked_so : (view_with e x).run.points ≡ asked x.stops
  asked_so = ap (λ (r : Run). r.points) same.run ∙ order.points.asked_so

  pub struck_so : struck_in (view_with e x).run ≡ struck x.stops
  struck_so = ap struck_in same.run ∙ order.points.struck_so

  pub placed : length x.clients ≤ e.stored.clients
  placed = subst (λ n. length x.clients ≤ n) (sym places) order.clients

  -- where there was no memory
  pub unserved_order : IsInOrder facts ask sound parts test asked struck plan (record x { engine = e })
  unserved_order = record {
    world = subst (λ t. IsWorld (setting_of ask sound parts t) e (view_with e x) (rooms_in x)) (sym tables) world;
    points = record { asked_so = asked_so; struck_so = struck_so; tested = order.points.tested };
    clients = placed;
    service = ap (λ t. t.iface.facts) tables ∙ order.service;
  }

  -- the call may be served
  pub may_be_served : (call : Call) → call ≡ (seat_in x.clients client).call → 1 ≤ e.cell.room → 1 ≤ e.names.spare → MayServe facts ask e call
  may_be_served call its room name_room =
      subst (λ f. MayServe f ask e call) order.service (subst (MayServe z.iface.facts ask e) (sym its)
      (may_serve z world.set w (sp z e w (rooms_in x) world refl refl walks_are client first last passes held held_is all_whole).first
      (sp z e w (rooms_in x) world refl refl walks_are client first last passes held held_is all_whole).others held e (λ id. told_of (named_at e.names.known id)) (λ path. is_present e.present path)
      (k z e w (rooms_in x) world refl refl walks_are client first last passes held held_is all_whole) (seat_in x.clients client).call
      (let_in_now z e w (rooms_in x) world refl refl walks_are client first last passes held held_is) (all_there z e w (rooms_in x) world refl refl walks_are client first last passes held held_is all_whole)
      world.tracked.given held_is room name_room))

  -- ---- after the asking

  abbrev start : Points
  start = record { asked = asked x.stops; struck = struck x.stops }

  module _ {new : Engined} {stops : T} (h : HasAsked test asked struck plan e x.stops new stops) where
    open h use {tables_kept, stored_kept, tracked_kept, present_kept, plan_kept, tested}

    abbrev later : Points
    later = record { asked = asked stops; struck = struck stops }

    abbrev call : Call
    call = (seat_in x.clients client).call

    all_tables : new.tables ≡ x.engine.tables
    all_tables = tables_kept ∙ tables

    still_placed : length x.clients ≤ new.stored.clients
    still_placed = subst (λ s. length x.clients ≤ s.clients) (sym stored_kept) placed

    stores : StoresObject (setting_of ask sound parts x.engine.tables).iface.facts new x.history.items
    stores = stores_same z.iface.facts e new x.history.items tracked_kept stored_kept world.tracked

    -- the call waits
    module _ (s : ServesOne x.engine.tables.iface.facts ask parts held e (seat_in x.clients client).call (record { asked = asked x.stops; struck = struck x.stops }) Blocks new (record { asked = asked stops; struck = struck stops }))
        (seats : List Seat) (set : seats ≡ slice_set x.clients (client - 1) (record (seat_in x.clients client) { phase = Blocked })) where
      tells : TellSame (stub_of e) (stub_of new)
      tells = tell_same told_of refl (λ real. refl) e.names.known new.names.known (λ path. is_present e.present path) (λ path. is_present new.present path) s.1 (λ path. ap (λ p. is_present p path) present_kept)

      pub waits_order : IsInOrder facts ask sound parts test asked struck plan (record x { engine = new; stops = stops; clients = seats })
      waits_order = record {
        world = subst (λ t. IsWorld (setting_of ask sound parts t) new (record (as_shown w new) { seats = seats }) (rooms_in x)) (sym all_tables)
            (waits_on z e w (rooms_in x) world refl refl walks_are client first last passes held held_is all_whole (asked x.stops) s.0.unanswered new s.0.run s.0.running stores tells seats set);
        points = record {
          asked_so = ap (λ (r : Run). r.points) s.0.run ∙ ap (λ p. p.asked) (sym s.0.unasked);
          struck_so = ap struck_in s.0.run ∙ stops_noted e.cell.run.boots (item_of_call (Client call.client call.seq) call (real_call e call).desc (asked x.stops) Blocks) ∙ struck_so ∙ ap (λ p. p.struck) (sym s.0.unasked);
          tested = tested;
        };
        clients = (let long = ap length set ∙ length_set x.clients (client - 1) (record (seat_in x.clients client) { phase = Blocked }) in subst (λ n. n ≤ new.stored.clients) (sym long) still_placed);
        service = ap (λ t. t.iface.facts) all_tables ∙ order.service;
      }

      pub waits_line_now : (n : ℕ) → (view_in x).run.points ≡ asked_after n 1
          → WaitsNow (setting_of ask sound parts x.engine.tables) (with_points (view_in x) n) client (view_in (record x { engine = new; stops = stops; clients = seats }))
      waits_line_now n was = subst (λ v. WaitsNow z (with_points v n) client (record (as_shown w new) { seats = seats })) same_view
          (waits_line z e w (rooms_in x) world refl refl walks_are client first last passes held held_is all_whole (asked x.stops) s.0.unanswered n (sym order.points.asked_so ∙ was) new s.0.run s.0.running seats set)

    -- the service stops within the call
    module _ (s : ServesOne x.engine.tables.iface.facts ask parts held e (seat_in x.clients client).call (record { asked = asked x.stops; struck = struck x.stops }) Stopped new (record { asked = asked stops; struck = struck stops })) where
      pub stops_order : IsInOrder facts ask sound parts test asked struck plan (record x { engine = new; stops = stops })
      stops_order =
          let counts = stops_counted z e w (rooms_in x) world refl refl walks_are client first last passes held held_is all_whole start new later s.0 struck_so in
          record {
            world = subst (λ t. IsWorld (setting_of ask sound parts t) new (as_shown w new) (rooms_in x)) (sym all_tables)
                (stops_on z e w (rooms_in x) world refl refl walks_are client first last passes held held_is all_whole start new later s.0 stores);
            points = record { asked_so = counts.0; struck_so = counts.1; tested = tested };
            clients = still_placed;
            service = ap (λ t. t.iface.facts) all_tables ∙ order.service;
          }

      pub stops_line_now : (n : ℕ) → (view_in x).run.points ≡ asked_after n 1 → StopsCall (setting_of ask sound parts x.engine.tables) (with_points (view_in x) n) client (view_in (record x { engine = new; stops = stops }))
      stops_line_now n was = subst (λ v. StopsCall z (with_points v n) client (as_shown w new)) same_view
          (stops_line z e w (rooms_in x) world refl refl walks_are client first last passes held held_is all_whole start new later s.0 n (sym order.points.asked_so ∙ was))

    -- there was no memory
    module _ (s : ServesOne x.engine.tables.iface.facts ask parts held e (seat_in x.clients client).call (record { asked = asked x.stops; struck = struck x.stops }) NoMemory new (record { asked = asked stops; struck = struck stops })) where
      shown_same : view_with new x ≡ view_with e x
      shown_same = ap (λ (r : Run). record w { run = r; running = new.cell.running }) s.0.run ∙ ap (λ r. record w { running = r }) s.0.running

      pub nothing_order : IsInOrder facts ask sound parts test asked struck plan (record x { engine = new; stops = stops })
      nothing_order = record {
        world = subst (λ t. IsWorld (setting_of ask sound parts t) new (view_with new x) (rooms_in x)) (sym all_tables)
            (subst (λ v. IsWorld z new v (rooms_in x)) (sym shown_same) (record {
              set = world.set;
              keeps = keeps_alike z w (stub_of e) (stub_of new)
                  (tell_same told_of refl (λ real. refl) e.names.known new.names.known (λ path. is_present e.present path) (λ path. is_present new.present path) s.1 (λ path. ap (λ p. is_present p path) present_kept)) world.keeps;
              tracked = stores;
              rooms_are = world.rooms_are;
              marked = world.marked;
            }));
        points = record {
          asked_so = ap (λ (r : Run). r.points) s.0.run ∙ asked_so ∙ ap (λ p. p.asked) (sym s.0.unasked);
          struck_so = ap struck_in s.0.run ∙ struck_so ∙ ap (λ p. p.struck) (sym s.0.unasked);
          tested = tested;
        };
        clients = still_placed;
        service = ap (λ t. t.iface.facts) all_tables ∙ order.service;
      }

      pub nothing_shown : view_in (record x { engine = new; stops = stops }) ≡ view_in x
      nothing_shown = shown_same ∙ same_view

    -- the service replied
    module _ (reply : Reply) (patch : Option Patch) (engine : IsEngine facts e) (fits : FitsRoom held (Replied reply patch)) (row_room : 1 ≤ e.tracked.spare) (stored_room : 1 ≤ e.stored.spare)
        (file_room : IfSome file (HasRoom e.stored)) (mark : IfSome file (HasMark e.present))
        (s : ServesOne x.engine.tables.iface.facts ask parts held e (seat_in x.clients client).call (record { asked = asked x.stops; struck = struck x.stops }) (Replied reply patch) new (record { asked = asked stops; struck = struck stops })) where
      abbrev pub has_served : HasServed (setting_of ask sound parts x.engine.tables) test asked struck plan (record x { engine = new; stops = stops }) client reply patch
      has_served = record {
        before = e;
        points = start;
        world = world;
        places = placed;
        counts = record { asked_so = asked_so; struck_so = struck_so; tested = subst (λ p. test (asked x.stops) (struck x.stops) p) (sym plan_kept) order.points.tested };
        is_engine = subst (λ f. IsEngine f e) (sym order.service) engine;
        held = held;
        up = held_is;
        let_in = passes;
        whole = all_whole;
        walks = walks_are;
        tells = s;
        fits = fits;
        rooms = record {
          row = row_room;
          stored = stored_room;
          room = subst (λ f. IfSome f (HasRoom e.stored)) file_is file_room;
          mark = subst (λ f. IfSome f (HasMark e.present)) file_is mark;
        };
        tables_same = tables_kept;
        stored_same = stored_kept;
        tracked_same = tracked_kept;
        present_same = present_kept;
        tested = tested;
      }

  -- the world is shown as before
  pub shown_before : view_with e x ≡ view_in x
  shown_before = same_view
