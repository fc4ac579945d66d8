-- One step more of what a call needs, as the engine does it: it may be done, the world keeps what it keeps after it, and it is the line of the step.
use Rattle.std.proofs.Common.{List, Some, [], ap, arith, if◌then◌else◌, inl, inr, length, refl, subst, sym, true, ℕ, ◌++◌, ◌+◌, ◌-◌, ◌<◌, ◌∙◌, ◌∷◌, ◌≡◌, ◌≤◌}
use Rattle.std.specs.declared.option.Option.{Option}
use Rattle.std.specs.declared.result.Result.{Result}
use Rattle.std.specs.declared.result.Result.TheVariants.{Err, Ok as Done}
use Rattle.std.specs.Prelude.{OnErr}
use Rattle.sg_facts.specs.sg_base.Counts.{last_count}
use Rattle.sg_facts.specs.sg_base.Stops.{asked_after}
use Rattle.sg_facts.specs.sg_base.declared.call.Call.{Call}
use Rattle.sg_facts.specs.sg_base.declared.memory.NoMemory.{NoMemory}
use Rattle.sg_facts.specs.sg_base.declared.reply.Reply.{Reply}
use Rattle.sg_facts.specs.sg_base.declared.reply.Reply.TheVariants.{Ok, Refused}
use Rattle.sg_replay.proofs.sg_boot.LastBoot.{begun_noted, stop_noted}
use Rattle.sg_replay.specs.sg_boot.Cells.{IsRunning, IsUp}
use Rattle.sg_replay.specs.sg_boot.Invoking.{item_of_call, with_item, with_stop}
use Rattle.sg_replay.specs.sg_hist.Recovered.{IsPointOfCall, item_of_load, struck_in}
use Rattle.sg_replay.specs.sg_hist.Inside.Parts.{answer_to}
use Rattle.sg_world.proofs.Engines.Advancing.{it, loads_next, loads_shown, may_advance, replayable, replays_next, replays_shown, struck_next, struck_shown, unchanged_shown}
use Rattle.sg_world.proofs.Engines.Left.{left_to_load}
use Rattle.sg_world.specs.Engines.Engines.{IsEngineOf, as_shown}
use Rattle.sg_world.specs.Engines.Stubs.{stub_of}
use Rattle.sg_facts.specs.Facts.{Facts}
use Rattle.sg_facts.specs.Invoke.{Points, parts_of}
use Rattle.sg_facts.specs.Laws.{is_none}
use Rattle.sg_facts.specs.Legal.{Table}
use Rattle.sg_facts.specs.Needs.{Needs}
use Rattle.sg_facts.specs.Object.{Object, set_file}
use Rattle.sg_facts.specs.Trace.{Run}
use Rattle.sg_facts.specs.Track.{row_at}
use Rattle.sg_facts.specs.Walks.{replayed_call}
use Rattle.sg_facts.specs.declared.outcome.Outcome.TheVariants.{Replied, Stopped}
use Rattle.sg_facts.specs.declared.trace.Item.{Item}
use Rattle.sg_facts.specs.declared.trace.Tag.TheVariants.{Load, Walk}
use Rattle.sg_replay.specs.sg_hist.Growing.{IsNextItem, noted, place_after}
use Rattle.sg_replay.specs.sg_hist.Reading.{last_items}
use Rattle.sg_replay.specs.Engined.{Engined}
use Rattle.sg_replay.specs.Missing.{missing}
use Rattle.sg_replay.specs.Replaying.{IsStruck, IsUnchanged, KeepsPresent, Loads as LoadsFile, LoadsOne, MayAdvance, Replays as ReplaysCall, ReplaysOne, replay_of}
use Rattle.sg_replay.specs.Serving.{real_call}
use Rattle.sg_replay.specs.declared.advance.Advanced.{Advanced}
use Rattle.sg_replay.specs.declared.advance.Advanced.TheVariants.{Loaded, Replayed, Struck}
use Rattle.sg_replay.specs.declared.todo.Todo.{Todo}
use Rattle.sg_replay.specs.declared.todo.Todo.TheVariants.{Load as ToLoad, Walk as ToWalk}
use Rattle.sg_clients.specs.WorldView.{WorldView, is_held_phase, is_offered, seat_of, unanswered, with_points}
use Rattle.sg_replay.specs.sg_store.Stored.{bytes_of}
use Rattle.sg_world.proofs.Missing.{due_is}
use Rattle.sg_world.proofs.Points.{not_stopped, shown_on, stops_noted, stops_struck}
use Rattle.sg_world.proofs.Upright.{Upright, keeps_upright}
use Rattle.sg_world.specs.Due.{needs_in}
use Rattle.sg_world.specs.Steps.{Loads, PassesGuard, Replays, Steps, StopsReplay, UsesService}
use Rattle.sg_world.specs.Worlded.{IsWorld, Rooms}
use Rattle.sg_world.specs.declared.did.Did.{Did}
use Rattle.sg_world.specs.declared.did.Did.TheVariants.{Loaded as DidLoad, Replayed as DidReplay, Struck as DidStop}
use Rattle.sg_world_laws.proofs.LetIn.{let_in as is_let_in}
use Rattle.sg_world_laws.proofs.Moves.{its_seat}
use Rattle.sg_world_laws.proofs.Seating.{HasSeat, has_seat}
use Rattle.sg_world_laws.proofs.Turns.{seat_there}
use Rattle.sg_world_laws.specs.Keeping.{KeepsPromise, standing}
use Rattle.sg_world_laws.specs.Setting.{Setting, stubs_of}
use Rattle.sg_world_laws.specs.Turns.{IsLetIn}

-- ---- numbers of points

-- one point for the use of the service, and those of a reply after it
pub reply_next : (asked n parts later : ℕ) → n ≡ asked_after asked 1 → later ≡ asked_after (asked_after n parts) 1 → later ≡ asked_after asked (2 + parts)
reply_next asked n parts later one is = omega (arith, one, is)

-- a call that stopped did so at a point of what it would have been answered
pub stop_at : (parts : ℕ → ℕ) (asked n later fun : ℕ) (reply : Reply) (call : Call) → call.fun ≡ fun → n ≡ asked_after asked 1 → n < later → later ≤ n + parts_of parts call reply + 1 → later ≤ last_count → IsPointOfCall true parts asked (Some reply) fun Stopped later
stop_at parts asked n later fun (Ok good) call its is above most counted =
    let same : parts call.fun ≡ parts fun = ap parts its in
    (omega (arith, is, above, counted), omega (arith, is, above, most, same, counted))
stop_at parts asked n later fun (Refused code) call its is above most counted =
    let one : later ≡ asked_after asked 2 = omega (arith, is, above, most, counted) in one

-- ---- what the engine has done

pub on_err : {A E : Type 0} (r : Result A E) (P : Type 0) → P → OnErr r P
on_err (Done x) P p = tt
on_err (Err e) P p = p

pub on_err_map : {A E : Type 0} (r : Result A E) (P Q : Type 0) → (P → Q) → OnErr r P → OnErr r Q
on_err_map (Done x) P Q turn on = tt
on_err_map (Err e) P Q turn on = turn on

-- as its contract says
pub record Advances (facts : Facts) (ask : Table) (parts : ℕ → ℕ) (e : Engined) (client : ℕ) (file : Option (List ℕ)) (todo : Todo) (start : Points) (result : Result Advanced NoMemory) (new : Engined) (later : Points) : Type 0 where
  pub walk : (held : Object) (id k : ℕ) (shown : Call) → e.cell.running ≡ Some held → todo ≡ ToWalk id k → replay_of facts e.tables.walks (row_at e.tracked.rows id) k ≡ Some shown
      → ReplaysOne facts ask parts held e id k client shown start result new later × KeepsPresent e new
  pub load : (held : Object) (key : List ℕ) → e.cell.running ≡ Some held → todo ≡ ToLoad → file ≡ Some key → LoadsOne facts held e client key start result new later
  pub stored : new.stored ≡ e.stored
  pub tracked : new.tracked ≡ e.tracked

-- a call of a walk was replayed
pub record WasReplayed (z : Setting) (e : Engined) (needs : Needs) (client : ℕ) (v : Object) (start : Points) (new : Engined) (later : Points) : Type 0 where
  pub id : ℕ
  pub k : ℕ
  pub is_due : missing e needs ≡ Some (ToWalk id k)
  pub shown : Call
  pub its : replay_of z.iface.facts e.tables.walks (row_at e.tracked.rows id) k ≡ Some shown
  pub did : ReplaysCall z.iface.facts z.ask z.parts v e id k client shown start new later
  pub present : KeepsPresent e new

-- the service stopped within one
pub record WasStruck (z : Setting) (e : Engined) (needs : Needs) (client : ℕ) (v : Object) (start : Points) (new : Engined) (later : Points) : Type 0 where
  pub id : ℕ
  pub k : ℕ
  pub is_due : missing e needs ≡ Some (ToWalk id k)
  pub shown : Call
  pub its : replay_of z.iface.facts e.tables.walks (row_at e.tracked.rows id) k ≡ Some shown
  pub did : IsStruck z.ask z.parts v e id k client shown start new later

-- the needed file was loaded
pub record WasLoaded (z : Setting) (e : Engined) (needs : Needs) (client : ℕ) (v : Object) (start : Points) (new : Engined) (later : Points) : Type 0 where
  pub is_due : missing e needs ≡ Some ToLoad
  pub key : List ℕ
  pub its : needs.file ≡ Some key
  pub did : LoadsFile z.iface.facts v e client key start.asked new
  pub unasked : later ≡ start

abbrev pub IsTurn : Setting → Engined → Needs → ℕ → Object → Points → Result Advanced NoMemory → Engined → Points → Type 0
IsTurn z e needs client v start (Done Replayed) new later = WasReplayed z e needs client v start new later
IsTurn z e needs client v start (Done Struck) new later = WasStruck z e needs client v start new later
IsTurn z e needs client v start (Done Loaded) new later = WasLoaded z e needs client v start new later
IsTurn z e needs client v start (Err error) new later = IsUnchanged e start new later × KeepsPresent e new

-- what the engine did, as a step of the world
abbrev pub step_of : Advanced → Did
step_of Replayed = DidReplay
step_of Loaded = DidLoad
step_of Struck = DidStop

-- ---- in a world

module _ (z : Setting) (e : Engined) (w : WorldView) (rooms : Rooms) (is : IsWorld z e w rooms) (run : e.cell.run ≡ w.run) (running : e.cell.running ≡ w.running) (walks : e.tables.walks ≡ z.walks)
    (client : ℕ) (first : 1 ≤ client) (last : client ≤ length w.seats) (let_in : PassesGuard z w client) (v : Object) (up : w.running ≡ Some v) where
  abbrev call : Call
  call = (seat_of w client).call

  abbrev needed : Needs
  needed = needs_in z w (seat_of w client).call

  -- the call is the client's
  pub own : (seat_of w client).call.client ≡ client
  own = (its_seat z w (stub_of e) is.keeps client (seat_of w client) (seat_there w client first last) first (seat_of w client) w.withdrawn w.marks w.events w.refused).its (ap is_offered let_in.phase)

  pub spelt : Upright w (Some v)
  spelt = keeps_upright z w (stub_of e) is.keeps (Some v) up

  pub keeps_now : KeepsPromise z (standing w spelt.first spelt.others (Some v)) (stub_of e)
  keeps_now = subst (λ x. KeepsPromise z x (stub_of e)) spelt.is is.keeps

  pub engine_is : IsEngineOf z (standing w spelt.first spelt.others (Some v)) e
  engine_is = record { walks = walks; rows = is.tracked.rows; files = is.tracked.files }

  pub let_in_now : IsLetIn z (standing w spelt.first spelt.others (Some v)) (seat_of w client).call
  let_in_now =
      let has : HasSeat w.seats (client - 1) (seat_of w client) = has_seat w.seats (client - 1) (seat_of w client) (seat_there w client first last) in
      is_let_in z is.set w spelt.first spelt.others (Some v) (stub_of e) keeps_now has.front has.back (seat_of w client) has.is (ap is_offered let_in.phase) (ap is_held_phase let_in.phase) let_in.passes

  run_now : e.cell.run ≡ (standing w spelt.first spelt.others (Some v)).run
  run_now = run ∙ ap (λ x. x.run) spelt.is

  -- what is missing may be done
  pub may : (todo : Todo) → missing e needed ≡ Some todo → MayAdvance z.iface.facts z.ask e needed.file todo
  may todo due = may_advance z is.set w spelt.first spelt.others v e keeps_now engine_is (seat_of w client).call let_in_now todo (running ∙ up) due

  -- what was done
  pub turn : (todo : Todo) → missing e needed ≡ Some todo → (start : Points) (result : Result Advanced NoMemory) (new : Engined) (later : Points)
      → Advances z.iface.facts z.ask z.parts e (seat_of w client).call.client needed.file todo start result new later → IsTurn z e needed (seat_of w client).call.client v start result new later
  turn todo due start result new later a = by todo refl
    where
      by_walk : (id k : ℕ) → missing e needed ≡ Some (ToWalk id k) → (shown : Call) → replay_of z.iface.facts e.tables.walks (row_at e.tracked.rows id) k ≡ Some shown → (r : Result Advanced NoMemory)
          → ReplaysOne z.iface.facts z.ask z.parts v e id k (seat_of w client).call.client shown start r new later → KeepsPresent e new → IsTurn z e needed (seat_of w client).call.client v start r new later
      by_walk id k is_due shown its (Done Replayed) did present = record { id = id; k = k; is_due = is_due; shown = shown; its = its; did = did; present = present }
      by_walk id k is_due shown its (Done Struck) did present = record { id = id; k = k; is_due = is_due; shown = shown; its = its; did = did }
      by_walk id k is_due shown its (Done Loaded) did present = absurd did
      by_walk id k is_due shown its (Err error) did present = (did, present)

      by_load : missing e needed ≡ Some ToLoad → (key : List ℕ) → needed.file ≡ Some key → (r : Result Advanced NoMemory)
          → LoadsOne z.iface.facts v e (seat_of w client).call.client key start r new later → IsTurn z e needed (seat_of w client).call.client v start r new later
      by_load is_due key its (Done Loaded) did = record { is_due = is_due; key = key; its = its; did = did.0; unasked = did.1 }
      by_load is_due key its (Done Replayed) did = absurd did
      by_load is_due key its (Done Struck) did = absurd did
      by_load is_due key its (Err error) did = did

      by : (t : Todo) → todo ≡ t → IsTurn z e needed (seat_of w client).call.client v start result new later
      by (ToWalk id k) todo_is =
          let now : missing e needed ≡ Some (ToWalk id k) = due ∙ ap (λ t. Some t) todo_is in
          let ready = replayable z is.set w spelt.first spelt.others v e keeps_now engine_is (seat_of w client).call let_in_now id k now in
          let row = it z is.set w spelt.first spelt.others v e keeps_now engine_is (seat_of w client).call let_in_now id k now in
          let both = a.walk v id k (replayed_call z.iface.facts row.row (is_none row.done) row.fun) (running ∙ up) todo_is ready.its in
          by_walk id k now (replayed_call z.iface.facts row.row (is_none row.done) row.fun) ready.its result both.0 both.1
      by ToLoad todo_is =
          let now : missing e needed ≡ Some ToLoad = due ∙ ap (λ t. Some t) todo_is in
          let file = left_to_load z is.set (standing w spelt.first spelt.others (Some v)) e engine_is (seat_of w client).call now in
          by_load now file.0 file.1.file result (a.load v file.0 (running ∙ up) todo_is file.1.file)

  -- so by the engine's contract, which speaks of the service, of the client and of the file that it was given
  module _ (facts : Facts) (same : z.iface.facts ≡ facts) (file : Option (List ℕ)) (file_is : file ≡ needed.file) (todo : Todo) (due : missing e needed ≡ Some todo) where
    pub may_of : MayAdvance facts z.ask e file todo
    may_of = subst (λ f. MayAdvance f z.ask e file todo) same (subst (λ f. MayAdvance z.iface.facts z.ask e f todo) (sym file_is) (may todo due))

    pub turn_of : (start : Points) (result : Result Advanced NoMemory) (new : Engined) (later : Points) → Advances facts z.ask z.parts e client file todo start result new later
        → IsTurn z e needed (seat_of w client).call.client v start result new later
    turn_of start result new later a =
        turn todo due start result new later
        (subst (λ f. Advances f z.ask z.parts e (seat_of w client).call.client needed.file todo start result new later) (sym same)
        (subst (λ n. Advances facts z.ask z.parts e n needed.file todo start result new later) (sym own)
        (subst (λ f. Advances facts z.ask z.parts e client f todo start result new later) file_is a)))

  module _ (start : Points) (new : Engined) (later : Points) where
    -- the world keeps what it keeps
    keeps_on : (r : Result Advanced NoMemory) → IsTurn z e needed (seat_of w client).call.client v start r new later → KeepsPromise z (as_shown w new) (stub_of new)
    keeps_on (Done Replayed) t = replays_shown z is.set w spelt.first spelt.others v e keeps_now engine_is (seat_of w client).call let_in_now t.id t.k t.is_due t.shown t.its start new later t.did t.present run_now
    keeps_on (Done Struck) t = struck_shown z is.set w spelt.first spelt.others v e keeps_now engine_is (seat_of w client).call let_in_now t.id t.k t.is_due t.shown t.its start new later t.did run_now
    keeps_on (Done Loaded) t = loads_shown z is.set w spelt.first spelt.others v e keeps_now engine_is (seat_of w client).call let_in_now t.is_due t.key t.its start.asked new t.did run_now
    keeps_on (Err error) t = unchanged_shown z w e new start later is.keeps run running t.0 t.1

    pub advanced_on : new.tracked ≡ e.tracked → new.stored ≡ e.stored → (r : Result Advanced NoMemory) → IsTurn z e needed (seat_of w client).call.client v start r new later → IsWorld z new (as_shown w new) rooms
    advanced_on tracked stored r t = shown_on z e w rooms is new tracked stored (keeps_on r t)

    -- its points are those of the stops
    pub counts_on : w.run.points ≡ start.asked → struck_in w.run ≡ start.struck → (r : Result Advanced NoMemory) → IsTurn z e needed (seat_of w client).call.client v start r new later
        → (new.cell.run.points ≡ later.asked) × (struck_in new.cell.run ≡ later.struck)
    counts_on asked struck (Done Replayed) t = (
      ap (λ r. r.points) t.did.notes.run,
      ap struck_in t.did.notes.run ∙ stops_noted e.cell.run.boots (item_of_call (Walk t.id t.k (seat_of w client).call.client) t.shown (real_call e t.shown).desc later.asked (Replied (Ok t.did.good) t.did.patch))
          ∙ ap struck_in run ∙ struck ∙ sym t.did.notes.answers.struck,
    )
    counts_on asked struck (Done Struck) t =
        let item : Item = item_of_call (Walk t.id t.k (seat_of w client).call.client) t.shown (real_call e t.shown).desc later.asked Stopped in (
          ap (λ r. r.points) t.did.notes.run,
          ap struck_in (t.did.notes.run ∙ ap (λ (x : Run). with_stop (with_item x item later.asked) later.asked) run)
              ∙ stops_struck (noted w.run.boots item) later.asked (begun_noted w.run.boots item is.keeps.cell.begun) (stop_noted w.run.boots item ∙ not_stopped z e w rooms is v up)
              ∙ ap (λ l. l ++ later.asked ∷ []) (stops_noted w.run.boots item ∙ struck) ∙ sym t.did.notes.stops.struck,
        )
    counts_on asked struck (Done Loaded) t = (
      ap (λ r. r.points) t.did.run ∙ ap (λ p. p.asked) (sym t.unasked),
      ap struck_in t.did.run ∙ stops_noted e.cell.run.boots (item_of_load (seat_of w client).call.client start.asked t.key (bytes_of e.stored t.key)) ∙ ap struck_in run ∙ struck ∙ ap (λ p. p.struck) (sym t.unasked),
    )
    counts_on asked struck (Err error) t = (
      ap (λ r. r.points) (t.0.run ∙ run) ∙ asked ∙ ap (λ p. p.asked) (sym t.0.unasked),
      ap struck_in (t.0.run ∙ run) ∙ struck ∙ ap (λ p. p.struck) (sym t.0.unasked),
    )

    -- where there was no memory, nothing is shown otherwise
    pub nothing_on : IsUnchanged e start new later → as_shown w new ≡ w
    nothing_on t = ap (λ (r : Run). record w { run = r; running = new.cell.running }) (t.run ∙ run) ∙ ap (λ r. record w { running = r }) (t.running ∙ running)

    -- the lines, at the number of points before the last one was asked
    module _ (asked : ℕ) (points : w.run.points ≡ asked_after asked 1) (counted : w.run.points ≡ start.asked) where
      abbrev before : WorldView
      before = with_points w asked

      uses_now : UsesService z (with_points w asked) client v
      uses_now = record { let_in = record { phase = let_in.phase; passes = let_in.passes }; running = up }

      at_end : (item : Item) → IsNextItem (stubs_of z) w.history (unanswered w) (place_after [] (spelt.first ∷ spelt.others) item) → IsNextItem (stubs_of z) w.history (unanswered w) (place_after [] w.run.boots item)
      at_end item next = subst (λ l. IsNextItem (stubs_of z) w.history (unanswered w) (place_after [] l item)) (sym spelt.boots) next

      start_is : start.asked ≡ asked_after asked 1
      start_is = sym counted ∙ points

      replays_line : WasReplayed z e needed (seat_of w client).call.client v start new later → Replays z (with_points w asked) client (as_shown w new)
      replays_line t =
          let item : Item = item_of_call (Walk t.id t.k (seat_of w client).call.client) t.shown (real_call e t.shown).desc later.asked (Replied (Ok t.did.good) t.did.patch) in
          record {
            service = v;
            uses = uses_now;
            id = t.id;
            k = t.k;
            is_due = due_is z e w rooms is v up (seat_of w client).call ∙ t.is_due;
            item = item;
            tag = ap (λ n. Walk t.id t.k n) own;
            outcome = refl;
            noted = record {
              next = at_end item (replays_next z is.set w spelt.first spelt.others v e keeps_now engine_is (seat_of w client).call let_in_now t.id t.k t.is_due t.shown t.its start new later t.did t.present);
              points = reply_next asked start.asked (z.parts t.shown.fun) later.asked start_is t.did.notes.answers.asked;
            };
            now = ap (λ (r : Run). record w { run = r; running = new.cell.running }) (t.did.notes.run ∙ ap (λ (x : Run). with_item x item later.asked) run)
                ∙ ap (λ r. record w { run = with_item w.run item later.asked; running = r }) t.did.notes.running;
          }

      loads_line : WasLoaded z e needed (seat_of w client).call.client v start new later → Loads z (with_points w asked) client (as_shown w new)
      loads_line t =
          let item : Item = item_of_load (seat_of w client).call.client start.asked t.key (bytes_of e.stored t.key) in
          record {
            service = v;
            uses = uses_now;
            is_due = due_is z e w rooms is v up (seat_of w client).call ∙ t.is_due;
            item = item;
            key = t.key;
            tag = ap (λ n. Load t.key n) own;
            outcome = refl;
            noted = record {
              next = at_end item (loads_next z is.set w spelt.first spelt.others v e keeps_now engine_is (seat_of w client).call let_in_now t.is_due t.key t.its start.asked);
              points = start_is;
            };
            now = ap (λ (r : Run). record w { run = r; running = new.cell.running }) (t.did.run ∙ ap (λ (x : Run). with_item x item start.asked) run)
                ∙ ap (λ r. record w { run = with_item w.run item start.asked; running = r })
                (t.did.running ∙ ap (λ b. Some (if b then record v { files = set_file v.files t.key (bytes_of e.stored t.key) } else v)) ((may ToLoad t.is_due).load refl));
          }

      strikes_line : WasStruck z e needed (seat_of w client).call.client v start new later → StopsReplay z (with_points w asked) client (as_shown w new)
      strikes_line t =
          let item : Item = item_of_call (Walk t.id t.k (seat_of w client).call.client) t.shown (real_call e t.shown).desc later.asked Stopped in
          let folded : IsUp z.iface.facts w.run.boots v = subst (IsRunning z.iface.facts w.run.boots) up is.keeps.cell.runs in
          let answered : answer_to z.iface.facts z.ask (last_items w.run.boots) item ≡ Some t.did.notes.stops.reply = ap (λ o. z.ask o (real_call e t.shown)) (sym folded.folded) ∙ t.did.notes.stops.answered in
          record {
            service = v;
            uses = uses_now;
            id = t.id;
            k = t.k;
            is_due = due_is z e w rooms is v up (seat_of w client).call ∙ t.is_due;
            item = item;
            tag = ap (λ n. Walk t.id t.k n) own;
            outcome = refl;
            noted = record {
              next = at_end item (struck_next z is.set w spelt.first spelt.others v e keeps_now engine_is (seat_of w client).call let_in_now t.id t.k t.is_due t.shown t.its later.asked);
              points = subst (λ x. IsPointOfCall true z.parts asked x t.shown.fun Stopped later.asked) (sym answered)
                  (stop_at z.parts asked start.asked later.asked t.shown.fun t.did.notes.stops.reply (real_call e t.shown) refl start_is t.did.notes.stops.first t.did.notes.stops.last t.did.notes.counted);
            };
            now = ap (λ (r : Run). record w { run = r; running = new.cell.running }) (t.did.notes.run ∙ ap (λ (x : Run). with_stop (with_item x item later.asked) later.asked) run)
                ∙ ap (λ r. record w { run = with_stop (with_item w.run item later.asked) later.asked; running = r }) t.did.notes.running;
          }

      -- the line of what was done
      pub line_of : (did : Advanced) → IsTurn z e needed (seat_of w client).call.client v start (Done did) new later → Steps z (with_points w asked) client (step_of did) (as_shown w new)
      line_of Replayed t = replays_line t
      line_of Loaded t = loads_line t
      line_of Struck t = inr (inl (strikes_line t))
