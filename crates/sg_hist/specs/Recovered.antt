-- What it means that a run recovers: seven things that hold of its history, of what its trace tells, and of the calls that aren't
-- answered in it.
use Rattle.std.specs.Prelude.{ℕ, ◌≡◌, ◌≢◌, ◌⊎◌, ◌+◌, ◌-◌, ◌≤◌, ◌==◌, Bool, true, false, ◌&&◌, ◌||◌, not, nat_le, nat_lt, if◌then◌else◌, List, [], ◌∷◌, ◌++◌, None, Some, IsSome, length, filter, find, map, slice_get, unwrap_or, IfSome, IsSomeAnd}
use Rattle.std.specs.declared.option.Option.{Option}
use Rattle.std.specs.Option.{option_and_then, option_map, option_map_or}
use Rattle.std.specs.List.{Contains, flat_map, list_all, list_any, fold, last_or}
use Rattle.sg_facts.specs.sg_base.Lists.{Each, When}
use Rattle.sg_facts.specs.sg_base.Stops.{asked_after}
use Rattle.sg_facts.specs.sg_base.declared.call.Call.{Call}
use Rattle.sg_facts.specs.sg_base.declared.reply.Reply.{Reply}
use Rattle.sg_facts.specs.sg_base.declared.reply.Reply.TheVariants.{Ok, Refused}
use Rattle.std.specs.Str.{bytes_eq}
use Rattle.sg_facts.specs.declared.entry.Entry.{Entry}
use Rattle.sg_facts.specs.declared.outcome.Outcome.{Outcome}
use Rattle.sg_facts.specs.declared.outcome.Outcome.TheVariants.{Replied, Blocks, Stopped, NoMemory}
use Rattle.sg_facts.specs.declared.row.Row.{Row}
use Rattle.sg_facts.specs.declared.tables.WalkLine.{WalkLine}
use Rattle.sg_facts.specs.declared.trace.Item.{Item}
use Rattle.sg_facts.specs.declared.trace.Tag.{Tag}
use Rattle.sg_facts.specs.declared.trace.Tag.TheVariants.{Walk, Load, Client}
use Rattle.sg_facts.specs.Alike.{IsAlike, SameFile, named}
use Rattle.sg_facts.specs.Facts.{Facts, is_visible}
use Rattle.sg_facts.specs.Guard.{guard}
use Rattle.sg_facts.specs.Interface.{Declared}
use Rattle.sg_facts.specs.Legal.{Table}
use Rattle.sg_facts.specs.Loads.{load_item}
use Rattle.sg_facts.specs.Needs.{is_needed, needs, wanted}
use Rattle.sg_facts.specs.Object.{Object, file_at, object_of, patch_of}
use Rattle.sg_facts.specs.Trace.{Boot, Run}
use Rattle.sg_facts.specs.Track.{row_at}
use Rattle.sg_facts.specs.Walks.{replayed_call}
use Rattle.sg_hist.specs.declared.ended.End.{End}
use Rattle.sg_hist.specs.declared.ended.End.TheVariants.{Done, Blocked}
use Rattle.sg_hist.specs.Reading.{Position, items_after, is_by_guard, is_made, is_item_of, is_whole_at, item_of, names_at, object_before, places_of, service_call, stands_before, value_at, walk_in}

-- ---- the calls of clients

-- whether a client waits at its end
abbrev pub is_blocked : End → Bool
is_blocked end = elim end [ Done ↦ false | Blocked call ↦ true ]

-- the calls in which clients wait
abbrev pub waiting : List (ℕ × End) → List Call
waiting ends = flat_map (λ e. elim e.1 [ Done ↦ [] | Blocked call ↦ call ∷ [] ]) ends

-- a call is one that a client made: that of an entry, or one that isn't answered. In a run that ended the latter are the calls in which
-- clients wait
pub record IsCallOf (history : List Entry) (unanswered : List Call) (client : ℕ) (call : Call) : Type 0 where
  pub its : call.client ≡ client
  pub made : Contains (map (λ e. e.call) history ++ unanswered) call

-- ---- reboots

-- the service answered by its table, from what it held in this boot: no item has a reply that a fresh service, asked the same
-- calls since its boot, wouldn't give, and it stopped only within a call that it would have answered
abbrev pub IsByTable : Facts → Table → Object → Call → Outcome → Type 0
IsByTable facts ask held call (Replied reply patch) = (ask held call ≡ Some reply) × (patch ≡ patch_of facts held call reply)
IsByTable facts ask held call Blocks = ask held call ≡ None
IsByTable facts ask held call Stopped = IsSome (ask held call)
IsByTable facts ask held call NoMemory = ⊥

-- each boot but the last was stopped
abbrev pub AreStopped : List Boot → Type 0
AreStopped [] = Unit {0}
AreStopped (b ∷ []) = Unit {0}
AreStopped (b ∷ c ∷ boots) = IsSome b.stop × AreStopped (c ∷ boots)

-- there is a boot, and each is of a fresh service: its answers are those of its table since the boot, the next boot comes only
-- after a stop, and nothing is asked after a stop
pub record IsRebooted (facts : Facts) (ask : Table) (run : Run) : Type 0 where
  pub booted : run.boots ≢ []
  pub table : Each (λ p. elim p.item.tag [ Load key client ↦ Unit {0} | _ ↦ IsByTable facts ask (value_at facts p.front) (service_call p.item) p.item.outcome ])
      (places_of run)
  pub stopped : AreStopped run.boots
  pub last : Each (λ p. elim p.item.outcome [ Stopped ↦ p.rest ≡ [] | _ ↦ Unit {0} ]) (places_of run)

-- ---- served

-- a reply of the service is that of the entry, under the client's ids; a descriptor is 0 for none
abbrev pub IsRenamed : List (ℕ × ℕ) → Reply → Reply → Type 0
IsRenamed names (Ok real) (Ok good) = (good.words ≡ real.words) × (good.bytes ≡ real.bytes) × ((if real.desc == 0 then good.desc == 0 else named names good.desc == real.desc) ≡ true)
IsRenamed names (Refused real) (Refused code) = code ≡ real
IsRenamed names _ _ = ⊥

-- an outcome is the reply of an entry, under the client's ids
abbrev pub IsReplyOf : List (ℕ × ℕ) → Outcome → Reply → Type 0
IsReplyOf names outcome reply = elim outcome as (λ o. Type 0) [ Replied real patch ↦ IsRenamed names real reply | _ ↦ ⊥ ]

-- whether the service replied
abbrev pub is_replied : Outcome → Bool
is_replied outcome = elim outcome [ Replied reply patch ↦ true | _ ↦ false ]

-- whether an item is of a client's call
abbrev pub is_clients : Tag → Bool
is_clients tag = elim tag [ Client client seq ↦ true | _ ↦ false ]

-- whether an item is of a client's visible call that replied
abbrev pub is_visible_reply : Facts → Item → Bool
is_visible_reply facts item = is_clients item.tag && is_visible facts item.shown.fun && is_replied item.outcome

-- whether an item is that of an entry: it is of its call, and no later one is
abbrev pub is_entered : List Entry → Position → Bool
is_entered history p = list_any (λ e. not (is_by_guard e.reply) && is_item_of e p.item && not (list_any (is_item_of e) (items_after p))) history

-- the items of visible calls stand in the order of the history: after those of the entries before
abbrev pub AreInOrder : Facts → Run → List Entry → List Entry → Type 0
AreInOrder facts run earlier [] = Unit {0}
AreInOrder facts run earlier (e ∷ later) =
    When (is_visible facts e.call.fun && not (is_by_guard e.reply))
    (IfSome (item_of run e) (λ p. list_all (λ before. is_by_guard before.reply || stands_before p before) earlier ≡ true))
    × AreInOrder facts run (earlier ++ e ∷ []) later

-- clients are served
pub record IsServed (facts : Facts) (history : List Entry) (run : Run) (unanswered : List Call) : Type 0 where
  -- the item of a client is its call of that number: no call is served that nobody made
  pub calls : Each (λ p. elim p.item.tag [ Client client seq ↦ IsCallOf history unanswered client p.item.shown × (p.item.shown.seq ≡ seq) | _ ↦ Unit {0} ])
      (places_of run)
  -- an entry has its item, with its call and its reply, unless the guard refused its call: no reply is given that the service didn't give
  pub items : Each (λ e. When (not (is_by_guard e.reply)) (IsSomeAnd (item_of run e) (λ p. (p.item.shown ≡ e.call)
      × IsReplyOf (names_at facts history (p.front ++ p.item ∷ [])) p.item.outcome e.reply))) history
  -- a visible reply is committed: none is given twice, and none is lost
  pub committed : Each (λ p. When (is_visible_reply facts p.item) (is_entered history p ≡ true)) (places_of run)
  -- visible items stand in the order of the history
  pub order : AreInOrder facts run [] history

-- ---- walks

-- a row is rebuilt by the next call of its shortest walk, from its present values, once its parent is whole
pub record IsNextCall (facts : Facts) (walks : List WalkLine) (history : List Entry) (p : Position) (id k : ℕ) (r : Row) : Type 0 where
  pub unmade : list_any (is_made facts history id) p.front ≡ false
  pub next : length (filter (λ item. elim item.tag [ Walk i j client ↦ i == id | _ ↦ false ]) p.front) + 1 ≡ k
  pub parent : (r.parent == 0) || is_whole_at facts walks history p r.parent ≡ true
  pub call : option_and_then (λ walk. option_map (replayed_call facts r (k == 1)) (slice_get walk (k - 1))) (walk_in walks (Some r)) ≡ Some p.item.shown
  pub real : p.item.real ≡ named (names_at facts history p.front) p.item.shown.desc
  -- it is answered Ok, or the service stopped in it
  pub outcome : elim p.item.outcome as (λ outcome. Type 0) [ Replied (Ok good) patch ↦ Unit {0} | Stopped ↦ Unit {0} | _ ↦ ⊥ ]

-- ---- on demand

-- whether a client's entries that were answered before a place have smaller numbers than this, where a test tells whose items stand before
-- the place: the item of such an entry does, or that of a visible one after it in the history, which was answered with its item
abbrev pub is_above_earlier : Facts → (Entry → Bool) → ℕ → ℕ → List Entry → Bool
is_above_earlier facts before client seq [] = true
is_above_earlier facts before client seq (e ∷ later) =
    (not ((e.call.client == client) && (before e || list_any (λ x. is_visible facts x.call.fun && before x) later)) || nat_lt e.call.seq seq) && is_above_earlier facts before client seq later

-- whether the item of an entry doesn't stand before a place, so that it was answered later
abbrev pub is_answered_later : (Entry → Bool) → Entry → Bool
is_answered_later before e = not (is_by_guard e.reply || before e)

-- whether from the first entry on that was answered later than a place, or where one was before, a client's entries have no smaller
-- numbers than this
abbrev pub is_first_of_later : (Entry → Bool) → ℕ → ℕ → Bool → List Entry → Bool
is_first_of_later before client seq late [] = true
is_first_of_later before client seq late (e ∷ history) =
    (not ((e.call.client == client) && (late || is_answered_later before e)) || nat_le seq e.call.seq)
    && is_first_of_later before client seq (late || is_answered_later before e) history

-- a client's call that is under way at a place, where a test tells whose items stand before it: its number is above those that were answered
-- before, and not above those that are answered later. A refusal by the guard has no item: its time is that of the entries around it
pub record IsUnderWay (facts : Facts) (history : List Entry) (unanswered : List Call) (before : Entry → Bool) (client : ℕ) (call : Call) : Type 0 where
  pub its : IsCallOf history unanswered client call
  pub above : is_above_earlier facts before client call.seq history ≡ true
  pub first : is_first_of_later before client call.seq false history ≡ true

-- a client's call is admitted at a place: it is under way there, and the guard lets it pass at the object of the entries before the place
pub record IsAdmitted (i : Declared) (history : List Entry) (unanswered : List Call) (before : Entry → Bool) (client : ℕ) (call : Call) : Type 0 where
  pub under_way : IsUnderWay i.facts history unanswered before client call
  pub guarded : guard i (object_of i.facts (filter before history)) call ≡ None

-- the item of a load of a file, for a client
abbrev pub item_of_load : ℕ → ℕ → List ℕ → List ℕ → Item
item_of_load client points key bytes = load_item (record { client = client; points = points; file = record { key = key; from = 0; bytes = bytes } })

-- what is rebuilt is wanted for an admitted call of the client in whose turn it is rebuilt, and is the least that isn't whole
pub record IsRebuiltFor (i : Declared) (walks : List WalkLine) (history : List Entry) (unanswered : List Call) (p : Position) (client id : ℕ) : Type 0 where
  pub call : Call
  pub admitted : IsAdmitted i history unanswered (stands_before p) client call
  pub least : find (λ id. not (is_whole_at i.facts walks history p id)) (wanted i (object_before i.facts history p) call).ids ≡ Some id

-- what is loaded is needed, once all wanted rows are whole, isn't empty, and isn't in this boot yet; and the item is just its load
pub record IsLoadedFor (i : Declared) (walks : List WalkLine) (history : List Entry) (unanswered : List Call) (p : Position) (client : ℕ) (key : List ℕ) : Type 0 where
  pub call : Call
  pub admitted : IsAdmitted i history unanswered (stands_before p) client call
  pub rows : list_all (is_whole_at i.facts walks history p) (wanted i (object_before i.facts history p) call).ids ≡ true
  pub file : (needs i.facts (object_before i.facts history p) call).file ≡ Some key
  -- no item brought the file into this boot: no load of it, and no write that was committed
  pub absent : list_any (λ item. elim item.outcome [ Replied reply patch ↦ option_map_or (λ q. bytes_eq q.key key) patch false | _ ↦ false ]) p.front ≡ false
  pub some : file_at (object_before i.facts history p).files key ≢ []
  pub load : p.item ≡ item_of_load client p.item.points key (file_at (object_before i.facts history p).files key)

-- ---- tracked state

-- when a client's call reaches the service, all that is wanted for it is whole there, and all that it needs is as it is tracked
pub record IsTracked (i : Declared) (walks : List WalkLine) (history : List Entry) (p : Position) : Type 0 where
  pub whole : list_all (is_whole_at i.facts walks history p) (wanted i (object_before i.facts history p) p.item.shown).ids ≡ true
  -- the service has a row for each that is needed, and it is as that is
  pub rows : Each (λ r. IsSomeAnd (row_at (value_at i.facts p.front).rows (named (names_at i.facts history p.front) r.id)) (IsAlike (names_at i.facts history p.front) r))
      (filter (is_needed i.facts (object_before i.facts history p).rows p.item.shown) (object_before i.facts history p).rows)
  pub real : p.item.real ≡ named (names_at i.facts history p.front) p.item.shown.desc
  pub file : SameFile (object_before i.facts history p) (value_at i.facts p.front) p.item.shown.desc p.item.real (needs i.facts (object_before i.facts history p) p.item.shown).file

-- ---- points

-- a number of points is a sum, which stands still at the greatest count. It is only at least the sum where it isn't exact: where
-- points were asked by a step that then got no memory, and asked them again
abbrev pub IsCount : Bool → ℕ → ℕ → Type 0
IsCount true points sum = points ≡ sum
IsCount false points sum = sum ≤ points

-- the number of a call's last point, where so many were asked before: one for the use of the service; then the parts of an Ok and one
-- for the reply. Where the service stopped in the call, it did so at a point of what would have been answered: of an Ok at one of its
-- parts or at the one for its reply, of a refusal at the one for its reply
abbrev pub IsPointOfCall : Bool → (ℕ → ℕ) → ℕ → Option Reply → ℕ → Outcome → ℕ → Type 0
IsPointOfCall exact parts asked answer fun (Replied (Ok good) patch) points = IsCount exact points (asked_after asked (2 + parts fun))
IsPointOfCall exact parts asked answer fun (Replied (Refused code) patch) points = IsCount exact points (asked_after asked 2)
IsPointOfCall exact parts asked answer fun Blocks points = IsCount exact points (asked_after asked 1)
IsPointOfCall exact parts asked (Some (Ok good)) fun Stopped points = (asked_after asked 2 ≤ points) × When exact (points ≤ asked_after asked (2 + parts fun))
IsPointOfCall exact parts asked (Some (Refused code)) fun Stopped points = IsCount exact points (asked_after asked 2)
IsPointOfCall exact parts asked answer fun _ points = ⊥

-- how many points were asked after an item: one more where a visible call was committed
abbrev pub asked_with_commit : Facts → Item → ℕ
asked_with_commit facts item = if is_visible_reply facts item then asked_after item.points 1 else item.points

-- the points of the items of a boot, one after the other, after others of it, where so many were asked before; a load has one, for
-- the use of the service
abbrev pub ArePoints : Bool → Facts → Table → (ℕ → ℕ) → ℕ → List Item → List Item → Type 0
ArePoints exact facts ask parts asked front [] = Unit {0}
ArePoints exact facts ask parts asked front (item ∷ items) =
    let answer : Option Reply = ask (value_at facts front) (service_call item) in
    elim item.tag [ Load key client ↦ IsCount exact item.points (asked_after asked 1) | _ ↦ IsPointOfCall exact parts asked answer item.shown.fun item.outcome item.points ]
    × ArePoints exact facts ask parts (asked_with_commit facts item) (front ++ item ∷ []) items

-- how many points were asked after the items of a boot
abbrev pub asked_in : Facts → ℕ → List Item → ℕ
asked_in facts asked items = fold (λ n item. asked_with_commit facts item) asked items

-- whether the service stopped within the last item of a boot
abbrev pub ends_stopped : List Item → Bool
ends_stopped items = option_map_or (λ item. elim item.outcome [ Stopped ↦ true | _ ↦ false ]) (last_or None items) false

-- whether the last item of a boot is a visible reply
abbrev pub ends_committed : Facts → List Item → Bool
ends_committed facts items = option_map_or (is_visible_reply facts) (last_or None items) false

-- a boot stopped at its last point: that of the item that stopped; that of the commit before; or the next, at which the service
-- was about to be used
abbrev pub IsStopOf : Bool → Facts → List Item → ℕ → Option ℕ → Type 0
IsStopOf exact facts items asked None = ends_stopped items ≡ false
IsStopOf exact facts items asked (Some stop) =
    ((ends_stopped items || ends_committed facts items ≡ true) × (stop ≡ asked)) ⊎ ((ends_stopped items ≡ false) × IsCount exact stop (asked_after asked 1))

-- the points of a run, boot by boot, where so many were asked before: each item has its points, each stop is at the last point
-- asked, and the sum is the run's number of points
abbrev pub ArePointsOf : Bool → Facts → Table → (ℕ → ℕ) → ℕ → List Boot → ℕ → Type 0
ArePointsOf exact facts ask parts asked [] points = IsCount exact points asked
ArePointsOf exact facts ask parts asked (b ∷ boots) points =
    ArePoints exact facts ask parts asked [] b.items
    × IsStopOf exact facts b.items (asked_in facts asked b.items) b.stop
    × ArePointsOf exact facts ask parts (unwrap_or b.stop (asked_in facts asked b.items)) boots points

-- the points at which the service stopped, boot by boot
abbrev pub struck_in : Run → List ℕ
struck_in run = flat_map (λ b. option_map_or (λ stop. stop ∷ []) b.stop []) run.boots

-- ---- held replies

-- how many items stand in the boots before that in which an entry was replied, or as many as before where it has no item: a refusal by
-- the guard stands in no boot
abbrev pub start_of : Run → Entry → ℕ → ℕ
start_of run e low = if is_by_guard e.reply then low else option_map_or (λ p. length p.older) (item_of run e) low

-- whether a boot stopped right after the commit of an entry: its last item is the entry's visible reply, and it stopped before the point at
-- which the service would have been used next
abbrev pub is_stopped_after : Facts → Entry → Boot → Bool
is_stopped_after facts e b =
    option_map_or (λ item. is_item_of e item && is_visible_reply facts item && option_map_or (λ stop. nat_lt stop (asked_after item.points 2)) b.stop false) (last_or None b.items) false

-- as many items, for the entries that follow: one more, and so past the entry's boot, where the service stopped right after its commit, since
-- the replies that were held then are lost
abbrev pub start_after : Facts → Run → Entry → ℕ → ℕ
start_after facts run e low = if not (is_by_guard e.reply) && list_any (is_stopped_after facts e) run.boots then start_of run e low + 1 else start_of run e low

-- along a history the boots of the entries' items never go back: a held reply is committed in the boot in which it was given, before the
-- service stops
abbrev pub AreInBoots : Facts → Run → ℕ → List Entry → Type 0
AreInBoots facts run low [] = Unit {0}
AreInBoots facts run low (e ∷ history) = (low ≤ start_of run e low) × AreInBoots facts run (start_after facts run e low) history

-- ---- a run recovers

-- an interface of a service and the service's table, the number of parts of an Ok of each of its functions, and the walks of its
-- stubs
pub record Stubs : Type 0 where
  pub interface : Declared
  pub ask : Table
  pub parts : ℕ → ℕ
  pub walks : List WalkLine

-- a run recovers, where the clients made these calls that aren't answered in it
pub record IsRecovered (s : Stubs) (history : List Entry) (run : Run) (unanswered : List Call) : Type 0 where
  -- no reply of the service is another than a fresh one would give that was asked the same since its boot; nothing is asked of one
  -- that stopped; none is booted that didn't stop
  pub reboots : IsRebooted s.interface.facts s.ask run
  -- no call is served that nobody made, or once more than it is answered; no reply is given that the service didn't give; no effect
  -- that others saw is lost or comes out of its order
  pub served : IsServed s.interface.facts history run unanswered
  -- no row is rebuilt by other calls, from other values, for another caller or before its parent
  pub walks : Each (λ p. elim p.item.tag [
    | Walk id k client ↦ IsSomeAnd (row_at (object_before s.interface.facts history p).rows id) (IsNextCall s.interface.facts s.walks history p id k)
    | _ ↦ Unit {0}
  ])
      (places_of run)
  -- no row and no file is brought back that no call wants then, or that is there; no call is served out of its client's order, or
  -- that the guard refuses
  pub on_demand : Each (λ p. elim p.item.tag [
    | Walk id k client ↦ IsRebuiltFor s.interface s.walks history unanswered p client id
    | Load key client ↦ IsLoadedFor s.interface s.walks history unanswered p client key
    | Client client seq ↦ IsAdmitted s.interface history unanswered (stands_before p) client p.item.shown
  ])
      (places_of run)
  -- no call reaches the service where what it needs is missing there, or isn't as it is tracked
  pub tracked_state : Each (λ p. elim p.item.tag [ Client client seq ↦ IsTracked s.interface s.walks history p | _ ↦ Unit {0} ]) (places_of run)
  -- no point is left out or asked twice, and no stop is at another than the last that was asked
  pub points : ArePointsOf true s.interface.facts s.ask s.parts 0 run.boots run.points
  -- no reply that was held when the service stopped is committed afterwards
  pub held : AreInBoots s.interface.facts run 0 history
