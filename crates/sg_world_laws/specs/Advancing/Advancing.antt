-- An item more in a world: what it has to be, what stands after it, and the world then.
use Rattle.std.specs.List.{list_any}
use Rattle.std.specs.Prelude.{List, None, Some, [], false, find, length, not, true, ℕ, ◌++◌, ◌+◌, ◌<◌, ◌==◌, ◌||◌, ◌∷◌, ◌≡◌, ◌≢◌, ◌≤◌, ◌⊎◌}
use Rattle.std.specs.Str.{bytes_eq}
use Rattle.sg_facts.specs.sg_base.declared.call.Call.{Call}
use Rattle.sg_facts.specs.sg_base.declared.reply.Good.{Good}
use Rattle.sg_facts.specs.sg_base.declared.reply.Reply.TheVariants.{Ok}
use Rattle.sg_facts.specs.Alike.{named}
use Rattle.sg_facts.specs.Facts.{Facts, fun_at}
use Rattle.sg_facts.specs.Kinds.{MayAsk}
use Rattle.sg_facts.specs.Laws.{is_none, names_after, next_call}
use Rattle.sg_facts.specs.Needs.{is_wanted, needs, wanted}
use Rattle.sg_facts.specs.Object.{Object, file_at, object_of, patch_of}
use Rattle.sg_facts.specs.Inside.Rows.{object_from}
use Rattle.sg_facts.specs.Track.{is_live, row_at}
use Rattle.sg_facts.specs.Walks.{replayed_call}
use Rattle.sg_facts.specs.declared.entry.Entry.{Entry}
use Rattle.sg_facts.specs.declared.row.Row.{Row}
use Rattle.sg_facts.specs.declared.tables.WalkLine.{WalkLine}
use Rattle.sg_facts.specs.declared.trace.Item.{Item}
use Rattle.sg_facts.specs.declared.trace.Tag.TheVariants.{Walk}
use Rattle.sg_recovery_laws.specs.sg_hist.Reading.{is_made, last_items, older_items, walk_in}
use Rattle.sg_recovery_laws.specs.sg_hist.Inside.Reads.{is_rebuilt_at, names_in}
use Rattle.sg_recovery_laws.specs.sg_hist.Recovered.{item_of_load}
use Rattle.sg_recovery_laws.specs.sg_hist.Inside.Parts.{call_in, is_walk_of}
use Rattle.sg_recovery_laws.specs.sg_hist.Growing.{IsNextItem, IsOfNoEntry, noted, place_after, struck}
use Rattle.sg_recovery_laws.specs.Midway.Numbers.{AreNumbers}
use Rattle.sg_recovery_laws.specs.Midway.Progress.{IsInRecovery, TellsCalls, complete, fresh, is_complete}
use Rattle.sg_recovery_laws.specs.Midway.Stepping.{told_after}
use Rattle.sg_recovery_laws.specs.LastItem.LastPlace.{last_place}
use Rattle.sg_recovery_laws.specs.LastItem.Told.{IsRead}
use Rattle.sg_clients.specs.WorldView.{Seat, WorldView, held_replies, unanswered}
use Rattle.sg_world_laws.specs.Keeping.{AreDrawn, IsRebuiltFirst, Stub}
use Rattle.sg_world_laws.specs.Setting.{Setting, stubs_of}

-- an item owes nothing where it is noted: it is of no entry, and all that is asked of it holds
pub record IsDue (z : Setting) (w : WorldView) (item : Item) (es : List Entry) : Type 0 where
  pub none : IsOfNoEntry item (w.history ++ es)
  pub next : IsNextItem (stubs_of z) (w.history ++ es) (unanswered w) (place_after [] w.run.boots item)

-- whichever held replies are committed first
abbrev pub IsEverDue : Setting → WorldView → Item → Type 0
IsEverDue z w item = (es : List Entry) → AreDrawn (held_replies w) es → IsDue z w item es

-- what stands of a service after an item more, and what the stubs tell then
pub record StandsAfter (z : Setting) (w : WorldView) (item : Item) (stub : Stub) (v : Object) : Type 0 where
  pub numbers : AreNumbers z.iface.facts stub.told (length w.history) (object_from z.iface.facts (object_of z.iface.facts w.history) (held_replies w)) v
  pub named_live : (id : ℕ) → (named stub.names id ≡ 0) ⊎ (is_live (object_of z.iface.facts w.history).rows id ≡ true)
  pub in_recovery : IsInRecovery z.iface z.walks stub.names stub.told stub.present (object_from z.iface.facts (object_of z.iface.facts w.history) (held_replies w)) v
  pub read : (es : List Entry) → AreDrawn (held_replies w) es
      → IsRead z.iface.facts z.walks (w.history ++ es) (older_items [] w.run.boots) (last_items w.run.boots ++ item ∷ []) stub.names stub.told stub.present (object_of z.iface.facts w.history).rows
  pub unnamed : (es : List Entry) → AreDrawn (held_replies w) es → (id : ℕ) → (object_of z.iface.facts w.history).given < id
      → list_any (λ n. n.0 == id) (names_in z.iface.facts (w.history ++ es) item.shown.fun item.tag item.outcome) ≡ false
  pub rebuilt : IsRebuiltFirst z (held_replies w) stub.told (object_of z.iface.facts w.history).rows

-- a world with an item more, so many points asked, and its service and its seats then
abbrev pub with_noted : WorldView → Item → ℕ → Object → List Seat → WorldView
with_noted w item points v seats = record w { run = record { boots = noted w.run.boots item; points = points }; running = Some v; seats = seats }

-- the service stopped within the call of an item
abbrev pub stopped_within : WorldView → Item → ℕ → ℕ → WorldView
stopped_within w item points stop = record w { run = record { boots = struck (noted w.run.boots item) stop; points = points }; running = None }

-- ---- a row is rebuilt

-- the first row that is wanted for a call and that isn't whole
abbrev pub IsFirstLeft : Setting → WorldView → Stub → Call → ℕ → Type 0
IsFirstLeft z w stub call id = find (λ a. not (is_complete (stub.told a))) (wanted z.iface (object_of z.iface.facts w.history) call).ids ≡ Some id

-- so much of the walk of an id's row is done, as is told, and this function is the next
pub record IsNextOf (z : Setting) (w : WorldView) (stub : Stub) (id : ℕ) (row : Row) (done rest : List ℕ) (fun : ℕ) : Type 0 where
  pub there : row_at (object_of z.iface.facts w.history).rows id ≡ Some row
  pub walk : walk_in z.walks (Some row) ≡ Some (done ++ fun ∷ rest)
  pub told : TellsCalls (stub.told id) (length done)

-- the row of an id isn't whole, and may be rebuilt by the next call of its walk: the service may be asked it under its ids, answers Ok,
-- and writes no file; and the first call of a walk is a creation, which gives the service's next id
pub record IsRebuildable (z : Setting) (w : WorldView) (stub : Stub) (v : Object) (id : ℕ) : Type 0 where
  pub row : Row
  pub done : List ℕ
  pub rest : List ℕ
  pub fun : ℕ
  pub its : IsNextOf z w stub id row done rest fun
  pub part : is_complete (stub.told id) ≡ false
  pub begun : stub.told id ≡ fresh → done ≡ []
  pub shown : call_in z.iface.facts row (length done + 1) (walk_in z.walks (Some row)) ≡ Some (replayed_call z.iface.facts row (is_none done) fun)
  pub fields : length row.fields ≤ 8
  pub may : MayAsk z.iface.facts v (next_call z.iface.facts stub.names row done fun)
  pub good : Good
  pub answered : z.ask v (next_call z.iface.facts stub.names row done fun) ≡ Some (Ok good)
  pub unwritten : patch_of z.iface.facts v (next_call z.iface.facts stub.names row done fun) (Ok good) ≡ None
  pub first : done ≡ [] → ((fun_at z.iface.facts.funs fun).creation ≡ true) × (good.desc ≡ v.given + 1)

-- an item is of this call, in the turn of a client
pub record IsReplayItem (facts : Facts) (stub : Stub) (id client : ℕ) (row : Row) (done : List ℕ) (fun : ℕ) (item : Item) : Type 0 where
  pub tag : item.tag ≡ Walk id (length done + 1) client
  pub shown : item.shown ≡ replayed_call facts row (is_none done) fun
  pub real : item.real ≡ named stub.names item.shown.desc

-- what the stubs tell after the call
abbrev pub replayed_stub : Stub → ℕ → Row → List ℕ → List ℕ → Good → Stub
replayed_stub stub id row done rest good = record { names = names_after stub.names row done good; told = told_after stub.told id done rest; present = stub.present }

-- ---- a file is loaded

-- a file is to be loaded for a call: all rows that are wanted for it are whole, its file isn't in this boot yet, and isn't empty
pub record IsLeftToLoad (z : Setting) (w : WorldView) (stub : Stub) (call : Call) (key : List ℕ) : Type 0 where
  pub rows : (r : Row) → row_at (object_of z.iface.facts w.history).rows r.id ≡ Some r → is_wanted z.iface (object_of z.iface.facts w.history).rows call r ≡ true → stub.told r.id ≡ complete
  pub file : (needs z.iface.facts (object_of z.iface.facts w.history) call).file ≡ Some key
  pub absent : stub.present key ≡ false
  pub some : file_at (object_of z.iface.facts w.history).files key ≢ []

-- an item is of its load, in the turn of a client
abbrev pub IsLoadItem : ℕ → List ℕ → List ℕ → Item → Type 0
IsLoadItem client key bytes item = item ≡ item_of_load client item.points key bytes

-- what the stubs tell after it
abbrev pub loaded_stub : Stub → List ℕ → Stub
loaded_stub stub key = record { names = stub.names; told = stub.told; present = λ path. stub.present path || bytes_eq key path }

-- ---- items that give nothing

-- an item gives no name, makes nothing whole, and is no call of a walk
pub record GivesNothing (facts : Facts) (walks : List WalkLine) (older front : List Item) (item : Item) : Type 0 where
  pub unmade : (history : List Entry) (id : ℕ) → is_made facts history id item ≡ false
  pub no_walk : (id : ℕ) → is_walk_of id item.tag ≡ false
  pub unbuilt : (history : List Entry) (id : ℕ) → is_rebuilt_at facts walks history id (last_place older front item) ≡ false
  pub no_name : (history : List Entry) → names_in facts history item.shown.fun item.tag item.outcome ≡ []
