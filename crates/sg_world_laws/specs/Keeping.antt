-- What a world keeps after every event.
use Rattle.std.specs.Prelude.{ℕ, ◌≡◌, ◌≢◌, ◌⊎◌, ◌+◌, ◌<◌, ◌≤◌, ◌==◌, Bool, false, true, List, ◌∷◌, ◌++◌, None, Some, [], length}
use Rattle.std.specs.List.{Contains, list_any}
use Rattle.std.specs.declared.option.Option.{Option}
use Rattle.sg_facts.specs.sg_base.Lists.{Each}
use Rattle.sg_boot.specs.Cells.{IsCell}
use Rattle.sg_facts.specs.declared.entry.Entry.{Entry}
use Rattle.sg_facts.specs.declared.row.Row.{Row}
use Rattle.sg_facts.specs.Alike.{named}
use Rattle.sg_facts.specs.Counted.{most_counted}
use Rattle.sg_facts.specs.Guard.{guard}
use Rattle.sg_facts.specs.Laws.{slow}
use Rattle.sg_facts.specs.Legal.{LegalFrom}
use Rattle.sg_facts.specs.Object.{Object, empty_object, object_of}
use Rattle.sg_facts.specs.Inside.Rows.{object_from}
use Rattle.sg_facts.specs.Trace.{Boot}
use Rattle.sg_facts.specs.Track.{is_live}
use Rattle.sg_recovery_laws.specs.Midway.Numbers.{AreNumbers}
use Rattle.sg_recovery_laws.specs.Midway.Progress.{IsInRecovery, Told, complete}
use Rattle.sg_recovery_laws.specs.sg_hist.Reading.{last_items, names_at, older_items}
use Rattle.sg_recovery_laws.specs.Objects.Serving.{IsLegalObject}
use Rattle.sg_recovery_laws.specs.Objects.Waiting.{AreWaiting, NoneBy}
use Rattle.sg_recovery_laws.specs.sg_hist.Growing.{IsInLast, IsRecovering}
use Rattle.sg_clients.specs.WorldView.{WorldView, held_replies, unanswered}
use Rattle.sg_recovery_laws.specs.LastItem.LastPlace.{HaveItems}
use Rattle.sg_recovery_laws.specs.LastItem.Told.{IsRead}
use Rattle.sg_world_laws.specs.Seats.{HaveSeats}
use Rattle.sg_recovery_laws.specs.sg_hist.Clients.{MayBeMade}
use Rattle.sg_world_laws.specs.Setting.{Setting, stubs_of}

-- what stands in the stubs of the running boot: the service's ids, how far each row is, and which files are present
pub record Stub : Type 0 where
  pub names : List (ℕ × ℕ)
  pub told : ℕ → Told
  pub present : List ℕ → Bool

-- stubs tell the same: each id has the same service id, its row is as far, and the same files are present
pub record TellSame (stub other : Stub) : Type 0 where
  pub names : (id : ℕ) → named other.names id ≡ named stub.names id
  pub told : (id : ℕ) → other.told id ≡ stub.told id
  pub present : (path : List ℕ) → other.present path ≡ stub.present path

-- a world with its boots and its service, spelt out
abbrev pub standing : WorldView → Boot → List Boot → Option Object → WorldView
standing w b boots running = record w { run = record { boots = b ∷ boots; points = w.run.points }; running = running }

-- entries of different clients
abbrev pub ClientsDiffer : List Entry → Type 0
ClientsDiffer [] = Unit {0}
ClientsDiffer (e ∷ es) = NoneBy e.call.client es × ClientsDiffer es

-- some of the held replies, in some order: those that a later event may find committed
pub record AreDrawn (held es : List Entry) : Type 0 where
  pub each : Each (Contains held) es
  pub apart : ClientsDiffer es
  pub few : length es ≤ length held

-- the object of a history: as legal histories leave it, and far from the ends of its numbers
pub record IsSettledObject (z : Setting) (history : List Entry) : Type 0 where
  pub good : IsLegalObject z.iface.facts z.sound (object_of z.iface.facts history)
  pub counted : most_counted z.iface.facts (object_of z.iface.facts history).rows ≤ slow + length history
  pub given : (object_of z.iface.facts history).given ≤ length history

-- a held reply could be committed now: its call may be made, and the guard lets it pass
pub record MayEnter (z : Setting) (history : List Entry) (e : Entry) : Type 0 where
  pub may : MayBeMade z.iface e.call
  pub guarded : guard z.iface (object_of z.iface.facts history) e.call ≡ None

-- where every live row is rebuilt before any call is served, a reply is held only when all of them are whole
abbrev pub IsRebuiltFirst : Setting → List Entry → (ℕ → Told) → List Row → Type 0
IsRebuiltFirst z held told rows = z.iface.eager ≡ true → (held ≢ []) → (id : ℕ) → is_live rows id ≡ true → told id ≡ complete

-- the service stands for the object after the held replies, and what the stubs tell is what the trace tells, whichever held replies
-- are committed first
pub record Stands (z : Setting) (w : WorldView) (stub : Stub) (v : Object) : Type 0 where
  pub numbers : AreNumbers z.iface.facts stub.told (length w.history) (object_from z.iface.facts (object_of z.iface.facts w.history) (held_replies w)) v
  pub named_live : (id : ℕ) → (named stub.names id ≡ 0) ⊎ (is_live (object_of z.iface.facts w.history).rows id ≡ true)
  pub in_recovery : IsInRecovery z.iface z.walks stub.names stub.told stub.present (object_from z.iface.facts (object_of z.iface.facts w.history) (held_replies w)) v
  pub read : (es : List Entry) → AreDrawn (held_replies w) es
      → IsRead z.iface.facts z.walks (w.history ++ es) (older_items [] w.run.boots) (last_items w.run.boots) stub.names stub.told stub.present (object_of z.iface.facts w.history).rows
  pub unnamed : (es : List Entry) → AreDrawn (held_replies w) es → (id : ℕ) → (object_of z.iface.facts w.history).given < id
      → list_any (λ n. n.0 == id) (names_at z.iface.facts (w.history ++ es) (last_items w.run.boots)) ≡ false
  pub rebuilt : IsRebuiltFirst z (held_replies w) stub.told (object_of z.iface.facts w.history).rows

-- nothing stands in a service that failed
abbrev pub StandsIn : Setting → WorldView → Stub → Option Object → Type 0
StandsIn z w stub None = Unit {0}
StandsIn z w stub (Some v) = Stands z w stub v

-- what the world keeps
pub record KeepsPromise (z : Setting) (w : WorldView) (stub : Stub) : Type 0 where
  pub legal : LegalFrom z.iface z.ask empty_object w.history
  pub calls : Each (λ e. MayBeMade z.iface e.call) w.history
  pub object : IsSettledObject z w.history
  pub seats : HaveSeats z w.history w.withdrawn (length w.run.boots) w.seats
  pub waiting : AreWaiting z.iface.facts z.ask (object_of z.iface.facts w.history) (held_replies w)
  pub enter : Each (MayEnter z w.history) (held_replies w)
  pub items : HaveItems (older_items [] w.run.boots ++ last_items w.run.boots) w.history
  pub held_items : Each (IsInLast w.run) (held_replies w)
  pub recovering : (es : List Entry) → AreDrawn (held_replies w) es → IsRecovering (stubs_of z) (w.history ++ es) w.run (unanswered w)
  pub cell : IsCell z.iface.facts w.running w.run.boots
  pub stands : StandsIn z w stub w.running
