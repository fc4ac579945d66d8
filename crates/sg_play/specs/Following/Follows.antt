-- How a play follows the play without stops: it is at a stage of that until its service stops, and what it makes of its history
-- afterwards it makes in later boots.
use Rattle.std.specs.Prelude.{ℕ, ◌≡◌, ◌≢◌, ◌⊎◌, ◌≤◌, true, false, List, [], ◌∷◌, ◌++◌, None, IsSome, length}
use Rattle.std.specs.declared.option.Option.{Option}
use Rattle.std.specs.List.{list_any}
use Rattle.sg_facts.specs.declared.entry.Entry.{Entry}
use Rattle.sg_facts.specs.declared.trace.Item.{Item}
use Rattle.sg_facts.specs.Facts.{Facts, is_visible}
use Rattle.sg_facts.specs.Object.{Object, file_at, object_of}
use Rattle.sg_facts.specs.Trace.{Boot}
use Rattle.sg_facts.specs.Track.{is_live}
use Rattle.sg_plain.specs.sg_hist.Reading.{is_made}
use Rattle.sg_plain.specs.sg_hist.Inside.Parts.{is_patch_at}
use Rattle.sg_plain.specs.Plain.{Stage}
use Rattle.sg_plain.specs.Inside.Turns.{stage_after}
use Rattle.sg_plain.specs.Promises.{is_in_first_boot}
use Rattle.sg_plain.specs.sg_script.declared.script.Script.{Script}
use Rattle.sg_plain.specs.sg_clients.WorldView.{Seat, WorldView, seat_in}
use Rattle.sg_plain.specs.sg_clients.declared.phase.Phase.TheVariants.{Held, Receipted}
use Rattle.sg_world.specs.sg_world_laws.Setting.{Setting}
use Rattle.sg_play.specs.Asked.{are_asked_so}
use Rattle.sg_play.specs.Following.Asking.{asked_by}
use Rattle.sg_play.specs.Following.Stages.{stage_of}

-- ---- clients

-- a reply that a client holds is of a call that isn't visible, and one that it has a receipt for is of a call that it made
pub record HoldsSo (facts : Facts) (s : Seat) : Type 0 where
  pub hidden : s.phase ≡ Held → is_visible facts s.call.fun ≡ false
  pub receipt : s.phase ≡ Receipted → 1 ≤ s.seq

-- a reply that any client holds is of a call that isn't visible, and one that a client has a receipt for is of a call that it made
abbrev pub HoldAll : Facts → List Seat → Type 0
HoldAll facts seats = (client : ℕ) → 1 ≤ client → HoldsSo facts (seat_in seats client)

-- ---- until the service stops

-- nothing is to be brought back: each live row was made by one of these items, and each file that has bytes was written by one
pub record IsAllThere (facts : Facts) (history : List Entry) (items : List Item) : Type 0 where
  pub ids : (id : ℕ) → is_live (object_of facts history).rows id ≡ true → 1 ≤ id
  pub rows : (id : ℕ) → is_live (object_of facts history).rows id ≡ true → list_any (is_made facts history id) items ≡ true
  pub files : (path : List ℕ) → file_at (object_of facts history).files path ≢ [] → list_any (λ item. is_patch_at path item.outcome) items ≡ true

-- the service is in its first boot and didn't stop: all that it needs is there, each reply that a client holds is of that boot, and the
-- play is at a stage of the play without stops
pub record NeverStopped (z : Setting) (script : Script) (history : List Entry) (boots : List Boot) (running : Option Object) (seats : List Seat) (stage : Stage Entry) : Type 0 where
  pub items : List Item
  pub one : boots ≡ record { items = items; stop = None } ∷ []
  pub up : IsSome running
  pub all_there : IsAllThere z.iface.facts history items
  pub held : (client : ℕ) → 1 ≤ client → (seat_in seats client).phase ≡ Held → (seat_in seats client).boot ≡ 1
  pub turns : ℕ
  pub at : stage ≡ stage_after z.iface z.ask script turns
  -- what the service was asked is what these turns ask
  pub asks : are_asked_so items (asked_by z.iface z.ask script turns) ≡ true
  pub all_asked : length items ≡ length (asked_by z.iface z.ask script turns)

-- ---- once it stopped

-- the service stopped in its first boot: up to then the history was that of a stage of the play without stops, and no entry after that
-- has its item in the first boot and is visible
pub record IsPastStop (z : Setting) (script : Script) (history : List Entry) (boots : List Boot) (running : Option Object) : Type 0 where
  pub first : Boot
  pub newer : List Boot
  pub are : boots ≡ first ∷ newer
  pub stopped : IsSome first.stop
  pub again : IsSome running → newer ≢ []
  pub turns : ℕ
  pub more : List Entry
  pub entries : history ≡ (stage_after z.iface z.ask script turns).history ++ more
  pub later : list_any (is_in_first_boot z.iface.facts boots) more ≡ false
  -- what it was asked is what so many turns ask first
  pub asked : ℕ
  pub asks : are_asked_so first.items (asked_by z.iface z.ask script asked) ≡ true

-- ---- a play

-- a play follows the play without stops, where so many turns of the schedule were taken or passed over, and this client took the last
pub record IsFollowing (z : Setting) (script : Script) (w : WorldView) (passed last : ℕ) : Type 0 where
  pub hold : HoldAll z.iface.facts w.seats
  pub follows : NeverStopped z script w.history w.run.boots w.running w.seats (stage_of script w passed last) ⊎ IsPastStop z script w.history w.run.boots w.running
