-- What contracts see of a world, and what it keeps.
use Rattle.std.specs.List.{flat_map}
use Rattle.std.specs.Prelude.{ℕ, ◌≡◌, ◌+◌, ◌≤◌, List, [], ◌∷◌, length, ◌==◌}
use Rattle.sg_facts.specs.Facts.{Facts}
use Rattle.sg_facts.specs.Legal.{Table}
use Rattle.sg_facts.specs.Object.{Object, file_at, object_of}
use Rattle.sg_facts.specs.Tables.{Compiled}
use Rattle.sg_world.specs.Engines.Stubs.{stub_of}
use Rattle.sg_facts.specs.declared.entry.Entry.{Entry}
use Rattle.sg_replay.specs.sg_hist.Recovered.{ArePointsOf, struck_in}
use Rattle.sg_replay.specs.Engined.{Engined}
use Rattle.sg_clients.specs.WorldView.{Seat, WorldView, offered_by}
use Rattle.sg_clients.specs.declared.mark.Mark.{Mark}
use Rattle.sg_clients.specs.declared.phase.Phase.{Phase}
use Rattle.sg_clients.specs.declared.phase.Phase.TheVariants.{Idle, Asked, Held, Receipted, Blocked, Left}
use Rattle.sg_clients.specs.declared.withdrawn.Withdrawn.{Withdrawn}
use Rattle.sg_replay.specs.sg_store.Stored.{bytes_of}
use Rattle.sg_world_laws.specs.Keeping.{KeepsPromise}
use Rattle.sg_world.specs.Marked.{TellsAll}
use Rattle.sg_world_laws.specs.Setting.{IsSetting, Setting}

-- what contracts see of a world: its tables and the plan of its stops, which no event changes, and the rest as plain data
pub record Worlded : Type 0 where
  pub tables : Compiled
  pub view : WorldView
  pub plan : List ℕ

-- what doesn't change in it
abbrev pub setting_of : Table → (Object → Type 0) → (ℕ → ℕ) → Compiled → Setting
setting_of ask sound parts tables = record { iface = tables.iface; walks = tables.walks; ask = ask; sound = sound; parts = parts }

-- the world as plain data: what its engine shows of the service, and what stands beside that
abbrev pub view_of : Engined → List Entry → List Seat → List Withdrawn → List Mark → ℕ → ℕ → WorldView
view_of e history seats withdrawn marks events refused =
    record { history = history; run = e.cell.run; running = e.cell.running; seats = seats; withdrawn = withdrawn; marks = marks; events = events; refused = refused }

-- ---- what it keeps

-- what stubs and storage hold is the object of the history
pub record StoresObject (facts : Facts) (e : Engined) (history : List Entry) : Type 0 where
  pub rows : e.tracked.rows ≡ (object_of facts history).rows
  pub given : e.tracked.given ≡ (object_of facts history).given
  pub files : (path : List ℕ) → bytes_of e.stored path ≡ file_at (object_of facts history).files path

-- how much may still happen to a client before it makes another call: its entry, its answer, and its leave
abbrev pub marks_due : Phase → ℕ
marks_due Left = 0
marks_due Idle = 1
marks_due Receipted = 2
marks_due Asked = 3
marks_due Held = 3
marks_due Blocked = 3

-- how much may still happen to these clients together before one of them makes another call
abbrev pub marks_left : List Seat → ℕ
marks_left [] = 0
marks_left (s ∷ seats) = marks_due s.phase + marks_left seats

-- for how many entries, withdrawals and marks memory was taken
pub record Rooms : Type 0 where
  pub entries : ℕ
  pub withdrawals : ℕ
  pub marks : ℕ

-- there is memory for the entry or the withdrawal of each call that isn't answered, and for all that may happen to clients
pub record HaveRooms (seats : List Seat) (rooms : Rooms) : Type 0 where
  pub entries : length (flat_map offered_by seats) ≤ rooms.entries
  pub withdrawals : length (flat_map offered_by seats) ≤ rooms.withdrawals
  pub marks : marks_left seats ≤ rooms.marks

-- the points of the trace are those of the stops, and their test holds
pub record CountsPoints (test : ℕ → List ℕ → List ℕ → Type 0) (w : WorldView) (asked : ℕ) (struck plan : List ℕ) : Type 0 where
  pub asked_so : w.run.points ≡ asked
  pub struck_so : struck_in w.run ≡ struck
  pub tested : test asked struck plan

-- what a world keeps
pub record IsWorld (z : Setting) (e : Engined) (w : WorldView) (rooms : Rooms) : Type 0 where
  pub set : IsSetting z
  pub keeps : KeepsPromise z w (stub_of e)
  pub tracked : StoresObject z.iface.facts e w.history
  pub rooms_are : HaveRooms w.seats rooms
  pub marked : TellsAll w

-- its points are counted exactly until a step wants memory, and then at least so
abbrev pub CountsAll : Setting → WorldView → Type 0
CountsAll z w = ArePointsOf (w.refused == 0) z.iface.facts z.ask z.parts 0 w.run.boots w.run.points
