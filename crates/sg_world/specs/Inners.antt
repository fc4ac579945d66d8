-- The parts of a world as plain data, and what they keep between events.
use Rattle.std.specs.Prelude.{ℕ, ◌≡◌, ◌≤◌, List, length}
use Rattle.sg_facts.specs.Facts.{Facts}
use Rattle.sg_facts.specs.Legal.{Table}
use Rattle.sg_facts.specs.Object.{Object}
use Rattle.sg_clients.specs.WorldView.{WorldView}
use Rattle.sg_world.specs.declared.inner.Inner.{Inner}
use Rattle.sg_world.specs.Worlded.{CountsPoints, IsWorld, Rooms, setting_of, view_of}

-- the parts as plain data
abbrev pub view_in : {S T I : Type 0} → Inner S T I → WorldView
view_in x = view_of x.engine x.history.items x.clients x.withdrawn.items x.marks.items x.events x.refused

-- for how many entries, withdrawals and marks they have memory
abbrev pub rooms_in : {S T I : Type 0} → Inner S T I → Rooms
rooms_in x = record { entries = x.history.room; withdrawals = x.withdrawn.room; marks = x.marks.room }

-- they stand as a world's do between events, its count of points aside, storage has a place for each client's receipt, and the tables
-- are those of the service
pub record IsInOrder {S T I : Type 0} (facts : Facts) (ask : Table) (sound : Object → Type 0) (parts : ℕ → ℕ) (test : ℕ → List ℕ → List ℕ → Type 0) (asked : T → ℕ) (struck plan : T → List ℕ) (x : Inner S T I) : Type 0 where
  pub world : IsWorld (setting_of ask sound parts x.engine.tables) x.engine (view_in x) (rooms_in x)
  pub points : CountsPoints test (view_in x) (asked x.stops) (struck x.stops) (plan x.stops)
  pub clients : length x.clients ≤ x.engine.stored.clients
  pub service : x.engine.tables.iface.facts ≡ facts

-- the tables and the plan of the stops, which no event changes, are the same
pub record KeepsRest {S T I : Type 0} (plan : T → List ℕ) (x new : Inner S T I) : Type 0 where
  pub tables : new.engine.tables ≡ x.engine.tables
  pub plan_is : plan new.stops ≡ plan x.stops
