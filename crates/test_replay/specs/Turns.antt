-- A lock that is made, lost in a stop, and rebuilt.
use Rattle.std.specs.Prelude.{◌≡◌, [], ◌∷◌, Some}
use Rattle.test_tables.specs.sg_facts.sg_base.declared.value.Value.TheVariants.{Word}
use Rattle.test_tables.specs.sg_facts.declared.row.Row.{Row}
use Rattle.test_tables.specs.sg_facts.Object.{Object, empty_object}
use Rattle.test_tables.specs.sg_facts.Tables.{Compiled}
use Rattle.sg_replay.specs.sg_hist.Reading.{walk_in}
use Rattle.test_tables.specs.sg_lock.LockFacts.{lock_facts}
use Rattle.sg_replay.specs.sg_name.Names.{named_at}
use Rattle.sg_replay.specs.sg_name.declared.named.Named.TheVariants.{Live}
use Rattle.sg_replay.specs.Engined.{Engined}

-- the first lock, which client 1 made and nobody owns
abbrev pub first_lock : Row
first_lock = record { id = 1; made = 1; creator = 1; parent = 0; state = 1; fields = Word 0 ∷ [] }

-- a service that holds it alone
abbrev pub one_lock : Object
one_lock = record { rows = first_lock ∷ []; files = []; given = 1 }

-- the tables are those of locks, and the walk of the first lock is its creation alone
pub record WalksLocks (tables : Compiled) : Type 0 where
  pub facts : tables.iface.facts ≡ lock_facts
  pub walk : walk_in tables.walks (Some first_lock) ≡ Some (1 ∷ [])

-- an engine in whose boot nothing was done
pub record IsFresh (e : Engined) : Type 0 where
  pub up : e.cell.running ≡ Some empty_object
  pub unnamed : e.names.known ≡ []

-- an engine that tracks and stores nothing
pub record HasNone (e : Engined) : Type 0 where
  pub rows : e.tracked.rows ≡ []
  pub given : e.tracked.given ≡ 0
  pub stored : e.stored.given ≡ 0

-- an engine that tracks the first lock alone
pub record HasFirst (e : Engined) : Type 0 where
  pub rows : e.tracked.rows ≡ first_lock ∷ []
  pub given : e.tracked.given ≡ 1

-- an engine whose service holds the first lock alone, under its own id
pub record IsRebuilt (e : Engined) : Type 0 where
  pub up : e.cell.running ≡ Some one_lock
  pub named : named_at e.names.known 1 ≡ Live 1
