-- What an engine keeps.
use Rattle.std.specs.Prelude.{ℕ, ◌≡◌, ◌<◌, ◌≤◌, true, List, None, Some}
use Rattle.std.specs.declared.option.Option.{Option}
use Rattle.sg_facts.specs.Facts.{Facts}
use Rattle.sg_facts.specs.Object.{Object}
use Rattle.sg_facts.specs.Tables.{Compiled}
use Rattle.sg_facts.specs.Walks.{most_calls}
use Rattle.sg_boot.specs.Cells.{Celled}
use Rattle.sg_name.specs.Names.{Naming, named_at, real_at}
use Rattle.sg_name.specs.declared.named.Named.TheVariants.{Partial}
use Rattle.sg_name.specs.declared.named.Standing.{Standing}
use Rattle.sg_store.specs.Stored.{Stored}
use Rattle.sg_needs.specs.sg_track.Tracked.{Tracked}
use Rattle.sg_replay.specs.Present.{Marks}

-- what contracts see of an engine: the tables, the service with its journal, what outlives a stop, the rows that stubs keep, the
-- service ids of this boot, and which files are present in it
pub record Engined : Type 0 where
  pub tables : Compiled
  pub cell : Celled
  pub stored : Stored
  pub tracked : Tracked
  pub names : Naming
  pub present : Marks

-- the service ids of a running service are ids that it has given
abbrev pub AreGiven : Option Object → List (ℕ × Standing) → Type 0
AreGiven None known = Unit {0}
AreGiven (Some held) known = (id real : ℕ) → real_at known id ≡ Some real → (1 ≤ real) × (real ≤ held.given)

-- a descriptor that is rebuilt in part is in the middle of a walk, which has at most 8 calls
abbrev pub AreInWalks : List (ℕ × Standing) → Type 0
AreInWalks known = (id real done : ℕ) → named_at known id ≡ Partial real done → done < most_calls

-- the parts agree: the tables are of the service, storage has the stubs' rows where the service is global, and their number of
-- ids, and the service ids are ids of the running service
pub record IsEngine (facts : Facts) (e : Engined) : Type 0 where
  pub service : e.tables.iface.facts ≡ facts
  pub rows : facts.global ≡ true → e.stored.rows ≡ e.tracked.rows
  pub ids : e.stored.given ≡ e.tracked.given
  pub given : AreGiven e.cell.running e.names.known
  pub walks : AreInWalks e.names.known
