-- An engine of a world.
use Rattle.std.specs.Prelude.{ℕ, ◌≡◌, List}
use Rattle.sg_facts.specs.Object.{file_at, object_of}
use Rattle.sg_replay.specs.Engined.{Engined}
use Rattle.sg_clients.specs.WorldView.{WorldView}
use Rattle.sg_replay.specs.sg_store.Stored.{bytes_of}
use Rattle.sg_world_laws.specs.Setting.{Setting}

-- an engine stands for a world: its walks are the world's, and the rows and files that it keeps are those of the object of the history
pub record IsEngineOf (z : Setting) (w : WorldView) (e : Engined) : Type 0 where
  pub walks : e.tables.walks ≡ z.walks
  pub rows : e.tracked.rows ≡ (object_of z.iface.facts w.history).rows
  pub files : (path : List ℕ) → bytes_of e.stored path ≡ file_at (object_of z.iface.facts w.history).files path

-- a world with the service and the journal that an engine shows
abbrev pub as_shown : WorldView → Engined → WorldView
as_shown w e = record w { run = e.cell.run; running = e.cell.running }
