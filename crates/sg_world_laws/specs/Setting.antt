-- What doesn't change in a world.
use Rattle.std.specs.Prelude.{ℕ, List}
use Rattle.sg_facts.specs.declared.tables.WalkLine.{WalkLine}
use Rattle.sg_facts.specs.Fits.{Fits}
use Rattle.sg_facts.specs.Interface.{Declared}
use Rattle.sg_facts.specs.Legal.{Table}
use Rattle.sg_facts.specs.Object.{Object}
use Rattle.sg_facts.specs.Tables.{AreTables}
use Rattle.sg_recovery_laws.specs.sg_hist.Recovered.{Stubs}
use Rattle.sg_recovery_laws.specs.Objects.Serving.{IsService}

-- what doesn't change in a world: the interface, the walks of its tables, and the service by its table, by what it keeps to, and by the
-- number of parts of an Ok of each function
pub record Setting : Type 1 where
  pub iface : Declared
  pub walks : List WalkLine
  pub ask : Table
  pub sound : Object → Type 0
  pub parts : ℕ → ℕ

-- by which a run is judged
abbrev pub stubs_of : Setting → Stubs
stubs_of z = record { interface = z.iface; ask = z.ask; parts = z.parts; walks = z.walks }

-- the service keeps its laws, the interface can be recovered, and the walks are its
pub record IsSetting (z : Setting) : Type 0 where
  pub law : IsService z.iface.facts z.ask z.sound
  pub fits : Fits z.iface
  pub tables : AreTables z.iface z.walks
