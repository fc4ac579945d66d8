-- The tables that stubs work by.
use Rattle.std.specs.Prelude.{ℕ, ◌≡◌, ◌==◌, Bool, ◌&&◌, if◌then◌else◌, List, [], ◌∷◌, None, Some}
use Rattle.std.specs.declared.option.Option.{Option}
use Rattle.std.specs.declared.cmp.Ordering.TheVariants.{Less}
use Rattle.std.specs.Ordering.{nat_cmp, ordering_then}
use Rattle.std.specs.List.{AllPairs, Contains}
use Rattle.sg_facts.specs.declared.tables.WalkLine.{WalkLine}
use Rattle.sg_facts.specs.Fields.{number_of}
use Rattle.sg_facts.specs.Fits.{Fits}
use Rattle.sg_facts.specs.Interface.{Declared}
use Rattle.sg_facts.specs.Walks.{IsReachable, IsWalkOf}

-- the walk of the first line for these
abbrev pub walk_of : List WalkLine → ℕ → ℕ → ℕ → Option (List ℕ)
walk_of [] made state mask = None
walk_of (line ∷ lines) made state mask = if (line.made == made) && (line.state == state) && (line.mask == mask) then Some line.walk else walk_of lines made state mask

-- an interface can be recovered, and the lines are, ascending, one for each creation, state and set of fields that its
-- descriptors can come to, with the walk of such a descriptor
pub record AreTables (i : Declared) (lines : List WalkLine) : Type 0 where
  pub fits : Fits i
  pub each : (line : WalkLine) → Contains lines line
      → (set : List Bool) × (number_of set ≡ line.mask) × IsReachable i line.made line.state set × IsWalkOf i line.walk line.made line.state set
  pub all : (by state : ℕ) (set : List Bool) → IsReachable i by state set → (walk : List ℕ) × (walk_of lines by state (number_of set) ≡ Some walk)
  -- a line stands before another by the creation, then by the state, then by the number of the set
  pub ascending : AllPairs (λ a b. ordering_then (ordering_then (nat_cmp a.made b.made) (nat_cmp a.state b.state)) (nat_cmp a.mask b.mask) ≡ Less) lines

-- what contracts see of tables
pub record Compiled : Type 0 where
  pub iface : Declared
  pub walks : List WalkLine
