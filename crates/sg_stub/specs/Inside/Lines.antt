-- Lines of tables, as far as they were made.
use Rattle.std.specs.Prelude.{ℕ, ◌≡◌, ◌<◌, ◌⊎◌, Bool, List, Some}
use Rattle.std.specs.List.{Contains}
use Rattle.sg_check.specs.sg_facts.declared.tables.WalkLine.{WalkLine}
use Rattle.sg_check.specs.sg_facts.Fields.{number_of}
use Rattle.sg_check.specs.sg_facts.Interface.{Declared}
use Rattle.sg_check.specs.sg_facts.Tables.{walk_of}
use Rattle.sg_check.specs.sg_facts.Inside.Walking.{IsAscending}
use Rattle.sg_check.specs.sg_facts.Walks.{IsReachable, IsWalkOf}

-- a line is good: its walk is that of what descriptors can come to
abbrev pub IsGood : Declared → WalkLine → Type 0
IsGood i line = (set : List Bool) × (number_of set ≡ line.mask) × IsReachable i line.made line.state set × IsWalkOf i line.walk line.made line.state set

-- a good line is that of a creation, a state and a set's number
pub record IsLineOf (i : Declared) (made state mask : ℕ) (line : WalkLine) : Type 0 where
  pub made_is : line.made ≡ made
  pub state_is : line.state ≡ state
  pub mask_is : line.mask ≡ mask
  pub good : IsGood i line

-- three numbers are before three others, by the first that differs
abbrev pub IsBefore : ℕ → ℕ → ℕ → ℕ → ℕ → ℕ → Type 0
IsBefore a b c m s k = (a < m) ⊎ (((a ≡ m) × (b < s)) ⊎ ((a ≡ m) × (b ≡ s) × (c < k)))

-- the lines are, ascending, those of what descriptors can come to before a creation, a state and a set's number
pub record AreBefore (i : Declared) (lines : List WalkLine) (made state mask : ℕ) : Type 0 where
  pub each : (line : WalkLine) → Contains lines line → IsBefore line.made line.state line.mask made state mask × IsGood i line
  pub all : (m s : ℕ) (set : List Bool) → IsReachable i m s set → IsBefore m s (number_of set) made state mask
      → (walk : List ℕ) × (walk_of lines m s (number_of set) ≡ Some walk)
  pub ascending : IsAscending lines
