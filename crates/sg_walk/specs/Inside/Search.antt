-- The least walk to what is sought.
use Rattle.std.specs.Prelude.{ℕ, ◌≡◌, ◌≤◌, true, false, List, length}
use Rattle.sg_facts.specs.Interface.{Declared}
use Rattle.sg_facts.specs.Walks.{begin_of, most_calls}
use Rattle.sg_facts.specs.Inside.Walking.{no_worse}
use Rattle.sg_walk.specs.declared.spot.Goal.{Goal}
use Rattle.sg_walk.specs.Inside.Spots.{reaches}

-- a walk is the least from a creation on that leads to what is sought
pub record IsLeast (i : Declared) (made : ℕ) (goal : Goal) (walk : List ℕ) : Type 0 where
  pub begins : begin_of walk ≡ made
  pub reached : reaches i walk goal ≡ true
  pub short : length walk ≤ most_calls
  pub least : (other : List ℕ) → begin_of other ≡ made → reaches i other goal ≡ true → no_worse walk other ≡ true

-- no walk of at most 8 calls that begins with a creation leads to what is sought
abbrev pub NoWalkLeads : Declared → ℕ → Goal → Type 0
NoWalkLeads i made goal = (walk : List ℕ) → begin_of walk ≡ made → length walk ≤ most_calls → reaches i walk goal ≡ false
