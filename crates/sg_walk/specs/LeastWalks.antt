-- The least walks of an interface, by what they restore.
use Rattle.std.specs.Prelude.{ℕ, ◌≡◌, ◌≤◌, ◌==◌, Bool, false, ◌&&◌, List, None, Some, length}
use Rattle.std.specs.Map.{lookup}
use Rattle.std.specs.declared.option.Option.{Option}
use Rattle.sg_facts.specs.Fields.{number_of}
use Rattle.sg_facts.specs.Interface.{Declared}
use Rattle.sg_facts.specs.Walks.{IsWalkOf, begin_of, most_calls, restores}

-- whether two creations, states and numbers of sets of fields are the same
abbrev pub same_key : ℕ × ℕ × ℕ → ℕ × ℕ × ℕ → Bool
same_key a b = (a.0 == b.0) && (a.1 == b.1) && (a.2 == b.2)

-- the walk that stands at a creation, a state and the number of a set of fields
abbrev pub walk_at : List ((ℕ × ℕ × ℕ) × List ℕ) → ℕ → ℕ → ℕ → Option (List ℕ)
walk_at walks made state mask = lookup (same_key (made, state, mask)) walks

-- a walk is that of what a function made, in a state with the set of fields of a number; without one, no walk restores these
abbrev pub IsTheWalk : Declared → ℕ → ℕ → ℕ → Option (List ℕ) → Type 0
IsTheWalk i made state mask (Some walk) = (set : List Bool) × (number_of set ≡ mask) × IsWalkOf i walk made state set
IsTheWalk i made state mask None = (walk : List ℕ) (set : List Bool) → begin_of walk ≡ made → length walk ≤ most_calls → number_of set ≡ mask
    → restores i walk state set ≡ false

-- at each creation, state and number of a set of fields stands the least walk that restores these, and none where no walk does
abbrev pub AreLeastWalks : Declared → List ((ℕ × ℕ × ℕ) × List ℕ) → Type 0
AreLeastWalks i walks = (made state mask : ℕ) → IsTheWalk i made state mask (walk_at walks made state mask)
