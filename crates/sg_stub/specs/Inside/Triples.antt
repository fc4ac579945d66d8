-- Sets of what descriptors can come to.
use Rattle.std.specs.Prelude.{ℕ, ◌≡◌, ◌==◌, ◌↔◌, Bool, true, ◌&&◌, List}
use Rattle.std.specs.List.{Contains, list_any}
use Rattle.sg_check.specs.sg_facts.Fields.{number_of}
use Rattle.sg_check.specs.sg_facts.Interface.{Declared}
use Rattle.sg_check.specs.sg_facts.Walks.{IsReachable}
use Rattle.sg_check.specs.sg_walk.declared.place.Triple.{Triple}

-- whether a creation, a state and the number of a set of fields are among these
abbrev pub has_triple : List (ℕ × ℕ × ℕ) → ℕ → ℕ → ℕ → Bool
has_triple triples made state mask = list_any (λ t. (made == t.0) && (state == t.1) && (mask == t.2)) triples

-- a set has just these triples
abbrev pub SameTriples : List Triple → List (ℕ × ℕ × ℕ) → Type 0
SameTriples triples set = (t : Triple) → (has_triple set t.made t.state t.mask ≡ true) ↔ Contains triples t

-- descriptors that a function made can come to a state with the set of fields of a number
abbrev pub IsReachedBy : Declared → ℕ → ℕ → ℕ → Type 0
IsReachedBy i made state mask = (set : List Bool) × (number_of set ≡ mask) × IsReachable i made state set

-- a set has just what descriptors can come to
abbrev pub AreIn : Declared → List (ℕ × ℕ × ℕ) → Type 0
AreIn i triples = (made state mask : ℕ) → (has_triple triples made state mask ≡ true) ↔ IsReachedBy i made state mask
