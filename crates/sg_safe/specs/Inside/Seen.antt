-- What the code holds, as the definitions see it.
use Rattle.std.specs.Prelude.{ℕ, ◌≤◌, suc, List, [], ◌∷◌, length, map}
use Rattle.sg_known.specs.sg_facts.declared.shape.Effect.{Effect}
use Rattle.sg_known.specs.sg_facts.Limits.{most_fields}
use Rattle.sg_known.specs.sg_facts.Walks.{Spot as Place, effect_on}
use Rattle.sg_known.specs.sg_walk.declared.spot.Spot.{Spot}
use Rattle.sg_known.specs.sg_walk.Marks.{shown_marks}
use Rattle.sg_known.specs.sg_described.declared.bounds.Bounds.{Bounds}
use Rattle.sg_known.specs.sg_described.Described.{Described}
use Rattle.sg_known.specs.sg_described.Known.{bounds_after}

-- pairs as plain data
abbrev pub pairs_in : List (ℕ × ℕ) → List (ℕ × ℕ)
pairs_in pairs = map (λ p. (p.0, p.1)) pairs

-- fields after effects, numbered from a number on
abbrev pub bounds_left : List (ℕ × Effect) → ℕ → List Bounds → List ℕ → List Bounds
bounds_left effects x [] most = []
bounds_left effects x (r ∷ fields) [] = []
bounds_left effects x (r ∷ fields) (m ∷ most) = bounds_after (effect_on effects x) m r ∷ bounds_left effects (suc x) fields most

-- a spot of the code, with a mark for each of so many fields
abbrev pub spot_in : ℕ → Spot → Place
spot_in count s = record { state = s.state; marks = shown_marks count s.marks }

-- with a mark for each field of a described service
abbrev pub shown : Described → Spot → Place
shown d s = spot_in (length d.facts.fields) s

-- a row has no more fields than it may have
abbrev pub HasFewFields : Described → Type 0
HasFewFields d = length d.facts.fields ≤ most_fields
