-- How spots are looked up.
use Rattle.std.specs.Prelude.{ℕ, ◌↔◌, ◌⊎◌, ◌≡◌, List, ◌++◌, drop, replicate, take}
use Rattle.std.specs.List.{Contains}
use Rattle.sg_known.specs.sg_facts.Limits.{most_fields}
use Rattle.sg_known.specs.sg_walk.declared.spot.FieldState.TheVariants.{Unset}
use Rattle.sg_known.specs.sg_walk.declared.spot.Spot.{Spot}

-- with the marks of so many fields alone: spots that have the same of these have one key
abbrev pub keyed : ℕ → Spot → Spot
keyed count s = record { state = s.state; marks = take count s.marks ++ drop count (replicate most_fields Unset) }

-- one spot more is listed, and no other
abbrev pub GainsSpot : List Spot → List Spot → Spot → Type 0
GainsSpot old new spot = (other : Spot) → Contains new other ↔ (Contains old other ⊎ (other ≡ spot))
