-- The stops of plays that are made side by side.
use Rattle.std.specs.Prelude.{ℕ, ◌+◌, ◌<◌, ◌≤◌, ◌^◌, List, [], ◌∷◌, None, Some, map}
use Rattle.std.specs.List.{range_with_len as ascending_from}
use Rattle.std.specs.declared.option.Option.{Option}
use Rattle.sg_explore.specs.declared.stops.Row.{Row}
use Rattle.sg_explore.specs.declared.stops.StopsAt.{StopsAt}
use Rattle.sg_explore.specs.declared.stops.StopsAt.TheVariants.{One, Two}

-- the points as a list
abbrev pub points_of : StopsAt → List ℕ
points_of (One p) = p ∷ []
points_of (Two p q) = p ∷ q ∷ []

-- a point, alone or behind a first one
abbrev pub behind : Option ℕ → ℕ → List ℕ
behind None p = p ∷ []
behind (Some first) p = first ∷ p ∷ []

-- a first point, where there is one, is one and stands before the others
abbrev pub StandsBefore : ℕ → Option ℕ → Type 0
StandsBefore from None = Unit {0}
StandsBefore from (Some first) = (0 < first) × (first < from)

-- the points of a row are numbers of points, and ascend with its first one
abbrev pub IsRow : Row → Type 0
IsRow b = (0 < b.from) × StandsBefore b.from b.first × (b.from + b.count ≤ 2 ^ 64)

-- so many points from one on, each alone or behind a first one
abbrev pub row_of : Option ℕ → ℕ → ℕ → List (List ℕ)
row_of first from count = map (behind first) (ascending_from from count)
