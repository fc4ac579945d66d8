-- An id with its ancestors.
use Rattle.std.specs.Prelude.{ℕ, ◌==◌, Bool, ◌||◌, List, ◌∷◌, filter, map, reverse}
use Rattle.sg_facts.specs.declared.row.Row.{Row}
use Rattle.sg_facts.specs.Track.{ancestors, is_ancestor}

-- the root first, the id last
abbrev pub line_to : List Row → ℕ → List ℕ
line_to rows id = reverse (id ∷ ancestors rows id)

-- the ids of all rows, or of those in the line to an id
abbrev pub ids_in : Bool → List Row → ℕ → List ℕ
ids_in all rows id = map (λ r. r.id) (filter (λ r. all || (r.id == id) || is_ancestor rows r.id id) rows)
