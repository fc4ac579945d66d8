-- What is added up along the line from an id to its root.
use Rattle.std.specs.Prelude.{ℕ, ◌≡◌, ◌+◌, ◌==◌, ◌||◌, if◌then◌else◌, List, [], ◌∷◌, filter, unwrap_or, nat_eq}
use Rattle.std.specs.List.{list_any}
use Rattle.std.specs.Map.{lookup}
use Rattle.sg_facts.specs.Track.{is_ancestor}
use Rattle.sg_facts.specs.declared.row.Row.{Row}
use Rattle.sg_facts.specs.declared.tables.WalkLine.{WalkLine}
use Rattle.sg_cost.specs.Costs.{all_lengths}
use Rattle.sg_cost.specs.declared.costs.RowCost.{RowCost}

-- the walks of all of these, together
abbrev pub total : List RowCost → ℕ
total [] = 0
total (c ∷ costs) = c.walk + total costs

-- the calls of the walks of an id and its ancestors
abbrev pub line_cost : List WalkLine → List Row → ℕ → ℕ
line_cost walks rows id = all_lengths walks (filter (λ r. (r.id == id) || is_ancestor rows r.id id) rows)

-- what is kept for an id, 0 for none
abbrev pub kept_cost : List (ℕ × ℕ) → ℕ → ℕ
kept_cost kept id = unwrap_or (lookup (nat_eq id) kept) 0

-- for each of these ids what its line costs is kept, and for no other id
abbrev pub AreLineCosts : List WalkLine → List Row → List ℕ → List (ℕ × ℕ) → Type 0
AreLineCosts walks rows ids kept = (id : ℕ) → kept_cost kept id ≡ (if list_any (λ i. i == id) ids then line_cost walks rows id else 0)
