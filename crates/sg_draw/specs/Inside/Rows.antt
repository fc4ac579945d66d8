-- The labels of rows.
use Rattle.std.specs.Prelude.{ℕ, List, [], ◌∷◌, ◌++◌, None, Some, map, codes}
use Rattle.std.specs.Fmt.{decimal}
use Rattle.std.specs.declared.option.Option.{Option}
use Rattle.sg_draw.specs.declared.rows.Row.{Row}

-- the labels of rows
abbrev pub labels_in : List Row → List (List ℕ)
labels_in rows = map (λ r. r.label) rows

-- the label of a stop, where there is one
abbrev pub stop_labels : Option ℕ → List (List ℕ)
stop_labels stop = elim stop [ None ↦ [] | Some point ↦ (codes "stop " ++ decimal point) ∷ [] ]
