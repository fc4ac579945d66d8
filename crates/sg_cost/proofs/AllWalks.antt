-- The walks of all rows, together.
use Rattle.std.proofs.Common.{◌≡◌, ◌+◌, List, [], ◌∷◌, map, refl, ap, Some}
use Rattle.sg_cost.specs.Costs.{all_lengths, walk_length}
use Rattle.sg_cost.specs.Inside.Pieces.{row_cost}
use Rattle.sg_cost.specs.Inside.Lines.{total}
use Rattle.sg_facts.specs.declared.row.Row.{Row}
use Rattle.sg_facts.specs.declared.tables.WalkLine.{WalkLine}

pub total_rows : (walks : List WalkLine) (rows : List Row) → total (map (row_cost walks) rows) ≡ all_lengths walks rows
total_rows walks [] = refl
total_rows walks (r ∷ rows) = ap (λ n. walk_length walks (Some r) + n) (total_rows walks rows)
