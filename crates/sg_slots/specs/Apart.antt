-- Rows of which no two have one number.
use Rattle.std.specs.Prelude.{ℕ, ◌≡◌, ◌==◌, false, List, [], ◌∷◌}
use Rattle.std.specs.List.{list_any}
use Rattle.sg_facts.specs.declared.row.Row.{Row}

-- no two rows have one number
abbrev pub AreApart : (Row → ℕ) → List Row → Type 0
AreApart number [] = Unit {0}
AreApart number (r ∷ rows) = (list_any (λ s. number s == number r) rows ≡ false) × AreApart number rows
