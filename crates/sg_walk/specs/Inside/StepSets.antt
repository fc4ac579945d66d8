-- Lists of pairs that have the same pairs.
use Rattle.std.specs.Prelude.{ℕ, ◌≡◌, List}
use Rattle.sg_facts.specs.Interface.{has_pair}

-- a set has just the pairs of a list
abbrev pub SamePairs : List (ℕ × ℕ) → List (ℕ × ℕ) → Type 0
SamePairs pairs set = (state fun : ℕ) → has_pair set state fun ≡ has_pair pairs state fun
