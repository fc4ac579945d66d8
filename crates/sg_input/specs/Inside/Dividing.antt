-- The line that divides an input, and what stands before it.
use Rattle.std.specs.Prelude.{ℕ, ◌≡◌, ◌⊎◌, List, [], ◌∷◌, ◌++◌, codes}
use Rattle.sg_facts.specs.Words.{line_end}

-- a line of `%%` alone, with its end and before what stands after it: it ends with LF, with CR LF, or with the input
abbrev pub IsDivider : List ℕ → List ℕ → Type 0
IsDivider line behind = (line ≡ codes "%%" ++ line_end) ⊎ ((line ≡ codes "%%" ++ 13 ∷ line_end) ⊎ ((line ≡ codes "%%") × (behind ≡ [])))

-- bytes end where a line begins
abbrev pub AreLines : List ℕ → Type 0
AreLines bytes = (bytes ≡ []) ⊎ ((front : List ℕ) × (bytes ≡ front ++ line_end))
