-- Where an input is divided.
use Rattle.std.specs.Prelude.{ℕ, ◌≡◌, ◌≤◌, ◌⊎◌, List, [], ◌∷◌, ◌++◌, codes, length}
use Rattle.sg_facts.specs.Words.{line_end}

-- a line of `%%` alone stands between these bytes of an input
pub record Divides (input before behind : List ℕ) : Type 0 where
  pub line : List ℕ
  -- it ends with LF, with CR LF, or with the input
  pub divider : (line ≡ codes "%%" ++ line_end) ⊎ ((line ≡ codes "%%" ++ 13 ∷ line_end) ⊎ ((line ≡ codes "%%") × (behind ≡ [])))
  -- it stands where a line begins
  pub lines : (before ≡ []) ⊎ ((front : List ℕ) × (before ≡ front ++ line_end))
  pub whole : input ≡ before ++ (line ++ behind)

-- the first such line stands between them
pub record IsCut (input before behind : List ℕ) : Type 0 where
  pub divides : Divides input before behind
  pub first : (before' behind' : List ℕ) → Divides input before' behind' → length before ≤ length before'
