-- What a call of `strikes` does to the count of points asked and to the list of strikes.
use Rattle.std.specs.Prelude.{ℕ, ◌+◌, Bool, true, false, List, [], ◌∷◌, ◌++◌, min, max}
use Rattle.sg_base.specs.Counts.{last_count}

-- the number asked after so many more points: it stands still at the greatest
abbrev pub asked_after : ℕ → ℕ → ℕ
asked_after asked more = max asked (min (asked + more) last_count)

-- the strikes after an answer at the point of this number: a strike adds the number, and nothing else is added
abbrev pub struck_after : List ℕ → ℕ → Bool → List ℕ
struck_after struck point true = struck ++ point ∷ []
struck_after struck point false = struck
