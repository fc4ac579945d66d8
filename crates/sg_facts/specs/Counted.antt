-- Fields that count: a function sets them to a returned word, or adds one. One that only subtracts it doesn't count.
use Rattle.std.specs.Prelude.{ℕ, ◌+◌, ◌<◌, ◌==◌, Bool, true, false, ◌&&◌, if◌then◌else◌, max, List, [], ◌∷◌}
use Rattle.std.specs.List.{list_any}
use Rattle.sg_base.specs.declared.value.Value.{Value}
use Rattle.sg_facts.specs.declared.row.Row.{Row}
use Rattle.sg_facts.specs.declared.shape.Effect.{Effect}
use Rattle.sg_facts.specs.declared.shape.Effect.TheVariants.{SetRet, AddRet, SubRet}
use Rattle.sg_facts.specs.Facts.{Facts}
use Rattle.sg_facts.specs.Track.{word_of}

-- whether an effect takes the returned word
abbrev pub takes_word : Effect → Bool
takes_word SetRet = true
takes_word AddRet = true
takes_word SubRet = true
takes_word _ = false

-- whether an effect may raise its field by the returned word: that is set or added
abbrev pub raises_by_word : Effect → Bool
raises_by_word SetRet = true
raises_by_word AddRet = true
raises_by_word _ = false

-- whether a field counts
abbrev pub is_counted : Facts → ℕ → Bool
is_counted facts x = list_any (λ f. list_any (λ e. (e.0 == x) && raises_by_word e.1) f.effects) facts.funs

-- the greatest word of a counted field among fields that are numbered from a place on
abbrev pub most_in : Facts → ℕ → List Value → ℕ
most_in facts x [] = 0
most_in facts x (v ∷ fields) = max (if is_counted facts x then word_of v else 0) (most_in facts (x + 1) fields)

-- the greatest word of a counted field in rows, 0 where there is none
abbrev pub most_counted : Facts → List Row → ℕ
most_counted facts [] = 0
most_counted facts (r ∷ rows) = max (most_in facts 0 r.fields) (most_counted facts rows)

-- each word of a counted field is below a number
abbrev pub CountedBelow : ℕ → Facts → List Row → Type 0
CountedBelow n facts rows = most_counted facts rows < n
