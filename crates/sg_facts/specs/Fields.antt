-- Which fields of a row are set.
use Rattle.std.specs.Prelude.{ℕ, ◌+◌, ◌*◌, Bool, if◌then◌else◌, List, [], ◌∷◌, ◌==◌, not, length}
use Rattle.sg_base.specs.declared.value.Value.{Value}
use Rattle.sg_base.specs.declared.value.Value.TheVariants.{Word, Text}
use Rattle.sg_facts.specs.Facts.{Field}

-- a value that isn't 0 or empty
abbrev pub is_set : Value → Bool
is_set value = elim value [ Word n ↦ not (n == 0) | Text bytes ↦ not (length bytes == 0) ]

-- 0, or the empty text, as a field is when its row is made
abbrev pub empty_field : Field → Value
empty_field f = if f.text then Text [] else Word 0

-- a set of fields as a number: bit i for field i
abbrev pub number_of : List Bool → ℕ
number_of [] = 0
number_of (b ∷ bs) = (if b then 1 else 0) + 2 * number_of bs
