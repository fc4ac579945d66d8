-- When the code takes two values for the same.
use Rattle.std.specs.Prelude.{ℕ, Bool, List, [], ◌∷◌, nat_eq}
use Rattle.std.specs.Cmp.Lexicographic.{pointwise}
use Rattle.sg_base.specs.declared.value.Value.{Value}
use Rattle.sg_base.specs.declared.value.Value.TheVariants.{Word, Text}

-- a value as numbers: which of the two it is, and what is in it
abbrev pub value_code : Value → List ℕ
value_code (Word n) = 0 ∷ n ∷ []
value_code (Text bytes) = 1 ∷ bytes

-- these are the same
abbrev pub same_value : Value → Value → Bool
same_value x y = pointwise nat_eq (value_code x) (value_code y)
