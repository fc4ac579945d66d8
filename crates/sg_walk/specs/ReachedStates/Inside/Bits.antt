-- Sets of fields from their numbers.
use Rattle.std.specs.Prelude.{ℕ, zero, suc, ◌/◌, ◌%◌, ◌==◌, Bool, List, [], ◌∷◌, length}
use Rattle.sg_facts.specs.Interface.{Declared}

-- the set of so many fields that has a number: bit i for field i
abbrev pub bits : ℕ → ℕ → List Bool
bits zero number = []
bits (suc count) number = (number % 2 == 1) ∷ bits count (number / 2)

-- the set of an interface's fields that has a number
abbrev pub set_numbered : Declared → ℕ → List Bool
set_numbered i number = bits (length i.facts.fields) number
