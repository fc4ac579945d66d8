-- Values that are words, and one more.
use Rattle.std.proofs.Common.{List, [], ◌∷◌, ◌++◌}
use Rattle.sg_facts.specs.sg_base.declared.value.Value.{Value}
use Rattle.sg_facts.specs.sg_base.declared.value.Value.TheVariants.{Word, Text}
use Rattle.sg_facts.specs.Kinds.{AreWords}

-- an argument more
pub words_and_one : (values : List Value) (value : Value) → AreWords values → AreWords (value ∷ []) → AreWords (values ++ value ∷ [])
words_and_one [] value h m = m
words_and_one (Word n ∷ values) value h m = (h.0, words_and_one values value h.1 m)
words_and_one (Text bytes ∷ values) value h m = words_and_one values value h m
