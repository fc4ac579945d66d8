-- Where words and arguments stand. No public clause cites this module.
use Rattle.std.specs.Prelude.{ℕ, List, [], ◌∷◌, map}
use Rattle.sg_base.specs.Few.{few_in}
use Rattle.sg_base.specs.declared.args.KeptArgs.{KeptArgs}
use Rattle.sg_base.specs.declared.args.KeptArgs.TheVariants.{Words, One, Values}
use Rattle.sg_base.specs.declared.value.Value.{Value}
use Rattle.sg_base.specs.declared.value.Value.TheVariants.{Word}
use Rattle.sg_base.specs.declared.words.KeptWords.{KeptWords}
use Rattle.sg_base.specs.declared.words.KeptWords.TheVariants.{Few, Many}

-- the words
abbrev pub words_of : KeptWords → List ℕ
words_of (Few words) = few_in words
words_of (Many words) = words.items

-- the arguments
abbrev pub args_of : KeptArgs → List Value
args_of (Words words) = map Word (few_in words)
args_of (One value) = value ∷ []
args_of (Values values) = values.items
