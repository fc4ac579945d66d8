-- What lent arguments stand for.
use Rattle.std.specs.Prelude.{List, map}
use Rattle.sg_base.specs.declared.args.LentArgs.{LentArgs}
use Rattle.sg_base.specs.declared.args.LentArgs.TheVariants.{Words, Values}
use Rattle.sg_base.specs.declared.args.LentValue.{LentValue}
use Rattle.sg_base.specs.declared.args.LentValue.TheVariants.{Word as WordLent, Text as TextLent}
use Rattle.sg_base.specs.declared.value.Value.{Value}
use Rattle.sg_base.specs.declared.value.Value.TheVariants.{Word, Text}

-- the value
abbrev pub value_in : LentValue → Value
value_in (WordLent word) = Word word
value_in (TextLent text) = Text text.now

-- the arguments
abbrev pub args_in : LentArgs → List Value
args_in (Words words) = map Word words.now
args_in (Values values) = values.now
