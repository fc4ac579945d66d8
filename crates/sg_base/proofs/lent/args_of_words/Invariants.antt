-- The first words are arguments.
use Rattle.std.proofs.Common.{◌≡◌, map, take}
use Rattle.sg_base.specs.declared.value.Value.TheVariants.{Word}
use Rattle.sg_base.proofs.lent.args_of_words.Given as goal

abbrev pub invariant-loop-word : goal.invariant-loop-word
invariant-loop-word l = l.args ≡ map Word (take l.word-index l.words)
