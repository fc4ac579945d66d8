-- The first words are listed.
use Rattle.std.proofs.Common.{◌≡◌, map, take}
use Rattle.sg_base.specs.declared.value.Value.TheVariants.{Word}
use Rattle.sg_base.proofs.args.values_of.Given as goal

abbrev pub invariant-loop-word : goal.invariant-loop-word
invariant-loop-word l = l.values.items ≡ map Word (take l.word-index l.words)
