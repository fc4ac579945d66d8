-- The first words are arguments.
use Rattle.std.proofs.Common.{◌≡◌, map, take}
use Rattle.test_tables.specs.sg_facts.sg_base.declared.value.Value.TheVariants.{Word}
use Rattle.test_tracker.proofs.calls.call.Given as goal

abbrev pub invariant-words : goal.invariant-words
invariant-words l = l.args ≡ map (λ n. Word n) (take l.word-index l.words)
