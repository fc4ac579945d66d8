use Rattle.sg_facts.specs.Kinds.{AreWords}
use Rattle.test_world.proofs.events.args_of.Given as goal

abbrev pub invariant-loop-word : goal.invariant-loop-word
invariant-loop-word l = AreWords l.args
