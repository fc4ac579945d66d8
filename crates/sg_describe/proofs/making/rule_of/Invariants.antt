-- The tests so far.
use Rattle.std.proofs.Common.{◌≡◌, map, take}
use Rattle.sg_shape.specs.sg_facts.Facts.{facts_of, fun_of_shape}
use Rattle.sg_describe.specs.DescribedText.{test_of, tests_in}
use Rattle.sg_describe.proofs.making.rule_of.Given as goal

abbrev pub invariant-tests : goal.invariant-tests
invariant-tests l = l.tests.items ≡ map (test_of (facts_of l.shape) (fun_of_shape l.fun)) (take l.test-index (tests_in l.rule))
