use Rattle.std.proofs.Common.{◌≡◌, ◌++◌, take, codes}
use Rattle.std.specs.List.{flat_map}
use Rattle.sg_print.specs.RulesText.{test_text}
use Rattle.sg_print.proofs.rules.put_first_tests.Given as goal

-- the tests so far stand after what was there
abbrev pub invariant-loop-test : goal.invariant-loop-test
invariant-loop-test l = l.out ≡ l.initial.out ++ flat_map (λ q. test_text q ++ codes ", ") (take l.test-index l.tests)
