use Rattle.std.proofs.Common.{◌≡◌, ◌++◌, take, codes}
use Rattle.std.specs.List.{flat_map}
use Rattle.sg_print.specs.RulesText.{test_text}
use Rattle.sg_print.proofs.rules.put_all_tests.Given as goal

-- the tests so far stand after the first one
abbrev pub invariant-loop-test : goal.invariant-loop-test
invariant-loop-test l = l.out ≡ l.initial.out ++ flat_map (λ q. codes ", " ++ test_text q) (take l.test-index l.more)
