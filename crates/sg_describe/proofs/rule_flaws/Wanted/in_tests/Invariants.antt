-- No test so far has an operand with the flaw.
use Rattle.std.proofs.Common.{◌≡◌, [], take}
use Rattle.std.specs.List.{filter_map}
use Rattle.sg_shape.specs.sg_facts.Facts.{facts_of, fun_of_shape}
use Rattle.sg_describe.specs.AnswerFlaws.{operand_flaw, test_flaw}
use Rattle.sg_describe.proofs.rule_flaws.Wanted.in_tests.Given as goal

abbrev pub invariant-tests : goal.invariant-tests
invariant-tests l = filter_map (test_flaw (operand_flaw l.self.kind (facts_of l.self.shape.now) (fun_of_shape l.self.fun.now))) (take l.test-index l.tests) ≡ []
