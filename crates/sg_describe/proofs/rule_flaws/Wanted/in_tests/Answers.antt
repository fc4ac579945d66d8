-- Test by test.
use Rattle.std.proofs.Common.{sym, ap, ◌∙◌}
use Rattle.std.specs.Prelude.{slice_get}
use Rattle.std.specs.Option.{option_or}
use Rattle.sg_shape.specs.sg_facts.Facts.{facts_of, fun_of_shape}
use Rattle.sg_shape.proofs.Loops.{first_gathered, nothing_more}
use Rattle.sg_describe.specs.AnswerFlaws.{operand_flaw, term_flaw, test_flaw}
use Rattle.sg_describe.proofs.rule_flaws.Wanted.in_tests.Goals as goal

pub tests-preserved : goal.tests-preserved
tests-preserved c =
    nothing_more (test_flaw (operand_flaw c.args.self.now.kind (facts_of c.args.self.now.shape.now) (fun_of_shape c.args.self.now.fun.now)))
    c.args.tests.now c.tests.test-index c.test-item.result c.tests-test.true c.test-item.is c.tests.invariant (ap (λ o. option_or o (term_flaw (operand_flaw c.args.self.now.kind (facts_of c.args.self.now.shape.now) (fun_of_shape c.args.self.now.fun.now)) c.test-item.result.right)) (sym c.in_term.ensures) ∙ ap (option_or c.in_term.result) (sym c.in_term-in-tests.ensures) ∙ sym c.in_default.ensures)

pub returns-in-Some : goal.returns-in-Some
returns-in-Some c =
    sym (ap (λ l. slice_get l 0)
    (first_gathered (test_flaw (operand_flaw c.args.self.now.kind (facts_of c.args.self.now.shape.now) (fun_of_shape c.args.self.now.fun.now)))
    c.args.tests.now c.tests.test-index c.test-item.result c.in-Some.at c.tests-test.true c.test-item.is c.tests.invariant (ap (λ o. option_or o (term_flaw (operand_flaw c.args.self.now.kind (facts_of c.args.self.now.shape.now) (fun_of_shape c.args.self.now.fun.now)) c.test-item.result.right)) (sym c.in_term.ensures) ∙ ap (option_or c.in_term.result) (sym c.in_term-in-tests.ensures) ∙ sym c.in-Some.ensures)))
