-- Rule by rule.
use Rattle.std.proofs.Common.{sym, ap}
use Rattle.std.specs.Prelude.{slice_get}
use Rattle.sg_shape.specs.sg_facts.Facts.{facts_of, fun_of_shape}
use Rattle.sg_shape.proofs.Loops.{first_gathered, nothing_more}
use Rattle.sg_describe.specs.AnswerFlaws.{rule_flaw}
use Rattle.sg_describe.proofs.rule_flaws.Wanted.in_rules.Goals as goal

pub rules-preserved : goal.rules-preserved
rules-preserved c =
    nothing_more (rule_flaw c.args.self.now.kind (facts_of c.args.self.now.shape.now) (fun_of_shape c.args.self.now.fun.now))
    c.args.rules.now c.rules.rule-index c.rule-item.result c.rules-test.true c.rule-item.is c.rules.invariant (sym c.in_default.ensures)

pub returns-in-Some : goal.returns-in-Some
returns-in-Some c =
    sym (ap (λ l. slice_get l 0)
    (first_gathered (rule_flaw c.args.self.now.kind (facts_of c.args.self.now.shape.now) (fun_of_shape c.args.self.now.fun.now))
    c.args.rules.now c.rules.rule-index c.rule-item.result c.in-Some.at c.rules-test.true c.rule-item.is c.rules.invariant (sym c.in-Some.ensures)))
