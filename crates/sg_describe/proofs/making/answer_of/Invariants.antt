-- The rules so far.
use Rattle.std.proofs.Common.{◌≡◌, map, take}
use Rattle.sg_shape.specs.sg_facts.Facts.{facts_of, fun_of_shape}
use Rattle.sg_described.specs.Described.{rule_of as rule_in}
use Rattle.sg_describe.specs.DescribedText.{rule_of}
use Rattle.sg_describe.specs.Said.{rules_said}
use Rattle.sg_describe.proofs.making.answer_of.Given as goal

abbrev pub invariant-rules : goal.invariant-rules
invariant-rules l = map rule_in l.rules.items ≡ map (rule_of (facts_of l.shape) (fun_of_shape l.fun)) (take l.rule-index (rules_said l.fun.name.now l.statements))
