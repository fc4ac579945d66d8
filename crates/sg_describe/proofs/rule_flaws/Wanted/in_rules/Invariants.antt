-- No rule so far has the flaw.
use Rattle.std.proofs.Common.{◌≡◌, [], take}
use Rattle.std.specs.List.{filter_map}
use Rattle.sg_shape.specs.sg_facts.Facts.{facts_of, fun_of_shape}
use Rattle.sg_describe.specs.AnswerFlaws.{rule_flaw}
use Rattle.sg_describe.proofs.rule_flaws.Wanted.in_rules.Given as goal

abbrev pub invariant-rules : goal.invariant-rules
invariant-rules l = filter_map (rule_flaw l.self.kind (facts_of l.self.shape.now) (fun_of_shape l.self.fun.now)) (take l.rule-index l.rules) ≡ []
