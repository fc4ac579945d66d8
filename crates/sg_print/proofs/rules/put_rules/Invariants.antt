use Rattle.std.proofs.Common.{◌≡◌, ◌++◌, take}
use Rattle.std.specs.List.{flat_map}
use Rattle.sg_print.specs.RulesText.{rule_line}
use Rattle.sg_print.proofs.rules.put_rules.Given as goal

-- the rules so far stand after what was there
abbrev pub invariant-loop-rule : goal.invariant-loop-rule
invariant-loop-rule l = l.out ≡ l.initial.out ++ flat_map rule_line (take l.rule-index l.rules)
