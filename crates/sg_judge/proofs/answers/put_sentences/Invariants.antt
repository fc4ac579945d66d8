-- The sentences so far stand after what was there.
use Rattle.std.proofs.Common.{◌≡◌, ◌++◌, take}
use Rattle.std.specs.List.{flat_map}
use Rattle.sg_judge.specs.AnswerLines.{rule_sentence}
use Rattle.sg_judge.proofs.answers.put_sentences.Given as goal

abbrev pub invariant-loop-rule : goal.invariant-loop-rule
invariant-loop-rule l = l.out ≡ l.initial.out ++ flat_map (rule_sentence l.fun) (take l.rule-index l.rules)
