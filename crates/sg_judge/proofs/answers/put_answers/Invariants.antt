-- The sentences so far stand after what was there.
use Rattle.std.proofs.Common.{◌≡◌, ◌++◌, take}
use Rattle.std.specs.List.{flat_map}
use Rattle.sg_judge.specs.AnswerLines.{answers_in}
use Rattle.sg_judge.proofs.answers.put_answers.Given as goal

abbrev pub invariant-loop-statement : goal.invariant-loop-statement
invariant-loop-statement l = l.out ≡ l.initial.out ++ flat_map answers_in (take l.statement-index l.statements)
