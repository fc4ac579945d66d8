use Rattle.std.proofs.Common.{◌≡◌, ◌-◌, ◌≤◌, length, drop}
use Rattle.sg_lex.specs.Tokens.{later_answers}
use Rattle.sg_lex.proofs.lexer.after_gaps.Given as goal

-- the place is within the text, and the answers to come are those at the start
abbrev pub invariant-gaps : goal.invariant-gaps
invariant-gaps l = record {
  within : l.at ≤ length l.text;
  answers : later_answers 0 l.at (drop l.at l.text) ≡ later_answers 0 l.from (drop l.from l.text);
}

abbrev pub decreases-gaps : goal.decreases-gaps
decreases-gaps l = length l.text - l.at
