-- The stars so far were read, and each was one of the tokens that were still to come.
use Rattle.std.proofs.Common.{◌≡◌, ◌+◌, ◌≤◌, List, ℕ, length}
use Rattle.sg_rules.specs.sg_lex.Lexeme.{Spelling as Named}
use Rattle.sg_parse.specs.Grammar.Inside.States.{State, stars, trees}
use Rattle.sg_rules.specs.sg_lex.Inside.Automata.{read}
use Rattle.sg_parse.proofs.types.stars.Given as goal

abbrev pub invariant-stars : goal.invariant-stars
invariant-stars l = record {
  read_so_far : (front : List Named) (last : Named) (k : List Named → Named → ℕ → State) →
      read trees (stars front last 0 k) l.fn.reader ≡ read trees (stars front last l.count k) l.reader;
  counted : l.count + length l.reader.rest ≤ l.most;
  fewer : length l.reader.rest ≤ length l.fn.reader.rest;
}

abbrev pub decreases-stars : goal.decreases-stars
decreases-stars l = length l.reader.rest
