-- The names so far were read.
use Rattle.std.proofs.Common.{◌≡◌, ◌≤◌, List, [], ℕ, length}
use Rattle.sg_rules.specs.sg_lex.Lexeme.{Spelling as Named}
use Rattle.sg_parse.specs.Grammar.Inside.States.{State, names, trees}
use Rattle.sg_rules.specs.sg_lex.Inside.Automata.{read}
use Rattle.sg_parse.proofs.types.names.Given as goal

abbrev pub invariant-names : goal.invariant-names
invariant-names l = record {
  read_so_far : (k : List Named → Named → ℕ → State) → read trees (names [] l.fn.first k) l.fn.reader ≡ read trees (names l.front l.last k) l.reader;
  fewer : length l.reader.rest ≤ length l.fn.reader.rest;
}

abbrev pub decreases-names : goal.decreases-names
decreases-names l = length l.reader.rest
