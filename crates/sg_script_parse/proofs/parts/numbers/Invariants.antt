-- The numbers so far were read.
use Rattle.std.proofs.Common.{◌≡◌, ◌≤◌, List, [], length}
use Rattle.sg_lex.specs.Lexeme.{Spelling}
use Rattle.sg_script_parse.specs.Grammar.Inside.States.{ScriptState, counts, scripts}
use Rattle.sg_lex.specs.Inside.Automata.{read}
use Rattle.sg_script_parse.proofs.parts.numbers.Given as goal

abbrev pub invariant-numbers : goal.invariant-numbers
invariant-numbers l = record {
  read_so_far : (k : List Spelling → ScriptState) → read scripts (counts [] k) l.fn.reader ≡ read scripts (counts l.numbers k) l.reader;
  fewer : length l.reader.rest ≤ length l.fn.reader.rest;
}

abbrev pub decreases-numbers : goal.decreases-numbers
decreases-numbers l = length l.reader.rest
