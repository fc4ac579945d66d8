-- The arguments so far were read.
use Rattle.std.proofs.Common.{◌≡◌, ◌≤◌, List, length}
use Rattle.sg_script_parse.specs.declared.tree.WrittenArg.{WrittenArg}
use Rattle.sg_script_parse.specs.Grammar.Inside.States.{ScriptState, bracketed, listed, scripts}
use Rattle.sg_lex.specs.Inside.Automata.{read}
use Rattle.sg_script_parse.proofs.calls.bracketed.Given as goal

abbrev pub invariant-commas : goal.invariant-commas
invariant-commas l = record {
  read_so_far : (k : List WrittenArg → ScriptState) → read scripts (bracketed k) l.fn.reader ≡ read scripts (listed l.args k) l.reader;
  fewer : length l.reader.rest ≤ length l.fn.reader.rest;
}

abbrev pub decreases-commas : goal.decreases-commas
decreases-commas l = length l.reader.rest
