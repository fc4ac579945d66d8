-- The calls so far were read.
use Rattle.std.proofs.Common.{◌≡◌, ◌≤◌, List, length}
use Rattle.sg_script_parse.specs.declared.tree.WrittenCall.{WrittenCall}
use Rattle.sg_script_parse.specs.Grammar.Inside.States.{ScriptState, braced, body, scripts}
use Rattle.sg_lex.specs.Inside.Automata.{read}
use Rattle.sg_script_parse.proofs.calls.braced.Given as goal

abbrev pub invariant-calls : goal.invariant-calls
invariant-calls l = record {
  read_so_far : (k : List WrittenCall → ScriptState) → read scripts (braced k) l.fn.reader ≡ read scripts (body l.calls k) l.reader;
  fewer : length l.reader.rest ≤ length l.fn.reader.rest;
}

abbrev pub decreases-calls : goal.decreases-calls
decreases-calls l = length l.reader.rest
