-- The parameters so far were read.
use Rattle.std.proofs.Common.{◌≡◌, ◌≤◌, List, [], length}
use Rattle.sg_parse.specs.declared.tree.Param.{Param}
use Rattle.sg_parse.specs.Grammar.Inside.States.{State, listed, param, trees}
use Rattle.sg_rules.specs.sg_lex.Inside.Automata.{read}
use Rattle.sg_parse.proofs.params.params.Given as goal

abbrev pub invariant-params : goal.invariant-params
invariant-params l = record {
  read_so_far : (k : List Param → State) → read trees (param k []) l.fn.reader ≡ read trees (listed l.params k) l.reader;
  fewer : length l.reader.rest ≤ length l.fn.reader.rest;
}

abbrev pub decreases-params : goal.decreases-params
decreases-params l = length l.reader.rest
