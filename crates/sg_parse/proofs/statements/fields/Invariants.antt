-- The fields so far were read.
use Rattle.std.proofs.Common.{◌≡◌, ◌≤◌, List, [], ◌∷◌, length}
use Rattle.sg_rules.specs.sg_lex.Lexeme.{Spelling as Named}
use Rattle.sg_rules.specs.sg_lex.Inside.Automata.{read}
use Rattle.sg_parse.specs.declared.words.Sort.TheVariants.{Name}
use Rattle.sg_parse.specs.Grammar.Inside.States.{State, fielded, want, trees}
use Rattle.sg_parse.proofs.statements.fields.Given as goal

abbrev pub invariant-fields : goal.invariant-fields
invariant-fields l = record {
  read_so_far : (k : List Named → State) → read trees (want Name (λ first. fielded (first ∷ []) k)) l.fn.reader ≡ read trees (fielded l.fields k) l.reader;
  fewer : length l.reader.rest ≤ length l.fn.reader.rest;
}

abbrev pub decreases-fields : goal.decreases-fields
decreases-fields l = length l.reader.rest
