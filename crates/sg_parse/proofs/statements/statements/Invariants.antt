-- The statements so far were read.
use Rattle.std.proofs.Common.{◌≡◌, [], length}
use Rattle.sg_parse.specs.Grammar.Inside.States.{statements, trees}
use Rattle.sg_rules.specs.sg_lex.Inside.Automata.{read}
use Rattle.sg_parse.proofs.statements.statements.Given as goal

abbrev pub invariant-statements : goal.invariant-statements
invariant-statements l = read trees (statements l.fn.facts []) l.fn.reader ≡ read trees (statements l.fn.facts l.statements) l.reader

abbrev pub decreases-statements : goal.decreases-statements
decreases-statements l = length l.reader.rest
