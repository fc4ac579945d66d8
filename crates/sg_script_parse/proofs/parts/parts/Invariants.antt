-- The parts so far were read.
use Rattle.std.proofs.Common.{◌≡◌, [], length}
use Rattle.sg_script_parse.specs.Grammar.Inside.States.{script, scripts}
use Rattle.sg_lex.specs.Inside.Automata.{read}
use Rattle.sg_script_parse.proofs.parts.parts.Given as goal

abbrev pub invariant-parts : goal.invariant-parts
invariant-parts l = read scripts (script l.several []) l.fn.reader ≡ read scripts (script l.several l.parts) l.reader

abbrev pub decreases-parts : goal.decreases-parts
decreases-parts l = length l.reader.rest
