-- What comes of a text before anything is said of it.
use Rattle.std.specs.Prelude.{ℕ, List, Ok}
use Rattle.sg_facts.specs.Facts.{Facts}
use Rattle.sg_facts.specs.Interface.{Declared}
use Rattle.sg_print.specs.sg_parse.declared.tree.Tree.{Tree}
use Rattle.sg_print.specs.sg_parse.Grammar.Parses.{Parses}
use Rattle.sg_stub.specs.sg_check_statements.Faults.{IsAccepted}
use Rattle.sg_input.specs.declared.read.Read.{Read}
use Rattle.sg_input.specs.declared.read.Read.TheVariants.{Ready, Refused}
use Rattle.sg_input.specs.Verdicts.{IsVerdict, services_for}

-- a text is a sentence whose tree declares this interface and is accepted, or the line is the one that refuses it
abbrev pub IsExamined : List Facts → List ℕ → Read Declared → Type 0
IsExamined services text (Ready i) = (tree : Tree) × Parses text (Ok tree) × IsAccepted (services_for services tree) tree i
IsExamined services text (Refused line) = IsVerdict services text (Refused line)
