-- What is said of a text.
use Rattle.std.specs.Prelude.{ℕ, ◌≡◌, ◌==◌, Bool, if◌then◌else◌, List, ◌++◌, Ok, Err, codes, [], slice_get}
use Rattle.std.specs.Option.{option_map_or}
use Rattle.sg_facts.specs.Words.{line_end}
use Rattle.sg_facts.specs.Facts.{Facts}
use Rattle.sg_facts.specs.Interface.{Declared}
use Rattle.sg_facts.specs.Tables.{AreTables, Compiled}
use Rattle.sg_print.specs.Printed.{printed}
use Rattle.sg_print.specs.TablesText.{tables_text}
use Rattle.sg_print.specs.sg_parse.sg_rules.declared.error.ParseError.TheVariants.{Lex as lex_fault, Syntax as syntax_fault}
use Rattle.sg_print.specs.sg_parse.declared.tree.Tree.{Tree}
use Rattle.sg_print.specs.sg_parse.Grammar.Parses.{Parses}
use Rattle.sg_print.specs.sg_parse.Grammar.Upgraded.{upgraded}
use Rattle.sg_stub.specs.sg_check_statements.Faults.{IsAccepted, IsFault, check_kinds, kind_rank}
use Rattle.sg_input.specs.declared.read.Read.{Read}
use Rattle.sg_input.specs.declared.read.Read.TheVariants.{Ready, Refused}
use Rattle.sg_input.specs.declared.refusal.RefusalKind.{RefusalKind}
use Rattle.sg_input.specs.declared.refusal.RefusalKind.TheVariants.{Lex, Syntax, Check}
use Rattle.sg_input.specs.Lines.{refused_line}

-- whether a text describes a service of its own: it is of version 3
abbrev pub is_own : Tree → Bool
is_own tree = tree.facts.version == 3

-- the services among which that of a text is looked for: those that there are, and none where the text describes its own
abbrev pub services_for : List Facts → Tree → List Facts
services_for services tree = if is_own tree then [] else services

-- the name of a kind of refusal
abbrev pub refusal_name : RefusalKind → List ℕ
refusal_name Lex = codes "Lex"
refusal_name Syntax = codes "Syntax"
refusal_name (Check kind) = option_map_or (λ p. p.1) (slice_get check_kinds (kind_rank kind)) []

-- what a text is refused for, and where: no token begins at the place; or the tokens don't go on to a sentence there; or the
-- text is a sentence, and that is first wrong with its tree. A text is refused for one kind at one place at most.
abbrev pub IsRefused : List Facts → List ℕ → RefusalKind → ℕ → Type 0
IsRefused services text Lex at = Parses text (Err (lex_fault at))
IsRefused services text Syntax at = Parses text (Err (syntax_fault at))
IsRefused services text (Check kind) at = (tree : Tree) × Parses text (Ok tree) × IsFault (services_for services tree) tree kind at

-- what is said of a text: it is a sentence whose tree is accepted, and the line names the service; or it is refused, and the
-- line says for what and where
abbrev pub IsVerdict : List Facts → List ℕ → Read (List ℕ) → Type 0
IsVerdict services text (Ready line) =
    (tree : Tree) × (i : Declared) × Parses text (Ok tree) × IsAccepted (services_for services tree) tree i × (line ≡ codes "accepted " ++ i.facts.name ++ line_end)
IsVerdict services text (Refused line) =
    (kind : RefusalKind) × (at : ℕ) × IsRefused services text kind at
    × (line ≡ refused_line (codes "interface refused at ") text at (refusal_name kind))

-- what is said of a text by its tables: it is a sentence whose tree is accepted, and this is the text of the tables of its
-- interface; or it is refused, as by its verdict
abbrev pub IsCompiled : List Facts → List ℕ → Read (List ℕ) → Type 0
IsCompiled services text (Ready output) =
    (tree : Tree) × (tables : Compiled) × Parses text (Ok tree) × IsAccepted (services_for services tree) tree tables.iface × AreTables tables.iface tables.walks × (output ≡ tables_text tables)
IsCompiled services text (Refused line) = IsVerdict services text (Refused line)

-- what is said of a text by what it is upgraded to: it is a sentence whose tree is accepted, and this is the canonical text of that
-- tree as one of version 2; or it is refused, as by its verdict
abbrev pub IsUpgraded : List Facts → List ℕ → Read (List ℕ) → Type 0
IsUpgraded services text (Ready output) =
    (tree : Tree) × (i : Declared) × Parses text (Ok tree) × IsAccepted (services_for services tree) tree i × (output ≡ printed (upgraded tree))
IsUpgraded services text (Refused line) = IsVerdict services text (Refused line)
