-- What is said of the text of an interface, whatever its version.
use Rattle.std.specs.Prelude.{ℕ, ◌≡◌, ◌⊎◌, true, List, ◌++◌, None, Some, Ok, Err, codes, slice_get}
use Rattle.sg_explain.specs.sg_facts.Facts.{Facts}
use Rattle.sg_explain.specs.sg_facts.Interface.{Declared}
use Rattle.sg_explain.specs.sg_facts.Tables.{AreTables, Compiled}
use Rattle.sg_explain.specs.sg_facts.Words.{line_end}
use Rattle.sg_explain.specs.sg_input.sg_print.TablesText.{tables_text}
use Rattle.sg_explain.specs.sg_input.sg_print.sg_parse.declared.tree.Tree.{Tree}
use Rattle.sg_explain.specs.sg_input.sg_print.sg_parse.Grammar.Parses.{Parses}
use Rattle.sg_explain.specs.sg_input.Lines.{refused_line}
use Rattle.sg_explain.specs.sg_input.sg_lex.Tokens.{answers_of}
use Rattle.sg_explain.specs.sg_input.Verdicts.{IsCompiled, IsUpgraded, IsVerdict, is_own, refusal_name}
use Rattle.sg_explain.specs.sg_input.declared.refusal.RefusalKind.TheVariants.{Syntax}
use Rattle.sg_explain.specs.sg_input.declared.read.Read.{Read}
use Rattle.sg_explain.specs.sg_input.declared.read.Read.TheVariants.{Ready, Refused}
use Rattle.sg_own.specs.Faults.{IsOwnAccepted, IsOwnFault}
use Rattle.sg_own.specs.declared.fault.OwnKind.{OwnKind}
use Rattle.sg_judge.specs.Names.{own_name}

-- a text describes a service of its own, and this is its tree
pub record IsOwnText (text : List ℕ) (tree : Tree) : Type 0 where
  pub parses : Parses text (Ok tree)
  pub own : is_own tree ≡ true

-- the line that refuses such a text, for what is first wrong with it
abbrev pub IsOwnRefusal : List ℕ → Tree → List ℕ → Type 0
IsOwnRefusal text tree line =
    (kind : OwnKind) × (at : ℕ) × IsOwnFault tree kind at × (line ≡ refused_line (codes "interface refused at ") text at (own_name kind))

-- what is said of such a text, by what is said where it is accepted
abbrev pub IsOwnSaid : (List ℕ → Tree → List ℕ → Type 0) → List ℕ → Read (List ℕ) → Type 0
IsOwnSaid Accepts text (Ready output) = (tree : Tree) × IsOwnText text tree × Accepts text tree output
IsOwnSaid Accepts text (Refused line) = (tree : Tree) × IsOwnText text tree × IsOwnRefusal text tree line

-- a text describes no service of its own
abbrev pub IsOfServices : List ℕ → Type 0
IsOfServices text = (tree : Tree) → IsOwnText text tree → ⊥

-- what is said of any text: one that describes a service of its own is judged by itself, any other against the services that there are
abbrev pub IsSaid : (List Facts → List ℕ → Read (List ℕ) → Type 0) → (List ℕ → Tree → List ℕ → Type 0) → List Facts → List ℕ → Read (List ℕ) → Type 0
IsSaid Judged Accepts services text answer = IsOwnSaid Accepts text answer ⊎ (IsOfServices text × Judged services text answer)

-- it is accepted: the line names the service
abbrev pub OwnAccepted : List ℕ → Tree → List ℕ → Type 0
OwnAccepted text tree line = (i : Declared) × IsOwnAccepted tree i × (line ≡ codes "accepted " ++ i.facts.name ++ line_end)

-- its tables
abbrev pub OwnTables : List ℕ → Tree → List ℕ → Type 0
OwnTables text tree output = (tables : Compiled) × IsOwnAccepted tree tables.iface × AreTables tables.iface tables.walks × (output ≡ tables_text tables)

-- the place of the number of a text's version: of its sixth token
abbrev pub version_place : List ℕ → ℕ
version_place text = elim (slice_get (answers_of text) 5) [ None ↦ 0 | Some answer ↦ elim answer [ Ok token ↦ token.at | Err fault ↦ 0 ] ]

-- what `check` and `compile` say of a text
abbrev pub IsChecked : List Facts → List ℕ → Read (List ℕ) → Type 0
IsChecked = IsSaid IsVerdict OwnAccepted

abbrev pub IsTabled : List Facts → List ℕ → Read (List ℕ) → Type 0
IsTabled = IsSaid IsCompiled OwnTables

-- what `upgrade` says of a text: it knows versions 1 and 2, and no text goes on to one of these with the number of another
abbrev pub IsRenewed : List Facts → List ℕ → Read (List ℕ) → Type 0
IsRenewed services text answer =
    (((tree : Tree) × IsOwnText text tree) × (answer ≡ Refused (refused_line (codes "interface refused at ") text (version_place text) (refusal_name Syntax))))
    ⊎ (IsOfServices text × IsUpgraded services text answer)
