-- What a line is read to, by its place in the text.
use Rattle.std.specs.Prelude.{Bool, ℕ, ◌≡◌, ◌+◌, List, ◌∷◌, ◌++◌, Ok, Err}
use Rattle.std.specs.declared.result.Result.{Result}
use Rattle.sg_entries.specs.Reads.{AreEntries, IsReadOf}
use Rattle.sg_entries.specs.Lines.{entry_lines_of}
use Rattle.sg_entries.specs.declared.error.EntriesError.{EntriesError}
use Rattle.sg_entries.specs.declared.error.EntriesError.TheVariants.{NoMemory, Fault}
use Rattle.sg_entries.specs.declared.error.EntriesKind.{EntriesKind}
use Rattle.sg_entries.specs.declared.error.EntriesKind.TheVariants.{Syntax}
use Rattle.sg_facts.specs.Interface.{Declared}
use Rattle.sg_facts.specs.declared.entry.Entry.{Entry}
use Rattle.sg_entries.specs.Parses.{EntryParses, OutlineParses}
use Rattle.sg_entries.specs.sg_lex.Lexeme.{Spelling}
use Rattle.sg_entries.specs.declared.syntax.EntrySyntax.TheVariants.{Syntax as syntax}
use Rattle.sg_entries.specs.declared.tree.EntryOutline.{EntryOutline}
use Rattle.sg_entries.specs.declared.tree.WrittenEntry.{WrittenEntry}

-- a line is no entry's, and fails at this place of the text
pub record FailsIn (shows : List ℕ → Bool) (line : Spelling) (kind : EntriesKind) (at : ℕ) : Type 0 where
  pub is_syntax : kind ≡ Syntax
  pub place : ℕ
  pub fails : EntryParses shows line.bytes (Err (syntax place))
  pub at_is : at ≡ line.at + place

-- the entry of a line, or where it fails; out of memory may be told at any time
abbrev pub IsParsed : (List ℕ → Bool) → Spelling → Result WrittenEntry EntriesError → Type 0
IsParsed shows line (Ok e) = EntryParses shows line.bytes (Ok e)
IsParsed shows line (Err NoMemory) = Unit {0}
IsParsed shows line (Err (Fault kind at)) = FailsIn shows line kind at

-- the outline of a line's entry, or where the line fails; out of memory may be told at any time
abbrev pub IsOutlined : (List ℕ → Bool) → Spelling → Result EntryOutline EntriesError → Type 0
IsOutlined shows line (Ok o) = OutlineParses shows line.bytes (Ok o)
IsOutlined shows line (Err NoMemory) = Unit {0}
IsOutlined shows line (Err (Fault kind at)) = FailsIn shows line kind at

-- an entry line of a text is no entry's, the first of these, and it fails at this place
abbrev pub IsNoEntry : (List ℕ → Bool) → List ℕ → EntriesKind → ℕ → Type 0
IsNoEntry shows text kind at =
    (before : List Spelling) × (line : Spelling) × (rest : List Spelling) × (entries : List WrittenEntry) × (place : ℕ)
    × (entry_lines_of text ≡ before ++ line ∷ rest) × AreEntries shows before entries × EntryParses shows line.bytes (Err (syntax place))
    × (kind ≡ Syntax) × (at ≡ line.at + place)

-- a text has this history
abbrev pub IsHistory : (List ℕ → Bool) → Declared → List ℕ → List Entry → Type 0
IsHistory shows i text history = IsReadOf shows i text (Ok history)

-- each entry line of a text is an entry's
abbrev pub HasEntries : (List ℕ → Bool) → List ℕ → Type 0
HasEntries shows text = (entries : List WrittenEntry) × AreEntries shows (entry_lines_of text) entries

-- each entry line of a text is an entry's, or which is the first that isn't; out of memory may be told at any time
abbrev pub IsChecked : (List ℕ → Bool) → List ℕ → Result (Unit {0}) EntriesError → Type 0
IsChecked shows text (Ok done) = HasEntries shows text
IsChecked shows text (Err NoMemory) = Unit {0}
IsChecked shows text (Err (Fault kind at)) = IsNoEntry shows text kind at
