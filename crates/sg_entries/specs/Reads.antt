-- What is answered on the text of a printed run for an interface.
use Rattle.std.specs.Prelude.{Bool, ℕ, ◌≡◌, ◌⊎◌, ◌+◌, List, [], ◌∷◌, ◌++◌, map, Ok, Err}
use Rattle.std.specs.List.{AllZip}
use Rattle.std.specs.declared.result.Result.{Result}
use Rattle.sg_entries.specs.Flaws.{Flaw, flaws_from}
use Rattle.sg_entries.specs.Lines.{entry_lines_of}
use Rattle.sg_entries.specs.Standing.{entry_of}
use Rattle.sg_entries.specs.declared.error.EntriesError.{EntriesError}
use Rattle.sg_entries.specs.declared.error.EntriesError.TheVariants.{NoMemory, Fault}
use Rattle.sg_entries.specs.declared.error.EntriesKind.TheVariants.{Syntax}
use Rattle.sg_entries.specs.Parses.{EntryParses}
use Rattle.sg_entries.specs.sg_lex.Lexeme.{Spelling}
use Rattle.sg_entries.specs.declared.syntax.EntrySyntax.TheVariants.{Syntax as syntax}
use Rattle.sg_entries.specs.declared.tree.WrittenEntry.{WrittenEntry}
use Rattle.sg_facts.specs.Interface.{Declared}
use Rattle.sg_facts.specs.declared.entry.Entry.{Entry}
use Rattle.sg_facts.specs.sg_base.Room.{Roomy}

-- each line is an entry's, one for each of these entries
abbrev pub AreEntries : (List ℕ → Bool) → List Spelling → List WrittenEntry → Type 0
AreEntries shows lines entries = AllZip (λ (l : Spelling) e. EntryParses shows l.bytes (Ok e)) lines entries

-- what may be answered: the history that the entry lines of a text stand for, where each is an entry's and nothing is wrong with these; the
-- place at which the first line fails that is none; or what is first wrong with the entries. Want of memory may come at any time
abbrev pub IsReadOf : (List ℕ → Bool) → Declared → List ℕ → Result (List Entry) EntriesError → Type 0
IsReadOf shows i text (Ok history) =
    (entries : List WrittenEntry) × AreEntries shows (entry_lines_of text) entries × (flaws_from i 1 (entry_lines_of text) entries ≡ [])
    × (history ≡ map (entry_of i) entries)
IsReadOf shows i text (Err NoMemory) = Unit {0}
IsReadOf shows i text (Err (Fault kind at)) =
    ((before : List Spelling) × (line : Spelling) × (rest : List Spelling) × (entries : List WrittenEntry) × (place : ℕ)
    × (entry_lines_of text ≡ before ++ line ∷ rest) × AreEntries shows before entries × EntryParses shows line.bytes (Err (syntax place))
    × (kind ≡ Syntax) × (at ≡ line.at + place))
    ⊎ ((entries : List WrittenEntry) × (others : List Flaw) × AreEntries shows (entry_lines_of text) entries
    × (flaws_from i 1 (entry_lines_of text) entries ≡ record { kind = kind; at = at } ∷ others))

-- an answer without the room that its history has for more
abbrev pub entries_read : Result (Roomy Entry) EntriesError → Result (List Entry) EntriesError
entries_read (Ok history) = Ok history.items
entries_read (Err e) = Err e
