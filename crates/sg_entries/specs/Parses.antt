-- What a parser has to answer on a line.
use Rattle.std.specs.Prelude.{Bool, ◌≡◌, ℕ, List, ◌++◌, Ok, Err, length}
use Rattle.std.specs.declared.result.Result.{Result}
use Rattle.sg_lex.specs.Sentences.{Begins, IsStuck}
use Rattle.sg_entries.specs.declared.syntax.EntrySyntax.{EntrySyntax}
use Rattle.sg_entries.specs.declared.syntax.EntrySyntax.TheVariants.{NoMemory, Syntax}
use Rattle.sg_entries.specs.declared.tree.EntryOutline.{EntryOutline}
use Rattle.sg_entries.specs.declared.tree.WrittenEntry.{WrittenEntry}
use Rattle.sg_entries.specs.Entry.{IsEntry}

-- what a parser may answer on a line, by whether a function of a name shows its bytes: its entry; or, where it is no entry's, the place of its
-- fault: the bytes before it begin an entry's line, and it goes on to none. Out of memory may be answered at any time
abbrev pub EntryParses : (List ℕ → Bool) → List ℕ → Result WrittenEntry EntrySyntax → Type 0
EntryParses shows line (Ok tree) = IsEntry shows line tree
EntryParses shows line (Err NoMemory) = Unit {0}
EntryParses shows line (Err (Syntax place)) =
    (front : List ℕ) × (rest : List ℕ) × (line ≡ front ++ rest) × (place ≡ length front) × Begins (IsEntry shows) front × IsStuck (IsEntry shows) front rest

-- ---- outlines

-- the outline of an entry: its client, number and function, and how many arguments it has
abbrev pub outline_of : WrittenEntry → EntryOutline
outline_of e = record { client = e.client; seq = e.seq; name = e.name; args = length e.args }

-- what a parser may answer that gives no more than the outline of a line's entry
abbrev pub OutlineParses : (List ℕ → Bool) → List ℕ → Result EntryOutline EntrySyntax → Type 0
OutlineParses shows line (Ok outline) = (tree : WrittenEntry) × EntryParses shows line (Ok tree) × (outline ≡ outline_of tree)
OutlineParses shows line (Err error) = EntryParses shows line (Err error)
