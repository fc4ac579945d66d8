-- What is read of a line from a state on, and what a part of the parser says of that.
use Rattle.std.specs.Prelude.{◌≡◌, ◌≢◌, ℕ, ◌+◌, List, [], ◌∷◌, None, Some, Ok, Err, length}
use Rattle.std.specs.declared.option.Option.{Option}
use Rattle.std.specs.declared.result.Result.{Result}
use Rattle.std.specs.Option.{option_map_or}
use Rattle.sg_entries.specs.declared.syntax.EntrySyntax.{EntrySyntax}
use Rattle.sg_entries.specs.declared.syntax.EntrySyntax.TheVariants.{NoMemory, Syntax}
use Rattle.sg_entries.specs.declared.tree.EntryOutline.{EntryOutline}
use Rattle.sg_entries.specs.declared.tree.WrittenArg.{WrittenArg}
use Rattle.sg_entries.specs.declared.tree.WrittenEntry.{WrittenEntry}
use Rattle.sg_entries.specs.Parses.{outline_of}
use Rattle.sg_lex.specs.Lexeme.{Spelling}
use Rattle.sg_entries.specs.Inside.States.{EntryState, step, entry_at}

-- what is still to be read of a line: its bytes, and the place of the first
pub record Ahead : Type 0 where
  pub at : ℕ
  pub rest : List ℕ

-- the answer at the end of a line
abbrev pub ended : ℕ → Option WrittenEntry → Result WrittenEntry EntrySyntax
ended place None = Err (Syntax place)
ended place (Some e) = Ok e

-- the answer where these bytes come from a place on
unfoldable pub read_from : EntryState → ℕ → List ℕ → Result WrittenEntry EntrySyntax
read_from s place [] = ended place (entry_at s)
read_from s place (b ∷ bs) = option_map_or (λ next. read_from next (place + 1) bs) (step s place b) (Err (Syntax place))

-- the answer where reading goes on from a state
abbrev pub read : EntryState → Ahead → Result WrittenEntry EntrySyntax
read s ahead = read_from s ahead.at ahead.rest

-- a part of the parser before which this was to be read, and that gave a value, goes on in the state of that value; an
-- error is what was to be read, out of memory aside
abbrev pub Leads : {X : Type 0} → Result WrittenEntry EntrySyntax → Result X EntrySyntax → (X → EntryState) → Ahead → Type 0
Leads before (Ok value) go new = before ≡ read (go value) new
Leads before (Err error) go new = error ≢ NoMemory → before ≡ Err error

-- the last part of the parser, before which this was to be read: so it is of the value that it gave
abbrev pub Ends : {X : Type 0} → Result WrittenEntry EntrySyntax → Result X EntrySyntax → (X → WrittenEntry) → Type 0
Ends before (Ok value) go = before ≡ Ok (go value)
Ends before (Err error) go = error ≢ NoMemory → before ≡ Err error

-- a part of the parser that takes a further word where one comes, of so many that may, goes on with the word, or at the
-- end without one
abbrev pub LeadsOn : Result WrittenEntry EntrySyntax → Result (Option Spelling) EntrySyntax → (Spelling → EntryState) → EntryState → Ahead → Type 0
LeadsOn before (Ok (Some word)) go end new = before ≡ read (go word) new
LeadsOn before (Ok None) go end new = before ≡ read end new
LeadsOn before (Err error) go end new = error ≢ NoMemory → before ≡ Err error

-- a part of the parser that gave how many arguments it read goes on in the state of these arguments
abbrev pub CountLeads : Result WrittenEntry EntrySyntax → Result ℕ EntrySyntax → (List WrittenArg → EntryState) → Ahead → Type 0
CountLeads before (Ok count) go new = (args : List WrittenArg) × (count ≡ length args) × (before ≡ read (go args) new)
CountLeads before (Err error) go new = error ≢ NoMemory → before ≡ Err error

-- the whole of a parser that gave an outline: so it is of the entry that was to be read
abbrev pub OutlineEnds : Result WrittenEntry EntrySyntax → Result EntryOutline EntrySyntax → Type 0
OutlineEnds before (Ok outline) = (tree : WrittenEntry) × (before ≡ Ok tree) × (outline ≡ outline_of tree)
OutlineEnds before (Err error) = error ≢ NoMemory → before ≡ Err error
