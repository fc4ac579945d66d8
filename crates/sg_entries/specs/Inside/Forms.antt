-- The pieces of an entry by name, and what holds of an entry part by part.
use Rattle.std.specs.Prelude.{ℕ, Bool, List, [], ◌∷◌, ◌++◌, None, Some, codes}
use Rattle.std.specs.declared.option.Option.{Option}
use Rattle.std.specs.List.{flat_map}
use Rattle.sg_lex.specs.Lexeme.{Spelling}
use Rattle.sg_entries.specs.declared.tree.WrittenArg.{WrittenArg}
use Rattle.sg_entries.specs.declared.tree.WrittenEntry.{WrittenEntry}
use Rattle.sg_entries.specs.Pieces.{EntryPiece, fixed, number, positive, piece_bytes, ArePlaced}
use Rattle.sg_entries.specs.Entry.{text_pieces, arg_pieces, entry_pieces, IsAnswer}

-- the double quote
abbrev pub quote_byte : ℕ
quote_byte = 0x22

-- an argument after others
abbrev pub next_arg_pieces : WrittenArg → List EntryPiece
next_arg_pieces a = fixed (codes ", ") ∷ arg_pieces a

-- arguments, with a comma and a space between them
abbrev pub args_pieces : List WrittenArg → List EntryPiece
args_pieces [] = []
args_pieces (a ∷ args) = arg_pieces a ++ flat_map next_arg_pieces args

-- the descriptor of an Ok, where it has one
abbrev pub desc_pieces : Option Spelling → List EntryPiece
desc_pieces None = []
desc_pieces (Some d) = fixed (codes " #") ∷ positive d ∷ []

-- a word of an Ok
abbrev pub word_pieces : Spelling → List EntryPiece
word_pieces w = fixed (codes " ") ∷ number w ∷ []

-- the bytes of an Ok, where they are shown
abbrev pub bytes_pieces : Option Spelling → List EntryPiece
bytes_pieces None = []
bytes_pieces (Some t) = fixed (codes " ") ∷ text_pieces t

-- the bytes of an entry's line, without a line's end
abbrev pub entry_bytes : WrittenEntry → List ℕ
entry_bytes e = flat_map piece_bytes (entry_pieces e)

-- each piece is what it is said to be and stands at its place, and the answer is one of this function, by whether a function of its name
-- shows its bytes
abbrev pub IsWellFormed : (List ℕ → Bool) → WrittenEntry → Type 0
IsWellFormed shows e = ArePlaced 0 (entry_pieces e) × IsAnswer (shows e.name.bytes) e.answer
