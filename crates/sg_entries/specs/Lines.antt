-- The lines of a text in which its entries stand.
use Rattle.std.specs.Prelude.{ℕ, ◌+◌, ◌==◌, ◌&&◌, Bool, false, if◌then◌else◌, List, [], ◌∷◌, length}
use Rattle.std.specs.Char.{is_ascii_digit}
use Rattle.std.specs.List.{slice_split}
use Rattle.sg_entries.specs.sg_lex.Lexeme.{Spelling}

-- lines that follow one another, each with its place; the first stands at this one
abbrev pub placed : ℕ → List (List ℕ) → List Spelling
placed at [] = []
placed at (l ∷ lines) = record { bytes = l; at = at } ∷ placed (at + length l + 1) lines

-- whether a line begins as an entry's does: with `c` and a digit
abbrev pub begins_entry : List ℕ → Bool
begins_entry (b ∷ d ∷ rest) = (b == 0x63) && is_ascii_digit d
begins_entry _ = false

-- these lines up to the first that doesn't begin as an entry's does
abbrev pub front_lines : List Spelling → List Spelling
front_lines [] = []
front_lines (l ∷ lines) = if begins_entry l.bytes then l ∷ front_lines lines else []

-- of these lines those from the first on that begins as an entry's does, up to the first that doesn't
abbrev pub entry_lines : List Spelling → List Spelling
entry_lines [] = []
entry_lines (l ∷ lines) = if begins_entry l.bytes then l ∷ front_lines lines else entry_lines lines

-- the entry lines of a text, which is cut at each LF; what stands after the last, maybe nothing, is a line too
abbrev pub entry_lines_of : List ℕ → List Spelling
entry_lines_of text = entry_lines (placed 0 (slice_split (λ b. b == 10) text))
