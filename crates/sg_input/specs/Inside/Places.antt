-- Lines of a text, and bytes in their lines. Places in a text are counted in bytes, from 0.
use Rattle.std.specs.Prelude.{ℕ, ◌+◌, ◌==◌, Bool, List, length, take, count_by}
use Rattle.std.specs.List.{after_last}

-- whether a byte is LF, which ends a line
abbrev pub ends_line : ℕ → Bool
ends_line byte = byte == 10

-- the line of a place, counted from 1: one more than the LFs before the place
abbrev pub line_of : List ℕ → ℕ → ℕ
line_of text at = count_by ends_line (take at text) + 1

-- the byte of a place in its line, counted from 1: one more than the bytes between the last LF before the place, or the
-- beginning of the text, and the place
abbrev pub column_of : List ℕ → ℕ → ℕ
column_of text at = length (after_last ends_line (take at text)) + 1
