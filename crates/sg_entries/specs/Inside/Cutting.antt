-- What is left of a text, and its lines.
use Rattle.std.specs.Prelude.{ℕ, ◌≡◌, ◌+◌, ◌==◌, ◌<◌, ◌^◌, List, [], ◌∷◌, None, Some, length}
use Rattle.std.specs.declared.option.Option.{Option}
use Rattle.std.specs.List.{slice_split}
use Rattle.sg_entries.specs.Lines.{placed}
use Rattle.sg_entries.specs.declared.rest.Rest.{Rest}
use Rattle.sg_entries.specs.sg_lex.Lexeme.{Spelling}

-- the byte at which a line ends
abbrev pub line_feed : ℕ
line_feed = 10

-- the lines of a text from this place on: it is cut at each LF, and what stands after the last, maybe nothing, is a line too
abbrev pub lines_from : ℕ → List ℕ → List Spelling
lines_from at text = placed at (slice_split (λ b. b == line_feed) text)

-- the lines of what is left of a text, where something is
abbrev pub lines_left : Option Rest → List Spelling
lines_left None = []
lines_left (Some rest) = lines_from rest.at rest.bytes.now

-- the next of some lines, which stands in its text, and what is left of them; None where there is none
abbrev pub IsNext : List Spelling → Option Spelling → List Spelling → Type 0
IsNext lines None left = lines ≡ []
IsNext lines (Some l) left = (lines ≡ l ∷ left) × (l.at + length l.bytes < 2 ^ 64)
