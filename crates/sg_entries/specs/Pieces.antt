-- The pieces of a line: bytes that are fixed, and numbers, names and texts, each at its place.
use Rattle.std.specs.Prelude.{◌≡◌, ◌⊎◌, ◌+◌, ◌==◌, ◌&&◌, not, ℕ, Bool, true, List, [], ◌∷◌, length}
use Rattle.std.specs.Char.{is_ascii_digit}
use Rattle.std.specs.List.{list_all}
use Rattle.sg_facts.specs.sg_base.Text.{is_text_byte}
use Rattle.sg_lex.specs.Bytes.{begins_word, is_in_word}
use Rattle.sg_lex.specs.Lexeme.{Spelling}

-- these bytes; or a number, one that isn't 0, a name, or what stands between quotes, spelt so
pub data EntryPiece : Type 0 where
  fixed : List ℕ → EntryPiece
  number : Spelling → EntryPiece
  positive : Spelling → EntryPiece
  name : Spelling → EntryPiece
  printable : Spelling → EntryPiece

-- the bytes of a piece
abbrev pub piece_bytes : EntryPiece → List ℕ
piece_bytes p = elim p [ fixed bytes ↦ bytes | number s ↦ s.bytes | positive s ↦ s.bytes | name s ↦ s.bytes | printable s ↦ s.bytes ]

-- a byte of a class, and then bytes of another
abbrev pub IsRun : (ℕ → Bool) → (ℕ → Bool) → List ℕ → Type 0
IsRun first later [] = ⊥
IsRun first later (b ∷ bs) = (first b ≡ true) × (list_all later bs ≡ true)

-- a number that isn't 0, in decimal, without leading zeros
abbrev pub IsPositive : List ℕ → Type 0
IsPositive bytes = IsRun (λ b. is_ascii_digit b && not (b == 0x30)) is_ascii_digit bytes

-- a piece is what it is said to be, and stands at this place. What stands between quotes is printable ASCII without the double quote
abbrev pub IsPiece : ℕ → EntryPiece → Type 0
IsPiece place (fixed bytes) = Unit {0}
IsPiece place (number s) = ((s.bytes ≡ 0x30 ∷ []) ⊎ IsPositive s.bytes) × (s.at ≡ place)
IsPiece place (positive s) = IsPositive s.bytes × (s.at ≡ place)
IsPiece place (name s) = IsRun begins_word is_in_word s.bytes × (s.at ≡ place)
IsPiece place (printable s) = (list_all is_text_byte s.bytes ≡ true) × (s.at ≡ place)

-- pieces stand one after the other from this place on
abbrev pub ArePlaced : ℕ → List EntryPiece → Type 0
ArePlaced place [] = Unit {0}
ArePlaced place (p ∷ pieces) = IsPiece place p × ArePlaced (place + length (piece_bytes p)) pieces
