-- The classes of what is spelt in a line, by name.
use Rattle.std.specs.Prelude.{◌≡◌, ◌⊎◌, ◌==◌, ◌&&◌, not, ℕ, Bool, List, [], ◌∷◌}
use Rattle.std.specs.Char.{is_ascii_digit}
use Rattle.sg_lex.specs.Bytes.{begins_word, is_in_word}
use Rattle.sg_entries.specs.Pieces.{IsPositive, IsRun}

-- a digit from 1 to 9
abbrev pub is_first_digit : ℕ → Bool
is_first_digit b = is_ascii_digit b && not (b == 0x30)

-- a number in decimal, without leading zeros
abbrev pub IsNumber : List ℕ → Type 0
IsNumber bytes = (bytes ≡ 0x30 ∷ []) ⊎ IsPositive bytes

-- a name: a letter or `_`, and then letters, `_` and digits
abbrev pub IsName : List ℕ → Type 0
IsName bytes = IsRun begins_word is_in_word bytes
