-- Which bytes a word may have.
use Rattle.std.specs.Prelude.{ℕ, Bool, ◌==◌, ◌||◌}
use Rattle.std.specs.Char.{is_ascii_alphabetic, is_ascii_digit}

-- a word begins with a letter or an underscore
abbrev pub begins_word : ℕ → Bool
begins_word b = is_ascii_alphabetic b || (b == 0x5F)

-- a word goes on with letters, underscores and digits
abbrev pub is_in_word : ℕ → Bool
is_in_word b = begins_word b || is_ascii_digit b
