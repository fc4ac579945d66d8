-- What is taken of what is still to be read of a line, and what is left.
use Rattle.std.specs.Prelude.{◌≡◌, ◌+◌, ◌==◌, ℕ, false, List, [], ◌∷◌, take, drop, if◌then◌else◌}
use Rattle.std.specs.Char.{is_ascii_digit}
use Rattle.std.specs.List.{prefix_len}
use Rattle.sg_lex.specs.Bytes.{begins_word, is_in_word}
use Rattle.sg_lex.specs.Lexeme.{Spelling}
use Rattle.sg_entries.specs.Inside.Classes.{is_first_digit}
use Rattle.sg_entries.specs.Inside.Reads.{Ahead}

-- this byte came first
pub record Came (byte : ℕ) (old new : Ahead) : Type 0 where
  pub all : old.rest ≡ byte ∷ new.rest
  pub at : new.at ≡ old.at + 1

-- this byte doesn't come first
abbrev pub Off : ℕ → List ℕ → Type 0
Off byte [] = Unit {0}
Off byte (b ∷ bs) = (b == byte) ≡ false

-- the first bytes, so many, as they are spelt
abbrev pub front_of : ℕ → Ahead → Spelling
front_of n ahead = record { bytes = take n ahead.rest; at = ahead.at }

-- what is left after them
abbrev pub after_of : ℕ → Ahead → Ahead
after_of n ahead = record { at = ahead.at + n; rest = drop n ahead.rest }

-- how many bytes at the front are a number that isn't 0, as many as may be
abbrev pub positive_len : List ℕ → ℕ
positive_len [] = 0
positive_len (b ∷ bs) = if is_first_digit b then 1 + prefix_len is_ascii_digit bs else 0

-- how many bytes at the front are a number, as many as may be
abbrev pub number_len : List ℕ → ℕ
number_len [] = 0
number_len (b ∷ bs) = if b == 0x30 then 1 else positive_len (b ∷ bs)

-- how many bytes at the front are a name, as many as may be
abbrev pub name_len : List ℕ → ℕ
name_len [] = 0
name_len (b ∷ bs) = if begins_word b then 1 + prefix_len is_in_word bs else 0
