-- Which bytes a text may have.
use Rattle.std.specs.Prelude.{ℕ, Bool, ◌==◌, ◌&&◌, nat_le, not}

-- printable ASCII without the double quote
abbrev pub is_text_byte : ℕ → Bool
is_text_byte b = nat_le 0x20 b && nat_le b 0x7E && not (b == 0x22)

-- a byte that no text may have: a double quote, or no printable ASCII
abbrev pub is_bad_byte : ℕ → Bool
is_bad_byte b = not (is_text_byte b)
