-- What numbers and texts of a script stand for.
use Rattle.std.specs.Prelude.{ℕ, ◌-◌, Bool, ◌&&◌, nat_le, List, length, min, take, drop}
use Rattle.std.specs.List.{list_all}
use Rattle.sg_facts.specs.sg_base.Counts.{last_count}
use Rattle.sg_facts.specs.sg_base.Text.{is_text_byte}
use Rattle.sg_facts.specs.Limits.{last_client}
use Rattle.sg_script_parse.specs.sg_lex.Numbers.{value_of_digits}

-- what digits count as: a number above the greatest of 64 bits counts as the greatest
abbrev pub counts_as : List ℕ → ℕ
counts_as digits = min (value_of_digits digits) last_count

-- what stands between the quotes of a text
abbrev pub unquoted : List ℕ → List ℕ
unquoted quoted = take (length quoted - 2) (drop 1 quoted)

-- whether bytes are a text as calls take one: at most 256 bytes, printable and without a quote, which a token's always are
abbrev pub is_text : List ℕ → Bool
is_text bytes = nat_le (length bytes) 256 && list_all is_text_byte bytes

-- whether a number is a client's
abbrev pub is_known_client : ℕ → Bool
is_known_client n = nat_le 1 n && nat_le n last_client
