-- What is found of the fields that effects leave.
use Rattle.std.specs.Prelude.{ℕ, ◌≡◌, true, false, nat_le, if◌then◌else◌, None, Some}
use Rattle.std.specs.declared.option.Option.{Option}
use Rattle.sg_described.specs.sg_facts.sg_base.declared.value.Value.{Value}
use Rattle.sg_described.specs.sg_facts.sg_base.declared.value.Value.TheVariants.{Word, Text}
use Rattle.sg_described.specs.Meaning.{is_up_to, last_word}

-- the word that a value is, where it is a number of 64 bits
abbrev pub word_in : Value → Option ℕ
word_in (Word n) = if nat_le n last_word then Some n else None
word_in (Text bytes) = None

-- a value is a word up to a greatest, or it isn't
abbrev pub IsFitting : ℕ → Value → Option ℕ → Type 0
IsFitting most value None = is_up_to most value ≡ false
IsFitting most value (Some word) = (value ≡ Word word) × (is_up_to most value ≡ true)
