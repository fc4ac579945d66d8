-- The table of tokens, and of what stands between them.
use Rattle.std.specs.Prelude.{ℕ, ◌≡◌, ◌≤◌, ◌==◌, ◌||◌, ◌⊎◌, Bool, not, List, [], ◌∷◌, ◌++◌, IsTrue, codes, length}
use Rattle.std.specs.List.{list_all, list_any}
use Rattle.std.specs.Char.{is_ascii_digit}
use Rattle.sg_base.specs.Text.{is_text_byte}
use Rattle.sg_lex.specs.declared.token.TokenKind.{TokenKind}
use Rattle.sg_lex.specs.declared.token.TokenKind.TheVariants.{Word, Number, Text, Mark}
use Rattle.sg_lex.specs.Bytes.{begins_word, is_in_word}

-- a letter or an underscore, and then letters, digits and underscores
abbrev pub IsWord : List ℕ → Type 0
IsWord [] = ⊥
IsWord (b ∷ bs) = IsTrue (begins_word b) × IsTrue (list_all is_in_word bs)

-- at least one digit, and digits alone
abbrev pub IsNumber : List ℕ → Type 0
IsNumber [] = ⊥
IsNumber (b ∷ bs) = IsTrue (list_all is_ascii_digit (b ∷ bs))

-- a quote, bytes that a text may have, and a quote
abbrev pub IsQuoted : List ℕ → Type 0
IsQuoted bs = (inner : List ℕ) × (bs ≡ 0x22 ∷ inner ++ 0x22 ∷ []) × IsTrue (list_all is_text_byte inner)

-- a mark is one of these bytes
abbrev pub is_mark : ℕ → Bool
is_mark b = list_any (λ mark. mark == b) (codes "{}()=,;*$")

-- one of the marks
abbrev pub IsMark : List ℕ → Type 0
IsMark bs = (b : ℕ) × (bs ≡ b ∷ []) × IsTrue (is_mark b)

-- bytes are a token of a kind
abbrev pub IsToken : TokenKind → List ℕ → Type 0
IsToken Word bs = IsWord bs
IsToken Number bs = IsNumber bs
IsToken Text bs = IsQuoted bs
IsToken Mark bs = IsMark bs

-- ---- between tokens

-- space, tab, carriage return and line feed stand between tokens
abbrev pub is_blank : ℕ → Bool
is_blank b = (b == 0x20) || (b == 0x09) || (b == 0x0D) || (b == 0x0A)

-- one blank
abbrev pub IsBlank : List ℕ → Type 0
IsBlank bs = (b : ℕ) × (bs ≡ b ∷ []) × IsTrue (is_blank b)

-- `//`, and bytes of that line
abbrev pub IsLineComment : List ℕ → Type 0
IsLineComment bs = (inner : List ℕ) × (bs ≡ 0x2F ∷ 0x2F ∷ inner) × IsTrue (list_all (λ b. not (b == 0x0A)) inner)

-- no `*/` stands in these bytes
abbrev pub HasNoClose : List ℕ → Type 0
HasNoClose bs = (before behind : List ℕ) → bs ≡ before ++ 0x2A ∷ 0x2F ∷ behind → ⊥

-- `/*`, and bytes up to the first `*/` and with it
abbrev pub IsBlockComment : List ℕ → Type 0
IsBlockComment bs = (inner : List ℕ) × (bs ≡ 0x2F ∷ 0x2A ∷ inner ++ 0x2A ∷ 0x2F ∷ []) × HasNoClose (inner ++ 0x2A ∷ [])

-- a line ends before these bytes
abbrev pub EndsLine : List ℕ → Type 0
EndsLine [] = Unit {0}
EndsLine (b ∷ bs) = b ≡ 0x0A

-- bytes stand between tokens, before the bytes after them: a blank, or a comment that is whole there
abbrev pub IsGap : List ℕ → List ℕ → Type 0
IsGap bs behind = IsBlank bs ⊎ ((IsLineComment bs × EndsLine behind) ⊎ IsBlockComment bs)

-- ---- at the front of a text

-- a token at the front of a text may have at most so many bytes
abbrev pub AtMost : ℕ → List ℕ → Type 0
AtMost n text = (kind : TokenKind) (bytes behind : List ℕ) → text ≡ bytes ++ behind → IsToken kind bytes → length bytes ≤ n

-- no token begins a text, and nothing that stands between tokens
pub record BeginsNothing (text : List ℕ) : Type 0 where
  pub no_token : (kind : TokenKind) (bytes behind : List ℕ) → text ≡ bytes ++ behind → IsToken kind bytes → ⊥
  pub no_gap : (bytes behind : List ℕ) → text ≡ bytes ++ behind → IsGap bytes behind → ⊥
