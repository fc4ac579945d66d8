-- Tests of tokens.
use Rattle.std.specs.Prelude.{ℕ, ◌&&◌, Bool, true, false, List, [], ◌∷◌, nat_eq}
use Rattle.std.specs.Cmp.Lexicographic.{pointwise}
use Rattle.sg_lex.specs.declared.token.TokenKind.{TokenKind}
use Rattle.sg_lex.specs.declared.token.TokenKind.TheVariants.{Word, Number, Text, Mark}
use Rattle.sg_lex.specs.Lexeme.{Lexeme}

-- two kinds are one
abbrev pub same_kind : TokenKind → TokenKind → Bool
same_kind Word Word = true
same_kind Number Number = true
same_kind Text Text = true
same_kind Mark Mark = true
same_kind kind other = false

-- a token is of a kind
abbrev pub has_kind : TokenKind → Lexeme → Bool
has_kind kind token = same_kind token.kind kind

-- a token is this mark
abbrev pub is_this_mark : ℕ → Lexeme → Bool
is_this_mark byte token = has_kind Mark token && pointwise nat_eq token.bytes (byte ∷ [])

-- a token is this word
abbrev pub is_fixed : List ℕ → Lexeme → Bool
is_fixed bytes token = has_kind Word token && pointwise nat_eq token.bytes bytes
