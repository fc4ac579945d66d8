-- What contracts see of a token, and of what is spelt in a text.
use Rattle.std.specs.Prelude.{ℕ, List}
use Rattle.sg_lex.specs.declared.token.TokenKind.{TokenKind}

-- a token: its kind, its bytes, and the place of the first of them in the text
pub record Lexeme : Type 0 where
  pub kind : TokenKind
  pub bytes : List ℕ
  pub at : ℕ

-- what is spelt in a text, as a name, a number or a text in quotes: its bytes, and the place of the first of them
pub record Spelling : Type 0 where
  pub bytes : List ℕ
  pub at : ℕ
