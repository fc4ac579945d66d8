-- What each token of a script has to be.
use Rattle.std.specs.Prelude.{◌≡◌, ℕ, List}
use Rattle.sg_lex.specs.declared.token.TokenKind.{TokenKind}
use Rattle.sg_lex.specs.declared.token.TokenKind.TheVariants.{Mark}
use Rattle.sg_lex.specs.Lexeme.{Lexeme, Spelling}

-- a word, a number, or a text in its quotes, spelt so; or this mark
pub data ScriptPiece : Type 0 where
  spelt : TokenKind → Spelling → ScriptPiece
  mark : List ℕ → ScriptPiece

-- a token is such a piece
abbrev pub IsScriptPiece : Lexeme → ScriptPiece → Type 0
IsScriptPiece token (spelt kind s) = (token.kind ≡ kind) × (token.bytes ≡ s.bytes) × (token.at ≡ s.at)
IsScriptPiece token (mark bytes) = (token.kind ≡ Mark) × (token.bytes ≡ bytes)
