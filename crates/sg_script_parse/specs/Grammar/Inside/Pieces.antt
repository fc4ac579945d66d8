-- The pieces of scripts by name.
use Rattle.std.specs.Prelude.{◌≡◌, ℕ, List}
use Rattle.sg_lex.specs.declared.token.TokenKind.{TokenKind}
use Rattle.sg_lex.specs.declared.token.TokenKind.TheVariants.{Word, Number, Text}
use Rattle.sg_lex.specs.Lexeme.{Lexeme, Spelling}
use Rattle.sg_script_parse.specs.Grammar.Pieces.{ScriptPiece, spelt}

-- this word at this place
abbrev pub fixed : List ℕ → ℕ → ScriptPiece
fixed bytes at = spelt Word (record { bytes = bytes; at = at })

-- any word
abbrev pub word : Spelling → ScriptPiece
word s = spelt Word s

-- a number
abbrev pub number : Spelling → ScriptPiece
number s = spelt Number s

-- a text in its quotes
abbrev pub quoted : Spelling → ScriptPiece
quoted s = spelt Text s

-- a token of a kind, spelt so
abbrev pub IsSpelt : TokenKind → Lexeme → Spelling → Type 0
IsSpelt kind token s = (token.kind ≡ kind) × (token.bytes ≡ s.bytes) × (token.at ≡ s.at)
