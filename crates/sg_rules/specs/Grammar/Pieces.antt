-- What each token of a rule has to be.
use Rattle.std.specs.Prelude.{◌≡◌, ℕ, true, codes}
use Rattle.sg_lex.specs.declared.token.TokenKind.TheVariants.{Word, Number, Mark}
use Rattle.sg_lex.specs.Lexeme.{Lexeme, Spelling}
use Rattle.sg_rules.specs.declared.words.Keyword.{Keyword}
use Rattle.sg_rules.specs.declared.words.Fixed.{Fixed}
use Rattle.sg_rules.specs.declared.words.Fixed.TheVariants.{Key, Comma, Semicolon, Dollar}
use Rattle.sg_rules.specs.Grammar.Words.{word_of, is_name}

-- a word of rules or a mark, whatever its place; a word of rules at this place; a name; or a number
pub data RulePiece : Type 0 where
  fixed : Fixed → RulePiece
  word_at : Keyword → ℕ → RulePiece
  name : Spelling → RulePiece
  number : Spelling → RulePiece

-- a word of rules
abbrev pub word : Keyword → RulePiece
word keyword = fixed (Key keyword)

-- a token is such a piece
abbrev pub IsRulePiece : Lexeme → RulePiece → Type 0
IsRulePiece token (fixed (Key keyword)) = (token.kind ≡ Word) × (token.bytes ≡ word_of keyword)
IsRulePiece token (fixed Comma) = (token.kind ≡ Mark) × (token.bytes ≡ codes ",")
IsRulePiece token (fixed Semicolon) = (token.kind ≡ Mark) × (token.bytes ≡ codes ";")
IsRulePiece token (fixed Dollar) = (token.kind ≡ Mark) × (token.bytes ≡ codes "$")
IsRulePiece token (word_at keyword at) = (token.kind ≡ Word) × (token.bytes ≡ word_of keyword) × (token.at ≡ at)
IsRulePiece token (name n) = (token.kind ≡ Word) × (token.bytes ≡ n.bytes) × (token.at ≡ n.at) × (is_name n.bytes ≡ true)
IsRulePiece token (number n) = (token.kind ≡ Number) × (token.bytes ≡ n.bytes) × (token.at ≡ n.at)
