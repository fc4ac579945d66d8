-- What each token of a sentence has to be.
use Rattle.std.specs.Prelude.{◌≡◌, ℕ, Bool, true, false, ◌==◌, if◌then◌else◌, List, [], ◌∷◌}
use Rattle.sg_rules.specs.sg_lex.declared.token.TokenKind.TheVariants.{Word, Number, Mark}
use Rattle.sg_rules.specs.sg_lex.Lexeme.{Lexeme, Spelling}
use Rattle.sg_rules.specs.declared.version.Newer.{Newer}
use Rattle.sg_rules.specs.declared.version.Newer.TheVariants.{Second, Third}
use Rattle.sg_rules.specs.Versions.{seen}
use Rattle.sg_rules.specs.Grammar.Pieces.{RulePiece, IsRulePiece}
use Rattle.sg_parse.specs.declared.words.Sort.{Sort}
use Rattle.sg_parse.specs.Grammar.Words.{is_of}

-- whether digits are those of this one; zeros may come first
abbrev pub are_digit : ℕ → List ℕ → Bool
are_digit digit [] = false
are_digit digit (d ∷ []) = d == digit
are_digit digit (d ∷ next ∷ digits) = if d == 0x30 then are_digit digit (next ∷ digits) else false

-- whether digits are the number of a version
abbrev pub are_of : Newer → List ℕ → Bool
are_of Second digits = are_digit 0x32 digits
are_of Third digits = are_digit 0x33 digits

-- this word; this mark; a word of a sort, which is this name; this number; the number of a version; a word that a version keeps for itself; a
-- piece as a text of a version has it; or a piece of a rule
pub data Piece : Type 0 where
  word : List ℕ → Piece
  mark : List ℕ → Piece
  name : Sort → Spelling → Piece
  number : Spelling → Piece
  version_number : Newer → Piece
  kept : List ℕ → Piece
  newer : Newer → Piece → Piece
  rule : RulePiece → Piece

-- a token is such a piece
abbrev pub IsPiece : Lexeme → Piece → Type 0
IsPiece token (word bytes) = (token.kind ≡ Word) × (token.bytes ≡ bytes)
IsPiece token (mark bytes) = (token.kind ≡ Mark) × (token.bytes ≡ bytes)
IsPiece token (name sort n) = (token.kind ≡ Word) × (token.bytes ≡ n.bytes) × (token.at ≡ n.at) × (is_of sort n.bytes ≡ true)
IsPiece token (number n) = (token.kind ≡ Number) × (token.bytes ≡ n.bytes) × (token.at ≡ n.at)
IsPiece token (version_number version) = (token.kind ≡ Number) × (are_of version token.bytes ≡ true)
IsPiece token (kept bytes) = (token.kind ≡ Mark) × (token.bytes ≡ bytes)
IsPiece token (newer version p) = IsPiece (seen version token) p
IsPiece token (rule p) = IsRulePiece token p
