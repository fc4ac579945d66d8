-- What the answers of a lexer mean: the text is cut, from its front to its end, into tokens and what stands between them.
use Rattle.std.specs.Prelude.{ℕ, ◌≡◌, ◌≢◌, ◌+◌, ◌≤◌, ◌<◌, List, [], ◌∷◌, ◌++◌, Ok, Err, length, take, drop}
use Rattle.sg_lex.specs.declared.token.TokenKind.{TokenKind}
use Rattle.sg_lex.specs.Table.{IsToken, IsGap, AtMost, BeginsNothing}
use Rattle.sg_lex.specs.Tokens.{Answer}

-- a text whose first byte is at a place reads as these answers
pub data IsReading : ℕ → List ℕ → List Answer → Type 0 where
  -- at its end nothing is left
  ends : (at : ℕ) → IsReading at [] []
  -- what stands between tokens gives no answer
  passes : (at : ℕ) (gap behind : List ℕ) (answers : List Answer) → IsGap gap behind
      → IsReading (at + length gap) behind answers → IsReading at (gap ++ behind) answers
  -- the longest token is answered, with its place
  gives : (at : ℕ) (kind : TokenKind) (bytes behind : List ℕ) (answers : List Answer) → IsToken kind bytes
      → AtMost (length bytes) (bytes ++ behind) → IsReading (at + length bytes) behind answers
      → IsReading at (bytes ++ behind) (Ok (record { kind = kind; bytes = bytes; at = at }) ∷ answers)
  -- where neither stands, that place is the last answer
  faults : (at : ℕ) (text : List ℕ) → text ≢ [] → BeginsNothing text → IsReading at text (Err (record { at = at }) ∷ [])

-- answers to a text are slices of it, from a place on: each token has bytes, they are those of the text at its place, and
-- they end before the next answer and within the text; a fault is the last, within the text
abbrev pub AreSlices : List ℕ → ℕ → List Answer → Type 0
AreSlices text from [] = Unit {0}
AreSlices text from (Ok token ∷ answers) =
    (from ≤ token.at) × (1 ≤ length token.bytes) × (token.at + length token.bytes ≤ length text)
    × (token.bytes ≡ take (length token.bytes) (drop token.at text))
    × AreSlices text (token.at + length token.bytes) answers
AreSlices text from (Err fault ∷ answers) = (from ≤ fault.at) × (fault.at < length text) × (answers ≡ [])
