-- What a parser has to answer, for any grammar: which items are a sentence, and what value a sentence has, is the grammar's.
use Rattle.std.specs.Prelude.{◌≡◌, ℕ, List, [], ◌∷◌, ◌++◌, Ok, Err, map}
use Rattle.std.specs.List.{flat_map}
use Rattle.sg_lex.specs.Lexeme.{Lexeme}
use Rattle.sg_lex.specs.Tokens.{Answer}
-- ---- the pieces that a grammar wants

-- tokens are the pieces that a grammar wants, one by one
pub use Rattle.std.specs.List.{AllZip as ArePieces}

-- the pieces of each, with one between each two, as a comma
abbrev pub separated : {A P : Type 0} → P → (A → List P) → List A → List P
separated between pieces_of [] = []
separated between pieces_of (a ∷ more) = pieces_of a ++ flat_map (λ b. between ∷ pieces_of b) more

-- ---- over any items

-- the items begin a sentence: with some items after them they are one
abbrev pub Begins : {I V : Type 0} → (List I → V → Type 0) → List I → Type 0
Begins {I = I} {V = V} IsSentence items = (more : List I) × (value : V) × IsSentence (items ++ more) value

-- no sentence goes on so: with the next item the front begins none; or no item is left, and the front is none
abbrev pub IsStuck : {I V : Type 0} → (List I → V → Type 0) → List I → List I → Type 0
IsStuck {V = V} IsSentence front [] = (value : V) → IsSentence front value → ⊥
IsStuck IsSentence front (next ∷ rest) = Begins IsSentence (front ++ next ∷ []) → ⊥

-- ---- over tokens

-- a lexer answers tokens that begin a sentence, and after them what can't follow
pub record Fails (V : Type 0) (IsSentence : List Lexeme → V → Type 0) (answers : List Answer) (Stops : List Lexeme → List Answer → Type 0) : Type 0 where
  pub tokens : List Lexeme
  pub behind : List Answer
  pub all : answers ≡ map Ok tokens ++ behind
  pub begin : Begins IsSentence tokens
  pub stop : Stops tokens behind

-- after the tokens comes the lexer's fault at this place
abbrev pub IsNoToken : ℕ → List Lexeme → List Answer → Type 0
IsNoToken place tokens behind = (more : List Answer) × (behind ≡ Err (record { at = place }) ∷ more)

-- after the tokens comes a token at this place, with which no sentence goes on so; or the end of the text, which is this place, and the
-- tokens are none
abbrev pub EndsAt : {V : Type 0} → (List Lexeme → V → Type 0) → (end place : ℕ) → List Lexeme → List Answer → Type 0
EndsAt IsSentence end place tokens [] = (place ≡ end) × IsStuck IsSentence tokens []
EndsAt IsSentence end place tokens (Ok token ∷ more) = (token.at ≡ place) × IsStuck IsSentence tokens (token ∷ [])
EndsAt IsSentence end place tokens (Err fault ∷ more) = ⊥
