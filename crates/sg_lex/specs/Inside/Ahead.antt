-- What is to come after a token that was looked at, and tests of what is to come.
use Rattle.std.specs.Prelude.{◌≡◌, Bool, true, false, List, [], ◌∷◌, None, Some, Ok, Err, map}
use Rattle.std.specs.declared.option.Option.{Option}
use Rattle.sg_lex.specs.Lexeme.{Lexeme}
use Rattle.sg_lex.specs.Tokens.{Answer}

-- these tokens, as a lexer answers them
abbrev pub answered : List Lexeme → List Answer
answered tokens = map Ok tokens

-- the token that was looked at and left comes first
abbrev pub with_ahead : Option Lexeme → List Answer → List Answer
with_ahead None answers = answers
with_ahead (Some token) answers = Ok token ∷ answers

-- the test fails of the token that comes next, if one does, and no fault comes
abbrev pub Off : (Lexeme → Bool) → List Answer → Type 0
Off test [] = Unit {0}
Off test (Ok token ∷ answers) = test token ≡ false
Off test (Err fault ∷ answers) = ⊥

-- a token of which the test holds came first
pub record Came (test : Lexeme → Bool) (old new : List Answer) : Type 0 where
  pub token : Lexeme
  pub all : old ≡ Ok token ∷ new
  pub is : test token ≡ true
