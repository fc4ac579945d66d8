-- The tokens of a text: what stands at its front, and then what stands after that.
use Rattle.std.specs.Prelude.{ℕ, zero, suc, ◌+◌, ◌-◌, List, [], ◌∷◌, Ok, Err, take}
use Rattle.std.specs.declared.result.Result.{Result}
use Rattle.sg_lex.specs.declared.token.LexFault.{LexFault}
use Rattle.sg_lex.specs.declared.front.Front.TheVariants.{Ended, Gap, Token, Fault}
use Rattle.sg_lex.specs.Fronts.{front_of}
use Rattle.sg_lex.specs.Lexeme.{Lexeme}

-- a token, or the fault at which it ends
abbrev pub Answer : Type 0
Answer = Result Lexeme LexFault

-- what is answered on a text whose first byte is at a place, after so many bytes of it: a token for each that stands at the
-- front, nothing for what stands between tokens, and a fault as the last
abbrev pub later_answers : ℕ → ℕ → List ℕ → List Answer
later_answers passed at [] = []
later_answers (suc n) at (b ∷ bs) = later_answers n (at + 1) bs
later_answers zero at (b ∷ bs) =
    elim (front_of (b ∷ bs)) [
      | Ended ↦ []
      | Gap n ↦ later_answers (n - 1) (at + 1) bs
      | Token kind n ↦ Ok (record { kind = kind; bytes = take n (b ∷ bs); at = at }) ∷ later_answers (n - 1) (at + 1) bs
      | Fault ↦ Err (record { at = at }) ∷ []
    ]

-- the answers of a lexer on a text: its tokens in order, and a fault at the end where there is one
abbrev pub answers_of : List ℕ → List Answer
answers_of text = later_answers 0 0 text
