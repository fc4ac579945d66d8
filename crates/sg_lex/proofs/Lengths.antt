-- A lexer answers no more often than a text has bytes.
use Rattle.std.proofs.Common.{ℕ, zero, suc, ◌+◌, ◌-◌, ◌≤◌, List, [], ◌∷◌, length, arith}
use Rattle.sg_lex.specs.declared.front.Front.{Front}
use Rattle.sg_lex.specs.declared.front.Front.TheVariants.{Ended, Gap, Token, Fault}
use Rattle.sg_lex.specs.Fronts.{front_of}
use Rattle.sg_lex.specs.Tokens.{Answer, later_answers, answers_of}
use Rattle.sg_lex.specs.Inside.Fronts.{answers_at}

at_most : (front : Front) (at : ℕ) (text : List ℕ) (n : ℕ) (behind : ℕ → List Answer) → ((k : ℕ) → length (behind k) ≤ n) → length (answers_at front at text behind) ≤ suc n
at_most Ended at text n behind h = omega arith
at_most (Gap k) at text n behind h = omega (arith, h (k - 1))
at_most (Token kind k) at text n behind h = omega (arith, h (k - 1))
at_most Fault at text n behind h = omega arith

few_answers : (passed at : ℕ) (text : List ℕ) → length (later_answers passed at text) ≤ length text
few_answers passed at [] = omega arith
few_answers (suc n) at (b ∷ bs) = omega (arith, few_answers n (at + 1) bs)
few_answers zero at (b ∷ bs) = at_most (front_of (b ∷ bs)) at (b ∷ bs) (length bs) (λ n. later_answers n (at + 1) bs) (λ n. few_answers n (at + 1) bs)

pub answers_fit : (text : List ℕ) → length (answers_of text) ≤ length text
answers_fit text = few_answers 0 0 text
