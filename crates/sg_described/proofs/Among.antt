-- The rules of a number.
use Rattle.std.proofs.Common.{◌≡◌, ℕ, zero, suc, ◌+◌, ◌<◌, ◌≤◌, List, [], ◌∷◌, length, map, get_or, refl, sym, ap, subst, arith}
use Rattle.sg_described.specs.declared.description.AnswerShape.{AnswerShape}
use Rattle.sg_described.specs.Described.{rules_among, rules_of}

there : (answers : List AnswerShape) (n : ℕ) (a : AnswerShape) → n < length answers → a ≡ get_or answers n a → rules_of a ≡ rules_among (map rules_of answers) (suc n)
there [] n a low is = absurd (omega (arith, low))
there (x ∷ answers) zero a low is = ap rules_of is
there (x ∷ answers) (suc n) a low is = there answers n a (omega (arith, low)) is

beyond : (answers : List AnswerShape) (n : ℕ) → length answers ≤ n → [] ≡ rules_among (map rules_of answers) (suc n)
beyond [] n high = refl
beyond (x ∷ answers) zero high = absurd (omega (arith, high))
beyond (x ∷ answers) (suc n) high = beyond answers n (omega (arith, high))

pub among_there : (answers : List AnswerShape) (n : ℕ) (a : AnswerShape) → n < length answers → a ≡ get_or answers n a → rules_of a ≡ rules_among (map rules_of answers) (n + 1)
among_there answers n a low is = let same : n + 1 ≡ suc n = omega arith in subst (λ k. rules_of a ≡ rules_among (map rules_of answers) k) (sym same) (there answers n a low is)

pub among_beyond : (answers : List AnswerShape) (n : ℕ) → length answers ≤ n → [] ≡ rules_among (map rules_of answers) (n + 1)
among_beyond answers n high = let same : n + 1 ≡ suc n = omega arith in subst (λ k. [] ≡ rules_among (map rules_of answers) k) (sym same) (beyond answers n high)
