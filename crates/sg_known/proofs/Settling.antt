-- States from which some go, until none goes any more.
use Rattle.std.proofs.Common.{◌≡◌, ℕ, zero, suc, ◌<◌, ◌≤◌, List, [], ◌∷◌, length, filter, refl, sym, ◌∙◌, ap, arith}
use Rattle.sg_described.specs.sg_facts.Facts.{Facts, Fun}
use Rattle.sg_described.specs.NeverZero.{keeps_some, states_from, states_left}
use Rattle.sg_described.proofs.Keeping.NeverZeros.{drops, none_goes, still}

module _ (facts : Facts) (x : ℕ) where
  -- none has gone
  pub none_gone : (states left : List ℕ) (n : ℕ) → left ≡ filter (keeps_some facts x states) states → length left ≡ length states → left ≡ states_left facts x n states
  none_gone states left n is same =
      let count = ap length is in
      let none = none_goes (keeps_some facts x states) states (omega (arith, same, count)) in
      is ∙ none.0 ∙ sym (still facts x n states none.0)

  -- some have gone
  pub fewer_left : (states left : List ℕ) → left ≡ filter (keeps_some facts x states) states → length left ≤ length states
  fewer_left states left is = let count = ap length is in let low = drops (keeps_some facts x states) states in omega (arith, count, low)

  pub some_gone : (states left all : List ℕ) (n : ℕ) → left ≡ filter (keeps_some facts x states) states → length left < length states → length states ≤ n
      → ((m : ℕ) → length left ≤ m → all ≡ states_left facts x m left) → all ≡ states_left facts x n states
  some_gone states left all zero is fewer few rest = absurd (omega (arith, fewer, few))
  some_gone states left all (suc m) is fewer few rest = rest m (omega (arith, fewer, few)) ∙ ap (states_left facts x m) is

-- there are as many states as functions
pub length_states : (n : ℕ) (funs : List Fun) → length (states_from n funs) ≡ length funs
length_states n [] = refl
length_states n (f ∷ funs) = ap suc (length_states (suc n) funs)
