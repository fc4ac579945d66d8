-- Numbers that are read digit by digit.
use Rattle.std.proofs.Common.{◌≡◌, ℕ, ◌+◌, ◌*◌, ◌-◌, ◌<◌, ◌≤◌, List, [], ◌∷◌, length, drop, get_or, None, Some, sym, ◌∙◌, ap, arith}
use Rattle.std.proofs.lemmas.Bool.Decides.{nat_tests}
use Rattle.std.proofs.lemmas.List.{at_drop_more}
use Rattle.std.specs.List.{fold}
use Rattle.sg_base.specs.Counts.{last_count}
use Rattle.sg_lex.specs.Numbers.{bounded, value_of_digits}

abbrev pub after : ℕ → List ℕ → ℕ
after a digits = fold (λ b d. 10 * b + (d - 48)) a digits

-- more digits don't make a number less
grows : (digits : List ℕ) (a : ℕ) → a ≤ after a digits
grows [] a = omega arith
grows (d ∷ digits) a = omega (arith, grows digits (10 * a + (d - 48)))

pub is_bounded : (n : ℕ) → n ≤ last_count → Some n ≡ bounded n
is_bounded n le = grind (arith, nat_tests)

from_none : (n : ℕ) → None ≡ bounded n → last_count < n
from_none n none = grind (arith, nat_tests)

to_none : (n : ℕ) → last_count < n → None ≡ bounded n
to_none n above = grind (arith, nat_tests)

pub from_some : (n m : ℕ) → Some m ≡ bounded n → m ≡ n
from_some n m some = grind (arith, nat_tests)

pub fits_some : (n m : ℕ) → Some m ≡ bounded n → m ≤ last_count
fits_some n m some = grind (arith, nat_tests)

module _ (digits : List ℕ) (i value : ℕ) (within : i < length digits) where
  abbrev next : ℕ
  next = 10 * value + (get_or digits i 0 - 48)

  more : after value (drop i digits) ≡ after next (drop (i + 1) digits)
  more = at_drop_more (after value) digits i 0 within

  pub one_more : (new : ℕ) → Some new ≡ bounded next → bounded (after value (drop i digits)) ≡ bounded (value_of_digits digits)
      → bounded (after new (drop (i + 1) digits)) ≡ bounded (value_of_digits digits)
  one_more new some same = ap (λ n. bounded (after n (drop (i + 1) digits))) (from_some next new some) ∙ ap bounded (sym more) ∙ same

  pub stays_above : None ≡ bounded next → bounded (after value (drop i digits)) ≡ bounded (value_of_digits digits) → None ≡ bounded (value_of_digits digits)
  stays_above none same = to_none (after next (drop (i + 1) digits)) (omega (arith, grows (drop (i + 1) digits) next, from_none next none)) ∙ ap bounded (sym more) ∙ same
