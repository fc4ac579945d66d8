-- Digits, and the numbers that they stand for.
use Rattle.std.proofs.Common.{◌≡◌, ℕ, ◌+◌, ◌-◌, ◌*◌, ◌<◌, ◌≤◌, Bool, true, false, ◌&&◌, List, [], ◌∷◌, Ok, Err, length, refl, sym, ap, subst, arith}
use Rattle.std.proofs.lemmas.Bool.Decides.{nat_tests}
use Rattle.std.proofs.lemmas.Str.Parse.{FoldsDigits, IsDigitsTest, IsNumeralModel, numerals_by_fold, parse_digits}
use Rattle.std.specs.Char.{is_ascii_digit}
use Rattle.std.specs.List.{fold, list_all}
use Rattle.std.specs.Prelude.{MatchOption}
use Rattle.std.specs.Result.{result_ok}
use Rattle.std.specs.Str.Parse.{ParsesUnsigned}
use Rattle.std.specs.declared.option.Option.{Option}
use Rattle.std.specs.declared.result.Result.{Result}
use Rattle.sg_judge.specs.sg_input.sg_lex.Table.{IsNumber}
use Rattle.sg_top.specs.Inside.Words.{AreDigitsOf}

both : (a b : Bool) → a && b ≡ true → (a ≡ true) × (b ≡ true)
both true true e = (refl, refl)
both true false e = absurd (cc e)
both false b e = absurd (cc e)

abbrev AllDigits : List ℕ → Type 0
AllDigits ds = list_all is_ascii_digit ds ≡ true

in_range : (c : ℕ) → is_ascii_digit c ≡ true → (48 ≤ c) × (c ≤ 57)
in_range c e = (grind (arith, nat_tests), grind (arith, nat_tests))

from_range : (c : ℕ) → 48 ≤ c → c ≤ 57 → is_ascii_digit c ≡ true
from_range c low high = grind (arith, nat_tests)

tests : IsDigitsTest AllDigits
tests = record {
  empty = refl;
  parts = λ c cs e. let p = both (is_ascii_digit c) (list_all is_ascii_digit cs) e in (in_range c p.0, p.1);
  more = λ c cs k e. let d : is_ascii_digit c ≡ true = from_range c k.0 k.1 in rw (d, e) refl;
}

-- the digits read from the left, after a number
abbrev value_after : ℕ → List ℕ → ℕ
value_after n digits = fold (λ a d. 10 * a + (d - 48)) n digits

folds : FoldsDigits value_after
folds = record {
  empty = λ n. refl;
  more = λ n c cs k. ap (λ m. value_after m cs) (omega arith);
}

own : IsNumeralModel AllDigits (value_after 0)
own = numerals_by_fold AllDigits tests value_after folds

-- what parsing digits gives
pub number_is : {E : Type 0} (word : List ℕ) (r : Result ℕ E) (o : Option ℕ) → list_all is_ascii_digit word ≡ true → ParsesUnsigned 64 10 word r → o ≡ result_ok r
    → MatchOption o ((number : ℕ) → AreDigitsOf number word → ⊥) (λ number. AreDigitsOf number word)
number_is {E} word (Ok n) o all parsed is =
    let p = parse_digits own {E = E} 64 word (Ok n) parsed all in
    subst (λ q. MatchOption q ((number : ℕ) → AreDigitsOf number word → ⊥) (λ number. AreDigitsOf number word)) (sym is) (a_number word all p.0.0, sym p.1, omega (arith, p.0.1, p.1))
  where
    a_number : (word : List ℕ) → list_all is_ascii_digit word ≡ true → 0 < length word → IsNumber word
    a_number [] all some = absurd (omega (arith, some))
    a_number (c ∷ cs) all some = all
number_is {E} word (Err e) o all parsed is =
    let p = parse_digits own {E = E} 64 word (Err e) parsed all in
    subst (λ q. MatchOption q ((number : ℕ) → AreDigitsOf number word → ⊥) (λ number. AreDigitsOf number word)) (sym is)
    (λ number are. p (some word are.0, omega (arith, are.1, are.2)))
  where
    some : (word : List ℕ) → IsNumber word → 0 < length word
    some [] is = absurd is
    some (c ∷ cs) is = omega arith

-- what isn't digits alone stands for no number
pub no_number : (word : List ℕ) (number : ℕ) → list_all is_ascii_digit word ≡ false → AreDigitsOf number word → ⊥
no_number [] number other are = are.0
no_number (c ∷ cs) number other are = cc (other, are.0)
