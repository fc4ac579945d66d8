-- Decimal numbers are printable.
use Rattle.std.proofs.Common.{◌≡◌, ℕ, ◌+◌, ◌%◌, ◌^◌, ◌<◌, ◌≤◌, Bool, true, false, ◌&&◌, List, [], ◌∷◌, ◌++◌, length, refl, arith}
use Rattle.std.specs.Prelude.{◌==◌, nat_le}
use Rattle.std.specs.Fmt.{decimal}
use Rattle.std.specs.List.{list_all}
use Rattle.std.proofs.lemmas.Bool.{and_parts}
use Rattle.std.proofs.lemmas.Bool.Decides.{nat_tests}
use Rattle.std.proofs.lemmas.Fmt.{decimal_by_steps}
use Rattle.sg_facts.specs.sg_base.Text.{is_text_byte}

pub both : (a b : Bool) → a ≡ true → b ≡ true → (a && b) ≡ true
both true b one other = other
both false b one other = absurd (cc one)

pub all_both : (test : ℕ → Bool) (xs ys : List ℕ) → list_all test xs ≡ true → list_all test ys ≡ true → list_all test (xs ++ ys) ≡ true
all_both test [] ys one other = other
all_both test (x ∷ xs) ys one other = let parts = and_parts (test x) (list_all test xs) one in both (test x) (list_all test (xs ++ ys)) parts.0 (all_both test xs ys parts.1 other)

digit_is : (d : ℕ) → d < 10 → is_text_byte (48 + d) ≡ true
digit_is d low =
    let above : nat_le 0x20 (48 + d) ≡ true = grind (arith, nat_tests) in
    let below : nat_le (48 + d) 0x7E ≡ true = grind (arith, nat_tests, low) in
    let other : ((48 + d) == 0x22) ≡ false = grind (arith, nat_tests) in
    rw (above, below, other) refl

pub decimal_is : (n : ℕ) → n < 2 ^ 64 → list_all is_text_byte (decimal n) ≡ true
decimal_is = decimal_by_steps (λ n ds. list_all is_text_byte ds ≡ true)
    (λ n low. both (is_text_byte (48 + n)) true (digit_is n low) refl)
    (λ n ds high front. all_both is_text_byte ds ((48 + n % 10) ∷ []) front (both (is_text_byte (48 + n % 10)) true (digit_is (n % 10) (omega arith)) refl))

pub short : (bytes : List ℕ) → length bytes ≤ 256 → nat_le (length bytes) 256 ≡ true
short bytes most = grind (arith, nat_tests, most)
