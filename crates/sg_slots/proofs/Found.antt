-- What the least key at or behind a number tells of the number.
use Rattle.std.proofs.Common.{◌≡◌, ℕ, ◌<◌, ◌≤◌, inl, inr, Bool, true, false, refl, sym, ◌∙◌, ap, subst, arith}
use Rattle.std.specs.Prelude.{◌==◌, nat_lt}
use Rattle.std.specs.Ordering.{is_gt, nat_cmp, ordering_then}
use Rattle.std.specs.declared.cmp.Ordering.{Ordering}
use Rattle.std.specs.declared.cmp.Ordering.TheVariants.{Less, Equal, Greater}
use Rattle.std.specs.Cmp.{nat_cmp_is}
use Rattle.std.specs.BTreeSet.{BTreeSet}
use Rattle.std.proofs.lemmas.Bool.{cases_Bool}
use Rattle.std.proofs.lemmas.Bool.Decides.{nat_tests}
use Rattle.sg_slots.specs.declared.key.Key.{Key}
use Rattle.sg_slots.specs.Inside.QueueKeys.{IsFound, has, key_cmp}

-- the first number of a key that isn't greater isn't greater
not_above : (a b : ℕ) (o : Ordering) → is_gt (ordering_then (nat_cmp a b) o) ≡ false → a ≤ b
not_above a b o is = elim (cases_Bool (nat_lt b a)) [
  | inl more ↦
      let less : b < a = grind (arith, nat_tests) in
      let above : nat_cmp a b ≡ Greater = sym (nat_cmp_is a b Greater less) in
      let clash : true ≡ false = sym (ap (λ x. is_gt (ordering_then x o)) above) ∙ is in
      absurd (cc clash)
  | inr not ↦ grind (arith, nat_tests)
]

-- nothing is below 0
from_zero : (n : ℕ) (o : Ordering) → is_gt o ≡ false → is_gt (ordering_then (nat_cmp 0 n) o) ≡ false
from_zero n o is = elim (cases_Bool (nat_lt 0 n)) [
  | inl more ↦
      let less : 0 < n = grind (arith, nat_tests) in
      ap (λ x. is_gt (ordering_then x o)) (sym (nat_cmp_is 0 n Less less))
  | inr not ↦
      let same : 0 ≡ n = grind (arith, nat_tests) in
      ap (λ x. is_gt (ordering_then x o)) (sym (nat_cmp_is 0 n Equal same)) ∙ is
]

last_zero : (n : ℕ) → is_gt (nat_cmp 0 n) ≡ false
last_zero n = elim (cases_Bool (nat_lt 0 n)) [
  | inl more ↦
      let less : 0 < n = grind (arith, nat_tests) in
      ap is_gt (sym (nat_cmp_is 0 n Less less))
  | inr not ↦
      let same : 0 ≡ n = grind (arith, nat_tests) in
      ap is_gt (sym (nat_cmp_is 0 n Equal same))
]

abbrev pub key_of : ℕ → ℕ → ℕ → Key
key_of first second id = record { first = first; second = second; id = id }

-- a number's least key isn't above its others
pub from_least : (first second id : ℕ) → is_gt (key_cmp (key_of first 0 0) (key_of first second id)) ≡ false
from_least first second id =
    ap (λ x. is_gt (ordering_then x (ordering_then (nat_cmp 0 second) (nat_cmp 0 id)))) (sym (nat_cmp_is first first Equal refl))
    ∙ from_zero second (nat_cmp 0 id) (last_zero id)

-- a key with the number is found
pub found : (keys : BTreeSet Key) (key : Key) (first : ℕ) → has keys key ≡ true → (key.first == first) ≡ true → IsFound keys first
found keys key first there test =
    let same : key.first ≡ first = grind (arith, nat_tests) in
    record { second = key.second; id = key.id; found = subst (λ n. has keys (key_of n key.second key.id) ≡ true) same there }

-- a key at or behind the number's least has another number, and is the least there: none has the number
pub not_found : (key : Key) (first second id : ℕ) → is_gt (key_cmp (key_of first 0 0) key) ≡ false → (key.first == first) ≡ false
    → (there : Bool) → (there ≡ true → is_gt (key_cmp key (key_of first second id)) ≡ false) → there ≡ false
not_found key first second id behind apart false least = refl
not_found key first second id behind apart true least =
    let one : first ≤ key.first = not_above first key.first _ behind in
    let other : key.first ≤ first = not_above key.first first _ (least refl) in
    let clash : key.first ≡ first = omega (arith, one, other) in
    grind (arith, nat_tests)
