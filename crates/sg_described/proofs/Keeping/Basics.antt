-- Tests of lists, and numbered elements.
use Rattle.std.proofs.Common.{◌≡◌, ℕ, zero, suc, ◌+◌, ◌<◌, ◌≤◌, Bool, true, false, cond, not, List, [], ◌∷◌, length, None, Some, refl, sym, ◌∙◌, ap, subst, arith}
use Rattle.std.specs.Prelude.{◌==◌, ◌&&◌, ◌||◌}
use Rattle.std.specs.List.{list_all, list_any}
use Rattle.std.specs.declared.option.Option.{Option}
use Rattle.std.proofs.lemmas.Bool.Decides.{nat_tests}
use Rattle.sg_facts.specs.declared.shape.Effect.{Effect}
use Rattle.sg_facts.specs.Allowed.{implies}
use Rattle.sg_facts.specs.Facts.{Fun, fun_at}
use Rattle.sg_facts.specs.Interface.{has_pair}
use Rattle.sg_facts.specs.Walks.{effect_on}
use Rattle.sg_described.specs.NeverZero.{all_from, is_listed}

-- ---- tests

pub both_true : (a b : Bool) → (a && b) ≡ true → (a ≡ true) × (b ≡ true)
both_true true true is = (refl, refl)
both_true true false is = absurd (cc is)
both_true false b is = absurd (cc is)

pub no_it : (b : Bool) → not b ≡ true → b ≡ false
no_it true is = absurd (cc is)
no_it false is = refl

pub not_out : (b : Bool) → not b ≡ false → b ≡ true
not_out true is = refl
not_out false is = absurd (cc is)

pub implied : (a b : Bool) → implies a b ≡ true → a ≡ true → b ≡ true
implied true b is a_is = is
implied false b is a_is = absurd (cc a_is)

-- one of two holds
pub data OneOf (a b : Bool) : Type 0 where
  first : a ≡ true → OneOf a b
  second : b ≡ true → OneOf a b

pub one_of : (a b : Bool) → (a || b) ≡ true → OneOf a b
one_of true b is = first refl
one_of false b is = second is

pub neither : (a b : Bool) → (a || b) ≡ false → (a ≡ false) × (b ≡ false)
neither true b none = absurd (cc none)
neither false b none = (refl, none)

pub or_true : (b : Bool) → (b || true) ≡ true
or_true true = refl
or_true false = refl

pub clash : {A : Type 0} (b : Bool) → b ≡ true → b ≡ false → A
clash true is isn't = absurd (cc isn't)
clash false is isn't = absurd (cc is)

pub own_test : (n : ℕ) → (n == n) ≡ true
own_test n = grind (arith, nat_tests)

pub same_of : (m n : ℕ) → (m == n) ≡ true → m ≡ n
same_of m n is = grind (arith, nat_tests, is)

pub apart_of : (m n : ℕ) → (m == n) ≡ false → m ≡ n → ⊥
apart_of m n is same = grind (arith, nat_tests, is, same)

-- ---- numbered elements

fun_in_from : (p : ℕ → Fun → Bool) (from : ℕ) (funs : List Fun) → all_from p from funs ≡ true → (k : ℕ) → k < length funs → p (from + k) (fun_at funs (suc k)) ≡ true
fun_in_from p from [] all k low = absurd (omega (arith, low))
fun_in_from p from (f ∷ funs) all zero low = let same : from ≡ from + 0 = omega arith in subst (λ n. p n f ≡ true) same (both_true (p from f) (all_from p (suc from) funs) all).0
fun_in_from p from (f ∷ funs) all (suc k) low =
    let same : suc from + k ≡ from + suc k = omega arith in
    subst (λ n. p n (fun_at funs (suc k)) ≡ true) same (fun_in_from p (suc from) funs (both_true (p from f) (all_from p (suc from) funs) all).1 k (omega (arith, low)))

-- what all functions pass, the function of a number passes
pub fun_in : (p : ℕ → Fun → Bool) (funs : List Fun) → all_from p 1 funs ≡ true → (n : ℕ) → 1 ≤ n → n ≤ length funs → p n (fun_at funs n) ≡ true
fun_in p funs all zero low high = absurd (omega (arith, low))
fun_in p funs all (suc k) low high = let same : 1 + k ≡ suc k = omega arith in subst (λ n. p n (fun_at funs (suc k)) ≡ true) same (fun_in_from p 1 funs all k (omega (arith, high)))

-- ---- listed pairs and numbers

-- a pair that is listed passes what all pairs pass
pub pair_passes : (p : ℕ × ℕ → Bool) (pairs : List (ℕ × ℕ)) → list_all p pairs ≡ true → (a b : ℕ) → has_pair pairs a b ≡ true → p (a, b) ≡ true
pair_passes p [] all a b has = absurd (cc has)
pair_passes p (x ∷ pairs) all a b has =
    let parts = both_true (p x) (list_all p pairs) all in
    at (x.0 == a) (x.1 == b) refl refl has parts.0 (pair_passes p pairs parts.1 a b)
  where
    at : (t u : Bool) → (x.0 == a) ≡ t → (x.1 == b) ≡ u → ((t && u) || has_pair pairs a b) ≡ true → p x ≡ true → (has_pair pairs a b ≡ true → p (a, b) ≡ true) → p (a, b) ≡ true
    at true true one two has is rest = subst (λ m. p (m, b) ≡ true) (same_of x.0 a one) (subst (λ n. p (x.0, n) ≡ true) (same_of x.1 b two) is)
    at true false one two has is rest = rest has
    at false u one two has is rest = rest has

-- a number that is listed passes what all numbers pass
pub number_passes : (p : ℕ → Bool) (ns : List ℕ) → list_all p ns ≡ true → (n : ℕ) → is_listed ns n ≡ true → p n ≡ true
number_passes p [] all n has = absurd (cc has)
number_passes p (m ∷ ns) all n has =
    let parts = both_true (p m) (list_all p ns) all in
    elim (one_of (m == n) (is_listed ns n) has) [
      | first same ↦ subst (λ k. p k ≡ true) (same_of m n same) parts.0
      | second later ↦ number_passes p ns parts.1 n later
    ]

-- the effect on a field passes what all effects pass
pub effect_passes : (p : ℕ × Effect → Bool) (es : List (ℕ × Effect)) → list_all p es ≡ true → (x : ℕ) (e : Effect) → effect_on es x ≡ Some e → p (x, e) ≡ true
effect_passes p [] all x e some = absurd (cc some)
effect_passes p (o ∷ es) all x e some = at (o.0 == x) refl some (both_true (p o) (list_all p es) all).0 (effect_passes p es (both_true (p o) (list_all p es) all).1 x e)
  where
    at : (t : Bool) → (o.0 == x) ≡ t → cond t (Some o.1) (effect_on es x) ≡ Some e → p o ≡ true → (effect_on es x ≡ Some e → p (x, e) ≡ true) → p (x, e) ≡ true
    at true same some own rest =
        let its : o.1 ≡ e = cc some in
        subst (λ f. p (x, f) ≡ true) its (subst (λ y. p (y, o.1) ≡ true) (same_of o.0 x same) own)
    at false same some own rest = rest some
