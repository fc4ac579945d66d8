-- What it means that nothing is found in a list.
use Rattle.std.proofs.Common.{◌≡◌, ℕ, zero, suc, ◌+◌, Bool, true, false, not, List, [], ◌∷◌, map, None, Some, refl, sym, ◌∙◌, ap, arith}
use Rattle.std.specs.Prelude.{if◌then◌else◌, slice_get}
use Rattle.std.specs.Bool.{then_some}
use Rattle.std.specs.declared.option.Option.{Option}
use Rattle.std.specs.List.{cons_option, filter_map}
use Rattle.std.specs.Option.{option_or}
use Rattle.std.proofs.lemmas.Bool.{and_from}
use Rattle.sg_described.specs.NeverZero.{all_from}
use Rattle.sg_describe.specs.Said.{first_in}

no_head : {B : Type 0} (o : Option B) (rest : List B) → slice_get (cons_option o rest) 0 ≡ None → (o ≡ None) × (slice_get rest 0 ≡ None)
no_head None rest is = (refl, is)
no_head (Some x) rest is = absurd (cc is)

-- where nothing is found in a list nothing is found in its first element, nor in the others
pub none_in : {A B : Type 0} (h : A → Option B) (x : A) (xs : List A) → first_in h (x ∷ xs) ≡ None → (h x ≡ None) × (first_in h xs ≡ None)
none_in h x xs is = no_head (h x) (filter_map h xs) is

-- nor at any place
pub none_at : {A B : Type 0} (h : A → Option B) (xs : List A) (k : ℕ) (x : A) → first_in h xs ≡ None → slice_get xs k ≡ Some x → h x ≡ None
none_at h [] k x none at = absurd (cc at)
none_at h (y ∷ xs) zero x none at = let same : y ≡ x = cc at in ap h (sym same) ∙ (none_in h y xs none).0
none_at h (y ∷ xs) (suc k) x none at = none_at h xs k x (none_in h y xs none).1 at

-- where neither of two places is told
pub neither : {B : Type 0} (a b : Option B) → option_or a b ≡ None → (a ≡ None) × (b ≡ None)
neither None b is = (refl, is)
neither (Some x) b is = absurd (cc is)

-- where a place is told only if something holds, and isn't told
pub not_told : {B : Type 0} (b : Bool) (at : B) → then_some b at ≡ None → b ≡ false
not_told true at is = absurd (cc is)
not_told false at is = refl

-- where what is told if something holds is something, and isn't told
pub not_held : {B : Type 0} (b : Bool) (place : Option B) → (place ≡ None → ⊥) → (if b then place else None) ≡ None → b ≡ false
not_held true place some is = absurd (some is)
not_held false place some is = refl

pub no_it : (b : Bool) → not b ≡ false → b ≡ true
no_it true is = refl
no_it false is = absurd (cc is)

pub not_it : (b : Bool) → b ≡ false → not b ≡ true
not_it true is = absurd (cc is)
not_it false is = refl

-- a test of all elements, numbered from a number on, holds where it does of each
pub all_from_each : {A : Type 0} (p : ℕ → A → Bool) (n : ℕ) (xs : List A) → ((k : ℕ) (x : A) → slice_get xs k ≡ Some x → p (n + k) x ≡ true) → all_from p n xs ≡ true
all_from_each p n [] each = refl
all_from_each p n (x ∷ xs) each =
    let first : n + 0 ≡ n = omega arith in
    and_from (p n x) (all_from p (suc n) xs) (ap (λ m. p m x) (sym first) ∙ each 0 x refl)
    (all_from_each p (suc n) xs (λ k y at. let next : suc n + k ≡ n + suc k = omega arith in ap (λ m. p m y) next ∙ each (suc k) y at))

-- what a mapped list has at a place is of what the list has there
pub mapped_at : {A B : Type 0} (f : A → B) (xs : List A) (k : ℕ) (y : B) → slice_get (map f xs) k ≡ Some y → (x : A) × (slice_get xs k ≡ Some x) × (f x ≡ y)
mapped_at f [] k y at = absurd (cc at)
mapped_at f (x ∷ xs) zero y at = let same : f x ≡ y = cc at in (x, refl, same)
mapped_at f (x ∷ xs) (suc k) y at = mapped_at f xs k y at
