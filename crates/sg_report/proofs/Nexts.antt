-- What the first elements of a list come to with what is found after them.
use Rattle.std.proofs.Common.{◌≡◌, ℕ, ◌+◌, Bool, true, false, cond, List, [], ◌∷◌, ◌++◌, Some, length, sym, ◌∙◌, ap, take, append-nil, append_assoc, length-append, arith}
use Rattle.std.specs.Prelude.{filter, flat_map, min, slice_get}
use Rattle.std.proofs.lemmas.Grind.{flat_map-append}
use Rattle.std.proofs.lemmas.List.Elements.{filter-append}
use Rattle.sg_facts.proofs.Places.{take_next}

flat_next : {A : Type 0} (f : A → List ℕ) (xs : List A) (at : ℕ) (x : A) → slice_get xs at ≡ Some x
    → flat_map f (take (at + 1) xs) ≡ flat_map f (take at xs) ++ f x
flat_next f xs at x found =
    ap (flat_map f) (take_next xs at x found) ∙ flat_map-append f (take at xs) (x ∷ []) ∙ ap (λ l. flat_map f (take at xs) ++ l) (append-nil (f x))

-- one more is printed
pub flat_more : {A : Type 0} (f : A → List ℕ) (xs : List A) (at : ℕ) (x : A) (first old new : List ℕ) → slice_get xs at ≡ Some x
    → old ≡ first ++ flat_map f (take at xs) → new ≡ old ++ f x → new ≡ first ++ flat_map f (take (at + 1) xs)
flat_more f xs at x first old new found before adds =
    adds ∙ ap (λ l. l ++ f x) before ∙ append_assoc first (flat_map f (take at xs)) (f x) ∙ sym (ap (λ l. first ++ l) (flat_next f xs at x found))

-- how many meet a test, with one that does or doesn't
pub filter_next : {A : Type 0} (test : A → Bool) (xs : List A) (at : ℕ) (x : A) (b : Bool) → slice_get xs at ≡ Some x → test x ≡ b
    → length (filter test (take (at + 1) xs)) ≡ length (filter test (take at xs)) + length (cond b (x ∷ []) [])
filter_next test xs at x b found is =
    ap (λ l. length (filter test l)) (take_next xs at x found) ∙ ap length (filter-append test (take at xs) (x ∷ []))
    ∙ length-append (filter test (take at xs)) (cond (test x) (x ∷ []) []) ∙ ap (λ t. length (filter test (take at xs)) + length (cond t (x ∷ []) [])) is

-- one more meets a test, and is counted up to the last number
pub count_more : {A : Type 0} (test : A → Bool) (xs : List A) (at : ℕ) (x : A) (before last count new : ℕ) → slice_get xs at ≡ Some x
    → count ≡ min (before + length (filter test (take at xs))) last → test x ≡ true → new ≡ min (count + 1) last
    → new ≡ min (before + length (filter test (take (at + 1) xs))) last
count_more test xs at x before last count new found was meets adds =
    let next : length (filter test (take (at + 1) xs)) ≡ length (filter test (take at xs)) + 1 = filter_next test xs at x true found meets in
    omega (arith, was, next, adds)

-- one more doesn't
pub count_same : {A : Type 0} (test : A → Bool) (xs : List A) (at : ℕ) (x : A) (before last count : ℕ) → slice_get xs at ≡ Some x
    → count ≡ min (before + length (filter test (take at xs))) last → test x ≡ false
    → count ≡ min (before + length (filter test (take (at + 1) xs))) last
count_same test xs at x before last count found was fails =
    let next : length (filter test (take (at + 1) xs)) ≡ length (filter test (take at xs)) + 0 = filter_next test xs at x false found fails in
    omega (arith, was, next)
