-- Elements at places.
use Rattle.std.proofs.Common.{◌≡◌, ℕ, zero, suc, ◌≤◌, Bool, true, false, cond, ◌||◌, List, [], ◌∷◌, ◌++◌, length, None, Some, refl, sym, ◌∙◌, ap, arith}
use Rattle.std.specs.Prelude.{filter, find, slice_get}
use Rattle.std.specs.declared.option.Option.{Option}
use Rattle.std.specs.List.{cons_option, filter_map, list_all, list_any}
use Rattle.std.specs.Option.{option_map, option_or}
use Rattle.std.proofs.lemmas.Bool.{and_from, and_parts, or_from, or_parts, or_right}

-- ---- what is found, and what isn't

not_first : {X : Type 0} (b : Bool) (x : X) (rest : Option X) → cond b (Some x) rest ≡ None → (b ≡ false) × (rest ≡ None)
not_first true x rest is = absurd (cc is)
not_first false x rest is = (refl, is)

-- where no element is found each fails
pub none_found : {X : Type 0} (test : X → Bool) (xs : List X) (k : ℕ) (x : X) → find test xs ≡ None → slice_get xs k ≡ Some x → test x ≡ false
none_found test [] k x none at = absurd (cc at)
none_found test (y ∷ xs) zero x none at =
    let same : y ≡ x = cc at in ap test (sym same) ∙ (not_first (test y) y (find test xs) none).0
none_found test (y ∷ xs) (suc k) x none at = none_found test xs k x (not_first (test y) y (find test xs) none).1 at

-- where none of two places is told, neither is
pub neither : (a b : Option ℕ) → option_or a b ≡ None → (a ≡ None) × (b ≡ None)
neither None b is = (refl, is)
neither (Some x) b is = absurd (cc is)

-- where no place of an element is told there is none
pub no_element : {X : Type 0} (place : X → ℕ) (found : Option X) → option_map place found ≡ None → found ≡ None
no_element place None is = refl
no_element place (Some x) is = absurd (cc is)

no_head : {X : Type 0} (o : Option X) (xs : List X) → slice_get (cons_option o xs) 0 ≡ None → (o ≡ None) × (slice_get xs 0 ≡ None)
no_head None xs is = (refl, is)
no_head (Some x) xs is = absurd (cc is)

-- where nothing is gathered each gives nothing
pub none_gathered : {X Y : Type 0} (h : X → Option Y) (xs : List X) (k : ℕ) (x : X) → slice_get (filter_map h xs) 0 ≡ None → slice_get xs k ≡ Some x → h x ≡ None
none_gathered h [] k x none at = absurd (cc at)
none_gathered h (y ∷ xs) zero x none at = let same : y ≡ x = cc at in ap h (sym same) ∙ (no_head (h y) (filter_map h xs) none).0
none_gathered h (y ∷ xs) (suc k) x none at = none_gathered h xs k x (no_head (h y) (filter_map h xs) none).1 at

-- where there is nothing at a place a list is no longer
pub no_longer : {X : Type 0} (xs : List X) (k : ℕ) → slice_get xs k ≡ None → length xs ≤ k
no_longer [] k none = omega arith
no_longer (x ∷ xs) zero none = absurd (cc none)
no_longer (x ∷ xs) (suc k) none = let rest = no_longer xs k none in omega (arith, rest)

-- ---- all of a list, and some

-- all pass where each does
pub all_pass : {X : Type 0} (test : X → Bool) (xs : List X) → ((k : ℕ) (x : X) → slice_get xs k ≡ Some x → test x ≡ true) → list_all test xs ≡ true
all_pass test [] each = refl
all_pass test (x ∷ xs) each = and_from (test x) (list_all test xs) (each 0 x refl) (all_pass test xs (λ k y at. each (suc k) y at))

-- and the other way round
pub each_passes : {X : Type 0} (test : X → Bool) (xs : List X) (k : ℕ) (x : X) → list_all test xs ≡ true → slice_get xs k ≡ Some x → test x ≡ true
each_passes test [] k x all at = absurd (cc at)
each_passes test (y ∷ xs) zero x all at = let same : y ≡ x = cc at in ap test (sym same) ∙ (and_parts (test y) (list_all test xs) all).0
each_passes test (y ∷ xs) (suc k) x all at = each_passes test xs k x (and_parts (test y) (list_all test xs) all).1 at

-- none passes where each fails
pub none_pass : {X : Type 0} (test : X → Bool) (xs : List X) → ((k : ℕ) (x : X) → slice_get xs k ≡ Some x → test x ≡ false) → list_any test xs ≡ false
none_pass test [] each = refl
none_pass test (x ∷ xs) each = or_from (test x) (list_any test xs) (each 0 x refl) (none_pass test xs (λ k y at. each (suc k) y at))

-- and the other way round
pub each_fails : {X : Type 0} (test : X → Bool) (xs : List X) (k : ℕ) (x : X) → list_any test xs ≡ false → slice_get xs k ≡ Some x → test x ≡ false
each_fails test [] k x none at = absurd (cc at)
each_fails test (y ∷ xs) zero x none at = let same : y ≡ x = cc at in ap test (sym same) ∙ (or_parts (test y) (list_any test xs) none).0
each_fails test (y ∷ xs) (suc k) x none at = each_fails test xs k x (or_parts (test y) (list_any test xs) none).1 at

-- one that passes is some that passes
pub some_passes : {X : Type 0} (test : X → Bool) (xs : List X) (k : ℕ) (x : X) → slice_get xs k ≡ Some x → test x ≡ true → list_any test xs ≡ true
some_passes test [] k x at passes = absurd (cc at)
some_passes test (y ∷ xs) zero x at passes = let same : y ≡ x = cc at in ap (λ b. b || list_any test xs) (ap test same ∙ passes)
some_passes test (y ∷ xs) (suc k) x at passes = or_right (test y) (list_any test xs) (some_passes test xs k x at passes)

-- what one gives that passes is some that passes
pub gathered_some : {X Y : Type 0} (test : Y → Bool) (h : X → Option Y) (xs : List X) (k : ℕ) (x : X) (y : Y) → slice_get xs k ≡ Some x → h x ≡ Some y → test y ≡ true → list_any test (filter_map h xs) ≡ true
gathered_some test h [] k x y at is passes = absurd (cc at)
gathered_some test h (z ∷ xs) zero x y at is passes =
    let same : z ≡ x = cc at in
    ap (λ o. list_any test (cons_option o (filter_map h xs))) (ap h same ∙ is) ∙ ap (λ b. b || list_any test (filter_map h xs)) passes
gathered_some {Y = Y} test h (z ∷ xs) (suc k) x y at is passes = by (h z) (gathered_some test h xs k x y at is passes)
  where
    by : (o : Option Y) → list_any test (filter_map h xs) ≡ true → list_any test (cons_option o (filter_map h xs)) ≡ true
    by None rest = rest
    by (Some d) rest = or_right (test d) (list_any test (filter_map h xs)) rest

-- what a filter keeps passes where all do
pub all_kept : {X : Type 0} (test keep : X → Bool) (xs : List X) → list_all test xs ≡ true → list_all test (filter keep xs) ≡ true
all_kept test keep [] all = refl
all_kept test keep (x ∷ xs) all =
    by (keep x) (and_parts (test x) (list_all test xs) all).0 (all_kept test keep xs (and_parts (test x) (list_all test xs) all).1)
  where
    by : (b : Bool) → test x ≡ true → list_all test (filter keep xs) ≡ true → list_all test (cond b (x ∷ filter keep xs) (filter keep xs)) ≡ true
    by true first rest = and_from (test x) (list_all test (filter keep xs)) first rest
    by false first rest = rest

-- ---- places

-- what stands between two parts of a list stands at the length of the first
pub at_split : {X : Type 0} (before : List X) (x : X) (after : List X) → slice_get (before ++ x ∷ after) (length before) ≡ Some x
at_split [] x after = refl
at_split (y ∷ before) x after = at_split before x after

-- what is found is at a place, and passes
pub found_at : {X : Type 0} (test : X → Bool) (xs : List X) (x : X) → find test xs ≡ Some x → (k : ℕ) × (slice_get xs k ≡ Some x) × (test x ≡ true)
found_at test [] x is = absurd (cc is)
found_at test (y ∷ xs) x is = by (test y) refl is (λ found. found_at test xs x found)
  where
    by : (b : Bool) → test y ≡ b → cond b (Some y) (find test xs) ≡ Some x → (find test xs ≡ Some x → (k : ℕ) × (slice_get xs k ≡ Some x) × (test x ≡ true))
        → (k : ℕ) × (slice_get (y ∷ xs) k ≡ Some x) × (test x ≡ true)
    by true told found later = let same : y ≡ x = cc found in (0, ap Some same, ap test (sym same) ∙ told)
    by false told found later = let rest = later found in (suc rest.0, rest.1, rest.2)
