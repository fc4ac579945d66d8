-- Lists that are split at some of their elements.
use Rattle.std.proofs.Common.{◌≡◌, ℕ, suc, ◌+◌, ◌<◌, Bool, true, false, cond, ◌&&◌, not, List, [], ◌∷◌, ◌++◌, drop, length, refl, ◌∙◌, ap, arith}
use Rattle.std.specs.List.{after_first, list_all, onto_first, position_or_len, slice_split}
use Rattle.std.proofs.lemmas.List.Splits.{length-slice_split}
use Rattle.std.proofs.lemmas.List.Folds.{list_all-append}

-- a test that holds of two lists holds of both in a row
pub all_both : {A : Type 0} (test : A → Bool) (xs ys : List A) → list_all test xs ≡ true → list_all test ys ≡ true → list_all test (xs ++ ys) ≡ true
all_both test xs ys one two = list_all-append test xs ys ∙ ap (λ b. b && list_all test ys) one ∙ two

-- a test that holds where another does
pub all_weaker : {A : Type 0} (test other : A → Bool) → ((x : A) → test x ≡ true → other x ≡ true) → (xs : List A) → list_all test xs ≡ true → list_all other xs ≡ true
all_weaker test other each [] all = refl
all_weaker test other each (x ∷ xs) all = by (test x) refl all (all_weaker test other each xs)
  where
    by : (b : Bool) → test x ≡ b → (b && list_all test xs) ≡ true → (list_all test xs ≡ true → list_all other xs ≡ true) → (other x && list_all other xs) ≡ true
    by true is rest later = ap (λ b. b && list_all other xs) (each x is) ∙ later rest
    by false is rest later = absurd (cc rest)

module _ {A : Type 0} (p : A → Bool) where
  onto_more : (x : A) (parts more : List (List A)) → 0 < length parts → onto_first x (parts ++ more) ≡ onto_first x parts ++ more
  onto_more x [] more some = absurd (omega (arith, some))
  onto_more x (part ∷ parts) more some = refl

  -- the pieces before and after an element at which a list is split
  pub split_more : (xs : List A) (y : A) (ys : List A) → p y ≡ true → slice_split p (xs ++ y ∷ ys) ≡ slice_split p xs ++ slice_split p ys
  split_more [] y ys at = ap (λ b. cond b ([] ∷ slice_split p ys) (onto_first y (slice_split p ys))) at
  split_more (x ∷ xs) y ys at = by (p x) (split_more xs y ys at)
    where
      by : (b : Bool) → slice_split p (xs ++ y ∷ ys) ≡ slice_split p xs ++ slice_split p ys
          → cond b ([] ∷ slice_split p (xs ++ y ∷ ys)) (onto_first x (slice_split p (xs ++ y ∷ ys))) ≡ cond b ([] ∷ slice_split p xs) (onto_first x (slice_split p xs)) ++ slice_split p ys
      by true rest = ap (λ parts. [] ∷ parts) rest
      by false rest = ap (onto_first x) rest ∙ onto_more x (slice_split p xs) (slice_split p ys) (let some = length-slice_split p xs in omega (arith, some))

  -- a list without such an element is one piece
  pub split_whole : (xs : List A) → list_all (λ x. not (p x)) xs ≡ true → slice_split p xs ≡ xs ∷ []
  split_whole [] whole = refl
  split_whole (x ∷ xs) whole = by (p x) whole (split_whole xs)
    where
      by : (b : Bool) → (not b && list_all (λ y. not (p y)) xs) ≡ true → (list_all (λ y. not (p y)) xs ≡ true → slice_split p xs ≡ xs ∷ []) → cond b ([] ∷ slice_split p xs) (onto_first x (slice_split p xs)) ≡ (x ∷ xs) ∷ []
      by true whole rest = absurd (cc whole)
      by false whole rest = ap (onto_first x) (rest whole)

  -- the first piece ends at the first such element
  pub split_first : (xs : List A) (y : A) (ys : List A) → list_all (λ x. not (p x)) xs ≡ true → p y ≡ true → slice_split p (xs ++ y ∷ ys) ≡ xs ∷ slice_split p ys
  split_first xs y ys whole at = split_more xs y ys at ∙ ap (λ parts. parts ++ slice_split p ys) (split_whole xs whole)

  -- what stands after the first such element
  pub after_at : (xs : List A) (y : A) (ys : List A) → list_all (λ x. not (p x)) xs ≡ true → p y ≡ true → after_first p (xs ++ y ∷ ys) ≡ ys
  after_at [] y ys whole at = ap (λ b. drop (cond (not b) (1 + position_or_len p ys) 0 + 1) (y ∷ ys)) at
  after_at (x ∷ xs) y ys whole at = by (p x) whole (λ rest. after_at xs y ys rest at)
    where
      more : (n : ℕ) → (1 + n) + 1 ≡ suc (n + 1)
      more n = omega arith

      by : (b : Bool) → (not b && list_all (λ z. not (p z)) xs) ≡ true → (list_all (λ z. not (p z)) xs ≡ true → after_first p (xs ++ y ∷ ys) ≡ ys)
          → drop (cond (not b) (1 + position_or_len p (xs ++ y ∷ ys)) 0 + 1) (x ∷ (xs ++ y ∷ ys)) ≡ ys
      by true whole rest = absurd (cc whole)
      by false whole rest = ap (λ n. drop n (x ∷ (xs ++ y ∷ ys))) (more (position_or_len p (xs ++ y ∷ ys))) ∙ rest whole
