-- The first entries of a map.
use Rattle.std.proofs.Common.{◌≡◌, ℕ, Bool, true, false, cond, List, [], ◌∷◌, ◌++◌, None, Some, map, refl, sym, ◌∙◌, ap, inl, inr}
use Rattle.std.specs.Prelude.{nat_eq}
use Rattle.std.specs.declared.option.Option.{Option}
use Rattle.std.specs.List.{AllByRecursion, IsDistinct}
use Rattle.std.specs.Borrow.{Bor}
use Rattle.std.specs.Iterator.{Yields}
use Rattle.std.specs.Map.{keys_of, lookup}
use Rattle.std.specs.Map.Iter.{TakesFirst, deref_pair}
use Rattle.std.specs.Option.{option_map}
use Rattle.std.proofs.lemmas.Bool.Decides.{eqb_tells}
use Rattle.std.proofs.lemmas.Map.Iter.{rest_more, rest_so_far}
use Rattle.std.proofs.lemmas.Map.Keys.{IsDistinct-head, IsDistinct-tail}
use Rattle.sg_name.specs.declared.named.Standing.{Standing}
use Rattle.sg_name.specs.Names.{IsOneToOne, real_at}
use Rattle.sg_name.specs.Inside.Both.{GoesBack}
use Rattle.sg_name.proofs.Directions.{back_added, turned}

eq_itself : (n : ℕ) → nat_eq n n ≡ true
eq_itself n = elim (eqb_tells n n) [ inl same ↦ same.0 | inr apart ↦ absurd (apart.1 refl) ]

module _ {X : Type 0} where
  apart_from : (k : ℕ) (front : List (ℕ × X)) (e : ℕ × X) (rest : List (ℕ × X)) → AllByRecursion (λ y. nat_eq k y ≡ false) (keys_of (front ++ e ∷ rest)) → nat_eq k e.0 ≡ false
  apart_from k [] e rest all = all.0
  apart_from k (x ∷ front) e rest all = apart_from k front e rest all.1

  -- a key isn't among those before it
  pub none_before : (front : List (ℕ × X)) (e : ℕ × X) (rest : List (ℕ × X)) → IsDistinct nat_eq (keys_of (front ++ e ∷ rest)) → lookup (nat_eq e.0) front ≡ None
  none_before [] e rest distinct = refl
  none_before (x ∷ front) e rest distinct =
      let apart = apart_from x.0 front e rest (IsDistinct-head nat_eq x.0 (keys_of (front ++ e ∷ rest)) distinct) in
      ap (λ b. cond b (Some x.1) (lookup (nat_eq e.0) front)) (turned e.0 x.0 ∙ apart)
      ∙ none_before front e rest (IsDistinct-tail nat_eq x.0 (keys_of (front ++ e ∷ rest)) distinct)

  -- what is found among the first is found among all
  pub found_before : (test : ℕ → Bool) (front rest : List (ℕ × X)) (v : X) → lookup test front ≡ Some v → lookup test (front ++ rest) ≡ Some v
  found_before test [] rest v is = absurd (cc is)
  found_before test (x ∷ front) rest v is = at (test x.0) is (found_before test front rest v)
    where
      at : (b : Bool) → cond b (Some x.1) (lookup test front) ≡ Some v → (lookup test front ≡ Some v → lookup test (front ++ rest) ≡ Some v) → cond b (Some x.1) (lookup test (front ++ rest)) ≡ Some v
      at true is more = is
      at false is more = more is

  -- what comes after them, where they have no such key
  past : (test : ℕ → Bool) (front rest : List (ℕ × X)) → lookup test front ≡ None → lookup test (front ++ rest) ≡ lookup test rest
  past test [] rest none = refl
  past test (x ∷ front) rest none = at (test x.0) none (past test front rest)
    where
      at : (b : Bool) → cond b (Some x.1) (lookup test front) ≡ None → (lookup test front ≡ None → lookup test (front ++ rest) ≡ lookup test rest) → cond b (Some x.1) (lookup test (front ++ rest)) ≡ lookup test rest
      at true none more = absurd (cc none)
      at false none more = more none

  skip : (test : ℕ → Bool) (front : List (ℕ × X)) (e : ℕ × X) → test e.0 ≡ false → lookup test (front ++ e ∷ []) ≡ lookup test front
  skip test [] e is = ap (λ b. cond b (Some e.1) None) is
  skip test (x ∷ front) e is = ap (λ o. cond (test x.0) (Some x.1) o) (skip test front e is)

  -- a key that none before it has
  pub found_first : (front : List (ℕ × X)) (e : ℕ × X) (rest : List (ℕ × X)) → lookup (nat_eq e.0) front ≡ None → lookup (nat_eq e.0) (front ++ e ∷ rest) ≡ Some e.1
  found_first front e rest none = past (nat_eq e.0) front (e ∷ rest) none ∙ ap (λ b. cond b (Some e.1) (lookup (nat_eq e.0) rest)) (eq_itself e.0)

  -- one more entry
  pub lookup_more : (k : ℕ) (front : List (ℕ × X)) (e : ℕ × X) → lookup (nat_eq e.0) front ≡ None → lookup (nat_eq k) (front ++ e ∷ []) ≡ cond (nat_eq e.0 k) (Some e.1) (lookup (nat_eq k) front)
  lookup_more k front e none = elim (eqb_tells e.0 k) [
    | inl same ↦
        ap (λ n. lookup (nat_eq n) (front ++ e ∷ [])) (sym same.1) ∙ found_first front e [] none
        ∙ ap (λ b. cond b (Some e.1) (lookup (nat_eq k) front)) (sym same.0)
    | inr apart ↦ skip (nat_eq k) front e (turned k e.0 ∙ apart.0) ∙ ap (λ b. cond b (Some e.1) (lookup (nat_eq k) front)) (sym apart.0)
  ]

-- ---- entries that an iterator lends

pub shown-more : (xs : List (Bor ℕ × Bor Standing)) (x : Bor ℕ × Bor Standing) → map deref_pair (xs ++ x ∷ []) ≡ map deref_pair xs ++ deref_pair x ∷ []
shown-more [] x = refl
shown-more (y ∷ xs) x = ap (λ l. deref_pair y ∷ l) (shown-more xs x)

-- those so far, the next one and the rest
pub all_are : (all : List (ℕ × Standing)) (xs : List (Bor ℕ × Bor Standing)) (s t u : List (ℕ × Standing)) (r : Option (Bor ℕ × Bor Standing)) (x : Bor ℕ × Bor Standing)
    → s ≡ all → Yields (TakesFirst deref_pair) s xs t → r ≡ Some x → TakesFirst deref_pair t r u → all ≡ map deref_pair xs ++ deref_pair x ∷ u
all_are all xs s t u r x begun yielded is step =
    sym begun ∙ rest_so_far deref_pair xs s t yielded ∙ ap (λ l. map deref_pair xs ++ l) (rest_more deref_pair t u r x is step)

-- ---- the service ids of the first entries

-- a service id among the first entries
real_before : (front rest : List (ℕ × Standing)) (x r : ℕ) → real_at front x ≡ Some r → real_at (front ++ rest) x ≡ Some r
real_before front rest x r stands = at (lookup (nat_eq x) front) refl stands
  where
    at : (o : Option Standing) → lookup (nat_eq x) front ≡ o → option_map (λ s. s.real) o ≡ Some r → real_at (front ++ rest) x ≡ Some r
    at None is stood = absurd (cc stood)
    at (Some s) is stood = ap (option_map (λ t. t.real)) (found_before (nat_eq x) front rest s is) ∙ stood

module _ (front : List (ℕ × Standing)) (e : ℕ × Standing) (rest : List (ℕ × Standing)) (ids : List (ℕ × ℕ))
    (distinct : IsDistinct nat_eq (keys_of (front ++ e ∷ rest))) (one : IsOneToOne (front ++ e ∷ rest)) (back : GoesBack front ids) where
  -- the next service id goes back to no id yet
  pub free_real : lookup (nat_eq e.1.real) ids ≡ None
  free_real = at (lookup (nat_eq e.1.real) ids) refl
    where
      new : lookup (nat_eq e.0) front ≡ None
      new = none_before front e rest distinct

      clash : (x : ℕ) → lookup (nat_eq e.1.real) ids ≡ Some x → ⊥
      clash x is =
          let stands = (back x e.1.real).0 is in
          let its : real_at (front ++ e ∷ rest) e.0 ≡ Some e.1.real = ap (option_map (λ s. s.real)) (found_first front e rest new) in
          let same = one x e.0 e.1.real (real_before front (e ∷ rest) x e.1.real stands) its in
          let wrong : None ≡ Some e.1.real = sym (ap (option_map (λ s. s.real)) new) ∙ ap (λ n. real_at front n) (sym same) ∙ stands in
          cc wrong

      at : (o : Option ℕ) → lookup (nat_eq e.1.real) ids ≡ o → lookup (nat_eq e.1.real) ids ≡ None
      at None is = is
      at (Some x) is = absurd (clash x is)

  -- one more name goes back
  pub more_back : (ids' : List (ℕ × ℕ)) → ((q : ℕ) → lookup (nat_eq q) ids' ≡ cond (nat_eq e.1.real q) (Some e.0) (lookup (nat_eq q) ids)) → GoesBack (front ++ e ∷ []) ids'
  more_back ids' points =
      let new = none_before front e rest distinct in
      back_added (λ x. lookup (nat_eq x) front) (λ x. lookup (nat_eq x) (front ++ e ∷ [])) (λ r. lookup (nat_eq r) ids) (λ r. lookup (nat_eq r) ids') e.0 e.1
      back new free_real (λ q. lookup_more q front e new) points
