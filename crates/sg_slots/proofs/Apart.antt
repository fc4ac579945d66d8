-- Rows that have numbers of their own, when a row comes, is changed or goes.
use Rattle.std.proofs.Common.{◌≡◌, ℕ, Bool, true, false, cond, ◌||◌, List, [], ◌∷◌, ◌++◌, Some, map, filter, refl, sym, ◌∙◌, ap, arith}
use Rattle.std.specs.Prelude.{◌==◌}
use Rattle.std.specs.List.{list_any}
use Rattle.std.proofs.lemmas.Bool.Decides.{nat_tests}
use Rattle.sg_facts.specs.declared.row.Row.{Row}
use Rattle.sg_facts.specs.Track.{row_at}
use Rattle.sg_slots.specs.Apart.{AreApart}

-- ---- a test that no row passes

-- a row comes
pub none_more : (test : Row → Bool) (rows : List Row) (new : Row) → list_any test rows ≡ false → test new ≡ false → list_any test (rows ++ new ∷ []) ≡ false
none_more test [] new none other = ap (λ b. b || false) other
none_more test (r ∷ rows) new none other = at (test r) none (none_more test rows new)
  where
    at : (b : Bool) → (b || list_any test rows) ≡ false → (list_any test rows ≡ false → test new ≡ false → list_any test (rows ++ new ∷ []) ≡ false) → (b || list_any test (rows ++ new ∷ [])) ≡ false
    at true none rest = absurd (cc none)
    at false none rest = rest none other

-- rows go
pub none_left : (test keep : Row → Bool) (rows : List Row) → list_any test rows ≡ false → list_any test (filter keep rows) ≡ false
none_left test keep [] none = refl
none_left test keep (r ∷ rows) none = at (keep r) (test r) refl none (none_left test keep rows)
  where
    at : (k b : Bool) → test r ≡ b → (b || list_any test rows) ≡ false → (list_any test rows ≡ false → list_any test (filter keep rows) ≡ false) → list_any test (cond k (r ∷ filter keep rows) (filter keep rows)) ≡ false
    at k true is none rest = absurd (cc none)
    at true false is none rest = ap (λ b. b || list_any test (filter keep rows)) is ∙ rest none
    at false false is none rest = rest none

-- rows are changed, and the test with them
pub none_changed : (test test' : Row → Bool) (change : Row → Row) → ((r : Row) → test' (change r) ≡ test r) → (rows : List Row) → list_any test rows ≡ false → list_any test' (map change rows) ≡ false
none_changed test test' change same [] none = refl
none_changed test test' change same (r ∷ rows) none = ap (λ b. b || list_any test' (map change rows)) (same r) ∙ at (test r) none (none_changed test test' change same rows)
  where
    at : (b : Bool) → (b || list_any test rows) ≡ false → (list_any test rows ≡ false → list_any test' (map change rows) ≡ false) → (b || list_any test' (map change rows)) ≡ false
    at true none rest = absurd (cc none)
    at false none rest = rest none

-- ---- numbers of their own

module _ (number : Row → ℕ) where
  -- a row comes with a number that none has
  pub apart_more : (rows : List Row) (new : Row) → list_any (λ s. number s == number new) rows ≡ false → AreApart number rows → AreApart number (rows ++ new ∷ [])
  apart_more [] new none apart = (refl, tt)
  apart_more (r ∷ rows) new none apart = at (number r == number new) refl none (λ none. apart_more rows new none apart.1)
    where
      at : (b : Bool) → (number r == number new) ≡ b → (b || list_any (λ s. number s == number new) rows) ≡ false → (list_any (λ s. number s == number new) rows ≡ false → AreApart number (rows ++ new ∷ []))
          → AreApart number (r ∷ (rows ++ new ∷ []))
      at true is none rest = absurd (cc none)
      at false is none rest =
          let other : (number new == number r) ≡ false = grind (arith, nat_tests, is) in
          (none_more (λ s. number s == number r) rows new apart.0 other, rest none)

  -- rows go
  pub apart_left : (keep : Row → Bool) (rows : List Row) → AreApart number rows → AreApart number (filter keep rows)
  apart_left keep [] apart = tt
  apart_left keep (r ∷ rows) apart = at (keep r) (apart_left keep rows apart.1)
    where
      at : (b : Bool) → AreApart number (filter keep rows) → AreApart number (cond b (r ∷ filter keep rows) (filter keep rows))
      at true rest = (none_left (λ s. number s == number r) keep rows apart.0, rest)
      at false rest = rest

  -- rows are changed under their numbers
  pub apart_changed : (change : Row → Row) → ((r : Row) → number (change r) ≡ number r) → (rows : List Row) → AreApart number rows → AreApart number (map change rows)
  apart_changed change same [] apart = tt
  apart_changed change same (r ∷ rows) apart = (
    none_changed (λ s. number s == number r) (λ s. number s == number (change r)) change (λ s. ap (λ n. n == number (change r)) (same s) ∙ ap (λ n. number s == n) (same r)) rows apart.0,
    apart_changed change same rows apart.1,
  )

  -- a row of a number that none has isn't there
  missed : (x y : Row) (id : ℕ) (rows : List Row) → list_any (λ z. number z == number x) rows ≡ false → number y ≡ number x → row_at rows id ≡ Some y → ⊥
  missed x y id [] none same found = cc found
  missed x y id (z ∷ rows) none same found = at (z.id == id) (number z == number x) refl none found (missed x y id rows)
    where
      at : (b t : Bool) → (number z == number x) ≡ t → (t || list_any (λ v. number v == number x) rows) ≡ false → cond b (Some z) (row_at rows id) ≡ Some y
          → (list_any (λ v. number v == number x) rows ≡ false → number y ≡ number x → row_at rows id ≡ Some y → ⊥) → ⊥
      at b true is none found rest = cc none
      at true false is none found rest =
          let one : z ≡ y = cc found in
          let even : number z ≡ number x = ap (λ v. number v) one ∙ same in
          let test : (number z == number x) ≡ true = grind (arith, nat_tests) in
          let clash : true ≡ false = sym test ∙ is in
          cc clash
      at false false is none found rest = rest none same found

  -- one number is one row
  pub one_row : (rows : List Row) (m n : ℕ) (r s : Row) → AreApart number rows → row_at rows m ≡ Some r → row_at rows n ≡ Some s → number r ≡ number s → r ≡ s
  one_row [] m n r s apart there there' same = absurd (cc there)
  one_row (x ∷ rows) m n r s apart there there' same = at (x.id == m) (x.id == n) there there' (one_row rows m n r s apart.1)
    where
      no_other : (y : Row) (id : ℕ) → number y ≡ number x → row_at rows id ≡ Some y → ⊥
      no_other y id same found = missed x y id rows apart.0 same found

      at : (a b : Bool) → cond a (Some x) (row_at rows m) ≡ Some r → cond b (Some x) (row_at rows n) ≡ Some s
          → (row_at rows m ≡ Some r → row_at rows n ≡ Some s → number r ≡ number s → r ≡ s) → r ≡ s
      at true true there there' rest = let one : x ≡ r = cc there in let two : x ≡ s = cc there' in sym one ∙ two
      at true false there there' rest = let one : x ≡ r = cc there in absurd (no_other s n (sym same ∙ ap (λ v. number v) (sym one)) there')
      at false true there there' rest = let two : x ≡ s = cc there' in absurd (no_other r m (same ∙ ap (λ v. number v) (sym two)) there)
      at false false there there' rest = rest there there' same
