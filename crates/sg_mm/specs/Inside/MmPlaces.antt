-- Pages by their places: the first one in a place, which has the least id, and pages that have places of their own.
use Rattle.std.proofs.Common.{◌≡◌, ℕ, ◌<◌, ◌≤◌, Bool, true, false, cond, List, [], ◌∷◌, ◌++◌, Some, map, filter, min, refl, sym, ◌∙◌, ap, subst, inl, inr, arith}
use Rattle.std.specs.Prelude.{◌==◌, ◌||◌, ◌&&◌, find, fold}
use Rattle.std.specs.List.{list_any, reduce}
use Rattle.std.specs.declared.option.Option.{Option}
use Rattle.std.specs.Option.{is_some, option_map}
use Rattle.std.proofs.lemmas.Bool.{cases_Bool}
use Rattle.std.proofs.lemmas.Bool.Decides.{nat_tests}
use Rattle.std.proofs.lemmas.List.Folds.{list_any-append}
use Rattle.sg_facts.specs.declared.row.Row.{Row}
use Rattle.sg_facts.specs.Sound.{AreRows}
use Rattle.sg_facts.specs.Track.{row_at}
use Rattle.sg_facts.proofs.Replaying.Found.{other_test, same_test}
use Rattle.sg_mm.specs.MmSound.{HaveOwnAddresses}
use Rattle.sg_mm.specs.MmTable.{is_at}
use Rattle.sg_mm.specs.Inside.MmAnswer.{addr_of, page_at, space_of}

-- ---- the first page in a place

-- the first page in a space at an address
abbrev pub first_at : List Row → ℕ → ℕ → Option Row
first_at rows space addr = find (is_at space addr) rows

-- a number below all ids is less than they are
least : (P : Row → Type 0) (test : Row → Bool) (n low high : ℕ) (rows : List Row) → n ≤ low → AreRows P low high rows → fold min n (map (λ r. r.id) (filter test rows)) ≡ n
least P test n low high [] below are = refl
least P test n low high (r ∷ rows) below are = at (test r) (least P test n r.id high rows (omega (arith, below, are.0)) are.3)
  where
    at : (b : Bool) → fold min n (map (λ x. x.id) (filter test rows)) ≡ n → fold min n (map (λ x. x.id) (cond b (r ∷ filter test rows) (filter test rows))) ≡ n
    at true rest = let is : min n r.id ≡ n = omega (arith, below, are.0) in ap (λ k. fold min k (map (λ x. x.id) (filter test rows))) is ∙ rest
    at false rest = rest

-- the least id in a place is the first page's
pub page_is_first : (P : Row → Type 0) (low high : ℕ) (rows : List Row) (space addr : ℕ) → AreRows P low high rows → page_at rows space addr ≡ option_map (λ r. r.id) (first_at rows space addr)
page_is_first P low high [] space addr are = refl
page_is_first P low high (r ∷ rows) space addr are = at (is_at space addr r) (page_is_first P r.id high rows space addr are.3)
  where
    rest : List Row
    rest = filter (is_at space addr) rows

    at : (b : Bool) → page_at rows space addr ≡ option_map (λ x. x.id) (first_at rows space addr)
        → reduce min (map (λ x. x.id) (cond b (r ∷ rest) rest)) ≡ option_map (λ x. x.id) (cond b (Some r) (first_at rows space addr))
    at true further = ap (λ n. Some n) (least P (is_at space addr) r.id r.id high rows (omega arith) are.3)
    at false further = further

-- a page is there where one is found
pub some_first : (test : Row → Bool) (rows : List Row) → list_any test rows ≡ is_some (find test rows)
some_first test [] = refl
some_first test (r ∷ rows) = at (test r) (some_first test rows)
  where
    at : (b : Bool) → list_any test rows ≡ is_some (find test rows) → (b || list_any test rows) ≡ is_some (cond b (Some r) (find test rows))
    at true rest = refl
    at false rest = rest

-- the first row that passes a test is there, and passes it
pub first_passes : (P : Row → Type 0) (test : Row → Bool) (low high : ℕ) (rows : List Row) (r : Row) → AreRows P low high rows → find test rows ≡ Some r
    → (low < r.id) × (row_at rows r.id ≡ Some r) × (test r ≡ true)
first_passes P test low high [] r are is = absurd (cc is)
first_passes P test low high (x ∷ rows) r are is = at (test x) refl is (first_passes P test x.id high rows r are.3)
  where
    at : (b : Bool) → test x ≡ b → cond b (Some x) (find test rows) ≡ Some r → (find test rows ≡ Some r → (x.id < r.id) × (row_at rows r.id ≡ Some r) × (test r ≡ true))
        → (low < r.id) × (row_at (x ∷ rows) r.id ≡ Some r) × (test r ≡ true)
    at true passes is further =
        let one : x ≡ r = cc is in
        subst (λ y. (low < y.id) × (row_at (x ∷ rows) y.id ≡ Some y) × (test y ≡ true)) one
        (are.0, ap (λ b. cond b (Some x) (row_at rows x.id)) (same_test x.id x.id refl), passes)
    at false passes is further =
        let rest = further is in
        let apart : (x.id == r.id) ≡ false = other_test x.id r.id (λ same. absurd (omega (arith, same, rest.0))) in
        (omega (arith, are.0, rest.0), ap (λ b. cond b (Some x) (row_at rows r.id)) apart ∙ rest.1, rest.2)

-- where no row passes a test, a row that is there doesn't
pub none_passes_it : (test : Row → Bool) (rows : List Row) (id : ℕ) (r : Row) → row_at rows id ≡ Some r → list_any test rows ≡ false → test r ≡ false
none_passes_it test [] id r there none = absurd (cc there)
none_passes_it test (x ∷ rows) id r there none = at (x.id == id) (test x) refl there none (none_passes_it test rows id r)
  where
    at : (b t : Bool) → test x ≡ t → cond b (Some x) (row_at rows id) ≡ Some r → (t || list_any test rows) ≡ false → (row_at rows id ≡ Some r → list_any test rows ≡ false → test r ≡ false) → test r ≡ false
    at b true is there none rest = absurd (cc none)
    at true false is there none rest = let one : x ≡ r = cc there in ap test (sym one) ∙ is
    at false false is there none rest = rest there none

-- ---- places of their own

same_place : (p q : Row) → space_of p ≡ space_of q → addr_of p ≡ addr_of q → is_at (space_of q) (addr_of q) p ≡ true
same_place p q space addr = ap (λ b. b && (addr_of p == addr_of q)) (same_test (space_of p) (space_of q) space) ∙ same_test (addr_of p) (addr_of q) addr

-- no two pages of different ids are in one place
pub two_apart : (rows : List Row) (p q : Row) → HaveOwnAddresses rows → row_at rows p.id ≡ Some p → row_at rows q.id ≡ Some q → (p.id ≡ q.id → ⊥) → space_of p ≡ space_of q → addr_of p ≡ addr_of q → ⊥
two_apart [] p q are there also apart space addr = absurd (cc there)
two_apart (x ∷ rows) p q are there also apart space addr = at (x.id == p.id) (x.id == q.id) refl refl there also (λ t u. two_apart rows p q are.1 t u apart space addr)
  where
    at : (b c : Bool) → (x.id == p.id) ≡ b → (x.id == q.id) ≡ c → cond b (Some x) (row_at rows p.id) ≡ Some p → cond c (Some x) (row_at rows q.id) ≡ Some q
        → (row_at rows p.id ≡ Some p → row_at rows q.id ≡ Some q → ⊥) → ⊥
    at true true b_is c_is there also rest = absurd (apart (let one : x.id ≡ p.id = grind (arith, nat_tests, b_is) in let two : x.id ≡ q.id = grind (arith, nat_tests, c_is) in sym one ∙ two))
    at true false b_is c_is there also rest =
        let one : x ≡ p = cc there in
        let none : is_at (space_of x) (addr_of x) q ≡ false = none_passes_it (is_at (space_of x) (addr_of x)) rows q.id q also are.0 in
        let some = same_place q p (sym space) (sym addr) in
        let same : is_at (space_of x) (addr_of x) q ≡ true = subst (λ y. is_at (space_of y) (addr_of y) q ≡ true) (sym one) some in
        absurd (cc (none, same))
    at false true b_is c_is there also rest =
        let one : x ≡ q = cc also in
        let none : is_at (space_of x) (addr_of x) p ≡ false = none_passes_it (is_at (space_of x) (addr_of x)) rows p.id p there are.0 in
        let some = same_place p q space addr in
        let same : is_at (space_of x) (addr_of x) p ≡ true = subst (λ y. is_at (space_of y) (addr_of y) p ≡ true) (sym one) some in
        absurd (cc (none, same))
    at false false b_is c_is there also rest = rest there also

-- a test tells the place
pub place_of_test : (space addr : ℕ) (r : Row) → is_at space addr r ≡ true → (space_of r ≡ space) × (addr_of r ≡ addr)
place_of_test space addr r is = at (space_of r == space) (addr_of r == addr) refl refl is
  where
    at : (b c : Bool) → (space_of r == space) ≡ b → (addr_of r == addr) ≡ c → (b && c) ≡ true → (space_of r ≡ space) × (addr_of r ≡ addr)
    at true true b_is c_is is = (grind (arith, nat_tests, b_is), grind (arith, nat_tests, c_is))
    at true false b_is c_is is = absurd (cc is)
    at false c b_is c_is is = absurd (cc is)

-- a page comes to a place that is free
pub own_more : (rows : List Row) (new : Row) → list_any (is_at (space_of new) (addr_of new)) rows ≡ false → HaveOwnAddresses rows → HaveOwnAddresses (rows ++ new ∷ [])
own_more [] new free own = (refl, tt)
own_more (r ∷ rows) new free own = elim (cases_Bool (is_at (space_of new) (addr_of new) r)) [
  | inl is ↦ let clash : true ≡ false = sym (ap (λ b. b || list_any (is_at (space_of new) (addr_of new)) rows) is) ∙ free in absurd (cc clash)
  | inr is ↦
      let rest = sym (ap (λ b. b || list_any (is_at (space_of new) (addr_of new)) rows) is) ∙ free in
      let turned : is_at (space_of r) (addr_of r) new ≡ false = turn (space_of r) (addr_of r) (space_of new) (addr_of new) is in (
        list_any-append (is_at (space_of r) (addr_of r)) rows (new ∷ []) ∙ ap (λ b. b || (is_at (space_of r) (addr_of r) new || false)) own.0 ∙ ap (λ b. b || false) turned,
        own_more rows new rest own.1,
      )
]
  where
    turn : (a b c d : ℕ) → ((a == c) && (b == d)) ≡ false → ((c == a) && (d == b)) ≡ false
    turn a b c d is = grind (arith, nat_tests, is)

-- no row passes a test among those that are left
pub none_left : (test keep : Row → Bool) (rows : List Row) → list_any test rows ≡ false → list_any test (filter keep rows) ≡ false
none_left test keep [] none = refl
none_left test keep (r ∷ rows) none = elim (cases_Bool (test r)) [
  | inl is ↦ let clash : true ≡ false = sym (ap (λ b. b || list_any test rows) is) ∙ none in absurd (cc clash)
  | inr is ↦ at (keep r) is (none_left test keep rows (sym (ap (λ b. b || list_any test rows) is) ∙ none))
]
  where
    at : (b : Bool) → test r ≡ false → list_any test (filter keep rows) ≡ false → list_any test (cond b (r ∷ filter keep rows) (filter keep rows)) ≡ false
    at true is rest = ap (λ t. t || list_any test (filter keep rows)) is ∙ rest
    at false is rest = rest

-- pages go
pub own_left : (keep : Row → Bool) (rows : List Row) → HaveOwnAddresses rows → HaveOwnAddresses (filter keep rows)
own_left keep [] own = tt
own_left keep (r ∷ rows) own = at (keep r) (own_left keep rows own.1)
  where
    at : (b : Bool) → HaveOwnAddresses (filter keep rows) → HaveOwnAddresses (cond b (r ∷ filter keep rows) (filter keep rows))
    at true rest = (none_left (is_at (space_of r) (addr_of r)) keep rows own.0, rest)
    at false rest = rest
