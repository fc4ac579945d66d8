-- The greatest rank, and rows that have ranks of their own, when a row comes or gets a rank.
use Rattle.std.proofs.Common.{◌≡◌, ℕ, ◌<◌, ◌≤◌, Bool, true, false, cond, ◌||◌, List, [], ◌∷◌, ◌++◌, Some, map, filter, max, refl, sym, ◌∙◌, ap, subst, inl, inr, arith}
use Rattle.std.specs.Prelude.{◌==◌, fold, if◌then◌else◌}
use Rattle.std.specs.List.{list_any}
use Rattle.std.proofs.lemmas.Bool.{cases_Bool}
use Rattle.std.proofs.lemmas.Bool.Decides.{nat_tests}
use Rattle.sg_facts.specs.declared.row.Row.{Row}
use Rattle.sg_facts.specs.Sound.{AreRows}
use Rattle.sg_facts.specs.Track.{row_at}
use Rattle.sg_slots.specs.Apart.{AreApart}
use Rattle.sg_slots.proofs.Apart.{apart_more}
use Rattle.sg_sched.specs.SchedTable.{rank_of}

-- the greatest rank of rows, or a number that is greater
abbrev pub most : ℕ → List Row → ℕ
most a rows = fold max a (map rank_of rows)

-- the greatest of a number and the ranks of rows is at least the number
pub most_base : (a : ℕ) (rows : List Row) → a ≤ most a rows
most_base a [] = omega arith
most_base a (r ∷ rows) = let rest = most_base (max a (rank_of r)) rows in omega (arith, rest)

-- the greatest of a number and the ranks of rows is no greater for a smaller number
pub most_from : (a b : ℕ) (rows : List Row) → a ≤ b → most a rows ≤ most b rows
most_from a b [] less = less
most_from a b (r ∷ rows) less = most_from (max a (rank_of r)) (max b (rank_of r)) rows (omega arith)

-- a row's rank is at most the greatest
pub found_most : (a : ℕ) (rows : List Row) (id : ℕ) (r : Row) → row_at rows id ≡ Some r → rank_of r ≤ most a rows
found_most a [] id r there = absurd (cc there)
found_most a (x ∷ rows) id r there = at (x.id == id) there (found_most (max a (rank_of x)) rows id r)
  where
    at : (b : Bool) → cond b (Some x) (row_at rows id) ≡ Some r → (row_at rows id ≡ Some r → rank_of r ≤ most (max a (rank_of x)) rows) → rank_of r ≤ most (max a (rank_of x)) rows
    at true there rest =
        let one : x ≡ r = cc there in
        let base = most_base (max a (rank_of x)) rows in
        subst (λ y. rank_of y ≤ most (max a (rank_of x)) rows) one (omega (arith, base))
    at false there rest = rest there

-- the greatest rank is below what all are below
pub most_within : (low high a n : ℕ) (rows : List Row) → a ≤ n → AreRows (λ r. rank_of r ≤ n) low high rows → most a rows ≤ n
most_within low high a n [] base are = base
most_within low high a n (r ∷ rows) base are = most_within r.id high (max a (rank_of r)) n rows (omega (arith, are.2)) are.3

-- no row has a rank above the greatest
none_above : (n : ℕ) (rows : List Row) → most 0 rows < n → list_any (λ s. rank_of s == n) rows ≡ false
none_above n [] above = refl
none_above n (r ∷ rows) above =
    let base = most_base (max 0 (rank_of r)) rows in
    let rest = most_from 0 (max 0 (rank_of r)) rows (omega arith) in
    let other : (rank_of r == n) ≡ false = grind (arith, nat_tests, base, above) in
    ap (λ b. b || list_any (λ s. rank_of s == n) rows) other ∙ none_above n rows (omega (arith, rest, above))

-- a row is changed to one that fails the test
none_set : (test : Row → Bool) (change : Row → Row) (id low high : ℕ) (rows : List Row) → AreRows (λ r. test (change r) ≡ false) low high rows → list_any test rows ≡ false
    → list_any test (map (λ r. if r.id == id then change r else r) rows) ≡ false
none_set test change id low high [] are none = refl
none_set test change id low high (r ∷ rows) are none = at (r.id == id) (test r) refl none (none_set test change id r.id high rows are.3)
  where
    set : List Row
    set = map (λ x. if x.id == id then change x else x) rows

    at : (b t : Bool) → test r ≡ t → (t || list_any test rows) ≡ false → (list_any test rows ≡ false → list_any test set ≡ false) → (test (cond b (change r) r) || list_any test set) ≡ false
    at b true is none rest = absurd (cc none)
    at true false is none rest = ap (λ t. t || list_any test set) are.2 ∙ rest none
    at false false is none rest = ap (λ t. t || list_any test set) is ∙ rest none

-- ---- ranks of their own

-- a row comes with a rank above all
pub own_more : (rows : List Row) (new : Row) → most 0 rows < rank_of new → AreApart rank_of rows → AreApart rank_of (rows ++ new ∷ [])
own_more rows new above own = apart_more rank_of rows new (none_above (rank_of new) rows above) own

-- rows above an id stay when that of the id is changed
stay : (P : Row → Type 0) (change : Row → Row) (id low high : ℕ) (rows : List Row) → id ≤ low → AreRows P low high rows → map (λ r. if r.id == id then change r else r) rows ≡ rows
stay P change id low high [] less are = refl
stay P change id low high (r ∷ rows) less are =
    let other : (r.id == id) ≡ false = grind (arith, nat_tests, are.0) in
    ap (λ b. cond b (change r) r ∷ map (λ x. if x.id == id then change x else x) rows) other ∙ ap (λ l. r ∷ l) (stay P change id r.id high rows (omega (arith, are.0)) are.3)

-- a row's rank is set above all
pub own_set : (change : Row → Row) (id n low high : ℕ) (rows : List Row) → AreRows (λ r. rank_of (change r) ≡ n) low high rows → most 0 rows < n → AreApart rank_of rows
    → AreApart rank_of (map (λ r. if r.id == id then change r else r) rows)
own_set change id n low high [] are above own = tt
own_set change id n low high (r ∷ rows) are above own = elim (cases_Bool (r.id == id)) [
  | inl here ↦
      let one : r.id ≡ id = grind (arith, nat_tests) in
      let same : rank_of (change r) ≡ n = are.2 in
      let kept = stay (λ x. rank_of (change x) ≡ n) change id r.id high rows (omega (arith, one)) are.3 in
      let apart : list_any (λ s. rank_of s == rank_of (change r)) rows ≡ false = subst (λ k. list_any (λ s. rank_of s == k) rows ≡ false) (sym same) (none_above n rows above_rest) in
      subst (λ b. AreApart rank_of (cond b (change r) r ∷ set)) (sym here) (subst (λ l. AreApart rank_of (change r ∷ l)) (sym kept) (apart, own.1))
  | inr other ↦
      let each = all_other rows r.id are.3 in
      subst (λ b. AreApart rank_of (cond b (change r) r ∷ set)) (sym other)
      (none_set (λ s. rank_of s == rank_of r) change id r.id high rows each own.0, own_set change id n r.id high rows are.3 above_rest own.1)
]
  where
    set : List Row
    set = map (λ x. if x.id == id then change x else x) rows

    above_rest : most 0 rows < n
    above_rest = let rest = most_from 0 (max 0 (rank_of r)) rows (omega arith) in omega (arith, rest, above)

    first_below : rank_of r < n
    first_below = let base = most_base (max 0 (rank_of r)) rows in omega (arith, base, above)

    all_other : (xs : List Row) (from : ℕ) → AreRows (λ x. rank_of (change x) ≡ n) from high xs → AreRows (λ x. (rank_of (change x) == rank_of r) ≡ false) from high xs
    all_other [] from are = tt
    all_other (x ∷ xs) from are =
        let is : rank_of (change x) ≡ n = are.2 in
        let other : (rank_of (change x) == rank_of r) ≡ false = grind (arith, nat_tests, first_below) in
        (are.0, are.1, other, all_other xs x.id are.3)
