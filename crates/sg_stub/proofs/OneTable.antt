-- An interface has one list of lines, since its lines ascend and each has the least walk.
use Rattle.std.proofs.Common.{◌≡◌, ◌⊎◌, ℕ, zero, suc, ◌<◌, Bool, true, List, [], ◌∷◌, Some, length, refl, sym, ◌∙◌, ap, subst, inl, inr, arith}
use Rattle.std.specs.Prelude.{◌==◌, ◌||◌, ◌&&◌, if◌then◌else◌, nat_lt}
use Rattle.std.specs.declared.cmp.Ordering.{Ordering}
use Rattle.std.specs.declared.cmp.Ordering.TheVariants.{Less, Greater}
use Rattle.std.specs.Cmp.{IsTotalOrder}
use Rattle.std.specs.List.{AllPairs, Contains}
use Rattle.std.specs.Ordering.{ordering_reverse}
use Rattle.std.proofs.lemmas.Bool.{and_parts, cases_Bool, or_cases}
use Rattle.std.proofs.lemmas.Bool.Decides.{nat_tests}
use Rattle.std.proofs.lemmas.Cmp.{nat_cmp_total, on_total, then_total}
use Rattle.sg_check.specs.sg_facts.declared.tables.WalkLine.{WalkLine}
use Rattle.sg_check.specs.sg_facts.Fields.{number_of}
use Rattle.sg_check.specs.sg_facts.Interface.{Declared}
use Rattle.sg_check.specs.sg_facts.Tables.{AreTables, walk_of}
use Rattle.sg_check.specs.sg_facts.Inside.Walking.{is_for, line_order, no_worse}
use Rattle.sg_check.specs.sg_facts.Walks.{IsReachable, IsWalkOf, no_later}
use Rattle.sg_check.proofs.sg_walk.ReachedStates.Triples.{none_in}
use Rattle.sg_check.proofs.Seeking.{walked_set}

-- ---- lists that ascend

here : {X : Type 0} (x : X) (xs : List X) → Contains (x ∷ xs) x
here x xs = (0, omega arith, refl)

behind : {X : Type 0} (x y : X) (xs : List X) → Contains xs y → Contains (x ∷ xs) y
behind x y xs (k, within, is) = (suc k, omega (arith, within), is)

first_or_after : {X : Type 0} (x y : X) (xs : List X) → Contains (x ∷ xs) y → (y ≡ x) ⊎ Contains xs y
first_or_after x y xs (zero, within, is) = inl (sym is)
first_or_after x y xs (suc k, within, is) = inr (k, omega (arith, within), is)

module _ {X : Type 0} (R : X → X → Ordering) (total : IsTotalOrder R) where
  not_back : (x y : X) → R x y ≡ Less → R y x ≡ Less → ⊥
  not_back x y is back = let turned : Less ≡ Greater = sym is ∙ total.antisymm x y ∙ ap ordering_reverse back in cc turned

  pairs_after : (x : X) (xs : List X) → AllPairs (λ a b. R a b ≡ Less) (x ∷ xs) → AllPairs (λ a b. R a b ≡ Less) xs
  pairs_after x xs all i j d less within = all (suc i) (suc j) d (omega (arith, less)) (omega (arith, within))

  first_less : (x y : X) (xs : List X) → AllPairs (λ a b. R a b ≡ Less) (x ∷ xs) → Contains xs y → R x y ≡ Less
  first_less x y xs all (k, within, is) = subst (λ z. R x z ≡ Less) is (all 0 (suc k) y (omega arith) (omega (arith, within)))

  same_first : (x y : X) (xs ys : List X) → AllPairs (λ a b. R a b ≡ Less) (x ∷ xs) → AllPairs (λ a b. R a b ≡ Less) (y ∷ ys) → Contains (y ∷ ys) x → Contains (x ∷ xs) y → x ≡ y
  same_first x y xs ys one other to back = elim (first_or_after y x ys to) [
    | inl same ↦ same
    | inr later ↦ elim (first_or_after x y xs back) [
      | inl same ↦ sym same
      | inr after ↦ absurd (not_back x y (first_less x y xs one after) (first_less y x ys other later))
    ]
  ]

  rest_in : (x y z : X) (xs ys : List X) → AllPairs (λ a b. R a b ≡ Less) (x ∷ xs) → x ≡ y → Contains (y ∷ ys) z → Contains xs z → Contains ys z
  rest_in x y z xs ys all same in_other has = elim (first_or_after y z ys in_other) [
    | inl is ↦ let itself : R x x ≡ Less = subst (λ w. R x w ≡ Less) (is ∙ sym same) (first_less x z xs all has) in absurd (not_back x x itself itself)
    | inr later ↦ later
  ]

  -- lists that ascend and have the same elements are one
  same_lists : (xs ys : List X) → AllPairs (λ a b. R a b ≡ Less) xs → AllPairs (λ a b. R a b ≡ Less) ys → ((z : X) → Contains xs z → Contains ys z) → ((z : X) → Contains ys z → Contains xs z) → xs ≡ ys
  same_lists [] [] one other to back = refl
  same_lists [] (y ∷ ys) one other to back = absurd (none_in y (back y (here y ys)))
  same_lists (x ∷ xs) [] one other to back = absurd (none_in x (to x (here x xs)))
  same_lists (x ∷ xs) (y ∷ ys) one other to back =
      let same : x ≡ y = same_first x y xs ys one other (to x (here x xs)) (back y (here y ys)) in
      ap (λ w. w ∷ xs) same
      ∙ ap (λ l. y ∷ l) (same_lists xs ys (pairs_after x xs one) (pairs_after y ys other)
      (λ z has. rest_in x y z xs ys one same (to z (behind x z xs has)) has)
      (λ z has. rest_in y x z ys xs other (sym same) (back z (behind y z ys has)) has))

-- ---- the least walk

earlier_or_same : (m n : ℕ) (rest : Bool) → (nat_lt m n || ((m == n) && rest)) ≡ true → (m < n) ⊎ ((m ≡ n) × (rest ≡ true))
earlier_or_same m n rest is = elim (or_cases (nat_lt m n) ((m == n) && rest) is) [
  | inl less ↦ inl (grind (arith, nat_tests, less))
  | inr both ↦ let parts = and_parts (m == n) rest both in let same = parts.0 in inr (grind (arith, nat_tests, same), parts.1)
]

not_later_twice : (a b : List ℕ) → length a ≡ length b → no_later a b ≡ true → no_later b a ≡ true → a ≡ b
not_later_twice [] [] l to back = refl
not_later_twice [] (n ∷ b) l to back = absurd (omega (arith, l))
not_later_twice (m ∷ a) [] l to back = absurd (omega (arith, l))
not_later_twice (m ∷ a) (n ∷ b) l to back = elim (earlier_or_same m n (no_later a b) to) [
  | inl less ↦ elim (earlier_or_same n m (no_later b a) back) [
    | inl more ↦ absurd (omega (arith, less, more))
    | inr same ↦ absurd (omega (arith, less, same.0))
  ]
  | inr first ↦ elim (earlier_or_same n m (no_later b a) back) [
    | inl more ↦ absurd (omega (arith, more, first.0))
    | inr second ↦ ap (λ k. k ∷ a) first.0 ∙ ap (λ w. n ∷ w) (not_later_twice a b (omega (arith, l)) first.1 second.1)
  ]
]

one_least : (a b : List ℕ) → no_worse a b ≡ true → no_worse b a ≡ true → a ≡ b
one_least a b to back = elim (earlier_or_same (length a) (length b) (no_later a b) to) [
  | inl less ↦ elim (earlier_or_same (length b) (length a) (no_later b a) back) [
    | inl more ↦ absurd (omega (arith, less, more))
    | inr same ↦ absurd (omega (arith, less, same.0))
  ]
  | inr first ↦ elim (earlier_or_same (length b) (length a) (no_later b a) back) [
    | inl more ↦ absurd (omega (arith, more, first.0))
    | inr second ↦ not_later_twice a b first.0 first.1 second.1
  ]
]

one_walk : (i : Declared) (a b : List ℕ) (by state : ℕ) (set : List Bool) → IsWalkOf i a by state set → IsWalkOf i b by state set → a ≡ b
one_walk i a b by state set one other = one_least a b (one.least b other.begins other.restored) (other.least a one.begins one.restored)

-- ---- lines

same_line : (x y : WalkLine) → x.made ≡ y.made → x.state ≡ y.state → x.mask ≡ y.mask → x.walk ≡ y.walk → x ≡ y
same_line x y made state mask walk = rw (made, state, mask, walk)

-- a walk that is found stands in a line
found_line : (lines : List WalkLine) (m s k : ℕ) (walk : List ℕ) → walk_of lines m s k ≡ Some walk
    → (y : WalkLine) × Contains lines y × (y.made ≡ m) × (y.state ≡ s) × (y.mask ≡ k)
found_line [] m s k walk is = absurd (cc is)
found_line (l ∷ lines) m s k walk is = elim (cases_Bool (is_for m s k l)) [
  | inl at ↦
      let parts = and_parts ((l.made == m) && (l.state == s)) (l.mask == k) at in
      let front = and_parts (l.made == m) (l.state == s) parts.0 in
      let first = front.0 in
      let second = front.1 in
      let third = parts.1 in
      (l, here l lines, grind (arith, nat_tests, first), grind (arith, nat_tests, second), grind (arith, nat_tests, third))
  | inr elsewhere ↦
      let rest = found_line lines m s k walk (ap (λ b. if b then Some l.walk else walk_of lines m s k) (sym elsewhere) ∙ is) in
      (rest.0, behind l rest.0 lines rest.1, rest.2, rest.3, rest.4)
]

-- each line of one table stands in another
line_in : (i : Declared) (one other : List WalkLine) → AreTables i one → AreTables i other → (x : WalkLine) → Contains one x → Contains other x
line_in i one other a b x has =
    let own = a.each x has in
    let found = b.all x.made x.state own.0 own.2 in
    let line = found_line other x.made x.state (number_of own.0) found.0 found.1 in
    let y : WalkLine = line.0 in
    let its = b.each y line.1 in
    let reached : IsReachable i x.made x.state its.0 = subst (λ n. IsReachable i n x.state its.0) line.2 (subst (λ n. IsReachable i y.made n its.0) line.3 its.2) in
    let walk : IsWalkOf i y.walk x.made x.state its.0 = subst (λ n. IsWalkOf i y.walk n x.state its.0) line.2 (subst (λ n. IsWalkOf i y.walk y.made n its.0) line.3 its.3) in
    let set : its.0 ≡ own.0 = walked_set i x.made x.state own.0 its.0 y.walk own.2 walk.restored (its.1 ∙ line.4) in
    let same : x.walk ≡ y.walk = one_walk i x.walk y.walk x.made x.state own.0 own.3 (subst (IsWalkOf i y.walk x.made x.state) set walk) in
    subst (Contains other) (sym (same_line x y (sym line.2) (sym line.3) (sym own.1 ∙ sym line.4) same)) line.1

total_lines : IsTotalOrder (λ a b. line_order a b.made b.state b.mask)
total_lines = then_total (then_total (on_total (λ l. l.made) nat_cmp_total) (on_total (λ l. l.state) nat_cmp_total)) (on_total (λ l. l.mask) nat_cmp_total)

-- an interface has one table
pub one_table : (i : Declared) (one other : List WalkLine) → AreTables i one → AreTables i other → one ≡ other
one_table i one other a b =
    same_lists (λ x y. line_order x y.made y.state y.mask) total_lines one other a.ascending b.ascending (line_in i one other a b) (line_in i other one b a)
