-- A line among lines that ascend, found by halving.
use Rattle.std.proofs.Common.{◌≡◌, ◌⊎◌, ℕ, zero, suc, ◌<◌, ◌≤◌, Bool, true, false, List, [], ◌∷◌, None, Some, length, get_or, refl, sym, ◌∙◌, ap, inl, inr, arith}
use Rattle.std.specs.Prelude.{◌==◌, if◌then◌else◌}
use Rattle.std.specs.declared.cmp.Ordering.{Ordering}
use Rattle.std.specs.declared.cmp.Ordering.TheVariants.{Less, Equal, Greater}
use Rattle.std.specs.Cmp.{nat_cmp_is}
use Rattle.std.specs.List.Sorted.{IsNonDecreasingBy, IsPartitionPoint}
use Rattle.std.specs.Ordering.{nat_cmp, ordering_index, ordering_then}
use Rattle.std.proofs.lemmas.Bool.{cases_lt}
use Rattle.std.proofs.lemmas.Bool.Decides.{eqb_tells}
use Rattle.sg_facts.specs.declared.tables.WalkLine.{WalkLine}
use Rattle.sg_facts.specs.Tables.{walk_of}
use Rattle.sg_facts.specs.Inside.Walking.{IsAscending, is_for, line_order}

-- ---- one number after the other

compared : (x y : ℕ) → ((nat_cmp x y ≡ Less) × (x < y)) ⊎ (((nat_cmp x y ≡ Equal) × (x ≡ y)) ⊎ ((nat_cmp x y ≡ Greater) × (y < x)))
compared x y = elim (cases_lt x y) [
  | inl less ↦ inl (sym (nat_cmp_is x y Less less), less)
  | inr more ↦ elim (eqb_tells x y) [
    | inl same ↦ inr (inl (sym (nat_cmp_is x y Equal same.1), same.1))
    | inr other ↦ let after : y < x = omega (arith, more, other.1) in inr (inr (sym (nat_cmp_is x y Greater after), after))
  ]
]

less_of : (x y : ℕ) → nat_cmp x y ≡ Less → x < y
less_of x y is = elim (compared x y) [
  | inl less ↦ less.1
  | inr rest ↦ elim rest [ inl same ↦ absurd (cc (is, same.0)) | inr more ↦ absurd (cc (is, more.0)) ]
]

equal_of : (x y : ℕ) → nat_cmp x y ≡ Equal → x ≡ y
equal_of x y is = elim (compared x y) [
  | inl less ↦ absurd (cc (is, less.0))
  | inr rest ↦ elim rest [ inl same ↦ same.1 | inr more ↦ absurd (cc (is, more.0)) ]
]

-- ---- three numbers

less_parts : (A B C : Ordering) → ordering_then (ordering_then A B) C ≡ Less → (A ≡ Less) ⊎ (((A ≡ Equal) × (B ≡ Less)) ⊎ ((A ≡ Equal) × (B ≡ Equal) × (C ≡ Less)))
less_parts Less B C is = inl refl
less_parts Equal Less C is = inr (inl (refl, refl))
less_parts Equal Equal C is = inr (inr (refl, refl, is))
less_parts Equal Greater C is = absurd (cc is)
less_parts Greater B C is = absurd (cc is)

equal_parts : (A B C : Ordering) → ordering_then (ordering_then A B) C ≡ Equal → (A ≡ Equal) × (B ≡ Equal) × (C ≡ Equal)
equal_parts Less B C is = absurd (cc is)
equal_parts Equal Less C is = absurd (cc is)
equal_parts Equal Equal C is = (refl, refl, is)
equal_parts Equal Greater C is = absurd (cc is)
equal_parts Greater B C is = absurd (cc is)

-- a line is before, by its first different number
abbrev pub Before : WalkLine → ℕ → ℕ → ℕ → Type 0
Before l m s k = (l.made < m) ⊎ (((l.made ≡ m) × (l.state < s)) ⊎ ((l.made ≡ m) × (l.state ≡ s) × (l.mask < k)))

before_of : (l : WalkLine) (m s k : ℕ) → line_order l m s k ≡ Less → Before l m s k
before_of l m s k is = elim (less_parts (nat_cmp l.made m) (nat_cmp l.state s) (nat_cmp l.mask k) is) [
  | inl first ↦ inl (less_of l.made m first)
  | inr rest ↦ elim rest [
    | inl second ↦ inr (inl (equal_of l.made m second.0, less_of l.state s second.1))
    | inr third ↦ inr (inr (equal_of l.made m third.0, equal_of l.state s third.1, less_of l.mask k third.2))
  ]
]

pub of_before : (l : WalkLine) (m s k : ℕ) → Before l m s k → line_order l m s k ≡ Less
of_before l m s k before = elim before [
  | inl first ↦ ap (λ o. ordering_then (ordering_then o (nat_cmp l.state s)) (nat_cmp l.mask k)) (sym (nat_cmp_is l.made m Less first))
  | inr rest ↦ elim rest [
    | inl second ↦
        ap (λ o. ordering_then (ordering_then o (nat_cmp l.state s)) (nat_cmp l.mask k)) (sym (nat_cmp_is l.made m Equal second.0))
        ∙ ap (λ o. ordering_then o (nat_cmp l.mask k)) (sym (nat_cmp_is l.state s Less second.1))
    | inr third ↦
        ap (λ o. ordering_then (ordering_then o (nat_cmp l.state s)) (nat_cmp l.mask k)) (sym (nat_cmp_is l.made m Equal third.0))
        ∙ ap (λ o. ordering_then o (nat_cmp l.mask k)) (sym (nat_cmp_is l.state s Equal third.1)) ∙ sym (nat_cmp_is l.mask k Less third.2)
  ]
]

same_of : (l : WalkLine) (m s k : ℕ) → line_order l m s k ≡ Equal → (l.made ≡ m) × (l.state ≡ s) × (l.mask ≡ k)
same_of l m s k is =
    let parts = equal_parts (nat_cmp l.made m) (nat_cmp l.state s) (nat_cmp l.mask k) is in
    (equal_of l.made m parts.0, equal_of l.state s parts.1, equal_of l.mask k parts.2)

after_less : (a b : WalkLine) (m s k : ℕ) → Before a b.made b.state b.mask → Before b m s k → Before a m s k
after_less a b m s k first second = elim first [
  | inl f ↦ elim second [
    | inl g ↦ inl (omega (arith, f, g))
    | inr r ↦ elim r [ inl g ↦ inl (omega (arith, f, g.0)) | inr g ↦ inl (omega (arith, f, g.0)) ]
  ]
  | inr q ↦ elim q [
    | inl f ↦ elim second [
      | inl g ↦ inl (omega (arith, f.0, g))
      | inr r ↦ elim r [ inl g ↦ inr (inl (f.0 ∙ g.0, omega (arith, f.1, g.1))) | inr g ↦ inr (inl (f.0 ∙ g.0, omega (arith, f.1, g.1))) ]
    ]
    | inr f ↦ elim second [
      | inl g ↦ inl (omega (arith, f.0, g))
      | inr r ↦ elim r [ inl g ↦ inr (inl (f.0 ∙ g.0, omega (arith, f.1, g.1))) | inr g ↦ inr (inr (f.0 ∙ g.0, f.1 ∙ g.1, omega (arith, f.2, g.2))) ]
    ]
  ]
]

-- a line before another is before whatever that is before, or is at
earlier : (a b : WalkLine) (m s k : ℕ) → line_order a b.made b.state b.mask ≡ Less → line_order b m s k ≡ Less → line_order a m s k ≡ Less
earlier a b m s k first second = of_before a m s k (after_less a b m s k (before_of a b.made b.state b.mask first) (before_of b m s k second))

earlier_at : (a b : WalkLine) (m s k : ℕ) → line_order a b.made b.state b.mask ≡ Less → line_order b m s k ≡ Equal → line_order a m s k ≡ Less
earlier_at a b m s k first at =
    let same = same_of b m s k at in
    ap (λ n. line_order a n s k) (sym same.0) ∙ ap (λ n. line_order a b.made n k) (sym same.1) ∙ ap (λ n. line_order a b.made b.state n) (sym same.2) ∙ first

index_rises : (x y : Ordering) → (y ≡ Less → x ≡ Less) → (y ≡ Equal → x ≡ Less) → ordering_index x ≤ ordering_index y
index_rises Less y less equal = omega arith
index_rises Equal Less less equal = absurd (let no : Equal ≡ Less = less refl in cc no)
index_rises Equal Equal less equal = omega arith
index_rises Equal Greater less equal = omega arith
index_rises Greater Less less equal = absurd (let no : Greater ≡ Less = less refl in cc no)
index_rises Greater Equal less equal = absurd (let no : Greater ≡ Less = equal refl in cc no)
index_rises Greater Greater less equal = omega arith

-- ---- lines

same_number : (a b : ℕ) → a ≡ b → (a == b) ≡ true
same_number a b is = elim (eqb_tells a b) [ inl same ↦ same.0 | inr other ↦ absurd (other.1 is) ]

is_at : (l : WalkLine) (m s k : ℕ) → line_order l m s k ≡ Equal → is_for m s k l ≡ true
is_at l m s k is =
    let same = same_of l m s k is in
    rw (same_number l.made m same.0, same_number l.state s same.1, same_number l.mask k same.2) refl

not_at : (l : WalkLine) (m s k : ℕ) → (line_order l m s k ≡ Equal → ⊥) → is_for m s k l ≡ false
not_at l m s k isn't = elim (eqb_tells l.made m) [
  | inr other ↦ rw (other.0) refl
  | inl first ↦ elim (eqb_tells l.state s) [
    | inr other ↦ rw (first.0, other.0) refl
    | inl second ↦ elim (eqb_tells l.mask k) [
      | inr other ↦ rw (first.0, second.0, other.0) refl
      | inl third ↦ absurd (isn't (
          ap (λ o. ordering_then (ordering_then o (nat_cmp l.state s)) (nat_cmp l.mask k)) (sym (nat_cmp_is l.made m Equal first.1))
          ∙ ap (λ o. ordering_then o (nat_cmp l.mask k)) (sym (nat_cmp_is l.state s Equal second.1)) ∙ sym (nat_cmp_is l.mask k Equal third.1)))
    ]
  ]
]

module _ (m s k : ℕ) where
  pub rises : (lines : List WalkLine) → IsAscending lines → IsNonDecreasingBy (λ l. ordering_index (line_order l m s k)) lines
  rises lines ascending i j d order within = elim (eqb_tells i j) [
    | inl same ↦ let e : ordering_index (line_order (get_or lines i d) m s k) ≡ ordering_index (line_order (get_or lines j d) m s k) = ap (λ n. ordering_index (line_order (get_or lines n d) m s k)) same.1 in omega (arith, e)
    | inr other ↦
        let first = ascending i j d (omega (arith, order, other.1)) within in
        index_rises (line_order (get_or lines i d) m s k) (line_order (get_or lines j d) m s k) (earlier (get_or lines i d) (get_or lines j d) m s k first) (earlier_at (get_or lines i d) (get_or lines j d) m s k first)
  ]

  tail_ascends : (l : WalkLine) (lines : List WalkLine) → IsAscending (l ∷ lines) → IsAscending lines
  tail_ascends l lines ascending i j d less within = ascending (suc i) (suc j) d (omega arith) (omega arith)

  at_head : (b : Bool) (l : WalkLine) (lines : List WalkLine) → is_for m s k l ≡ b → walk_of (l ∷ lines) m s k ≡ (if b then Some l.walk else walk_of lines m s k)
  at_head b l lines is = ap (λ t. if t then Some l.walk else walk_of lines m s k) is

  pub found : (lines : List WalkLine) (n : ℕ) (d : WalkLine) → IsAscending lines → n < length lines → line_order (get_or lines n d) m s k ≡ Equal
      → walk_of lines m s k ≡ Some (get_or lines n d).walk
  found [] n d ascending within at = absurd (omega (arith, within))
  found (l ∷ lines) zero d ascending within at = at_head true l lines (is_at l m s k at)
  found (l ∷ lines) (suc n) d ascending within at =
      let first = ascending zero (suc n) d (omega arith) within in
      let less : line_order l m s k ≡ Less = earlier_at l (get_or lines n d) m s k first at in
      at_head false l lines (not_at l m s k (λ same. cc (less, same))) ∙ found lines n d (tail_ascends l lines ascending) (omega (arith, within)) at

  nowhere : (lines : List WalkLine) → ((n : ℕ) (d : WalkLine) → n < length lines → line_order (get_or lines n d) m s k ≡ Equal → ⊥) → walk_of lines m s k ≡ None
  nowhere [] none = refl
  nowhere (l ∷ lines) none = at_head false l lines (not_at l m s k (none 0 l (omega arith))) ∙ nowhere lines (λ n d within. none (suc n) d (omega (arith, within)))

  pub not_found : (lines : List WalkLine) (n : ℕ) → IsPartitionPoint (λ l. line_order l m s k ≡ Less) (λ l. line_order l m s k ≡ Greater) lines n → walk_of lines m s k ≡ None
  not_found lines n (below, above) = nowhere lines (λ at d within is. elim (cases_lt at n) [
    | inl before ↦ let less = below at d (omega arith) before in cc (less, is)
    | inr after ↦ let more = above at d after within in cc (more, is)
  ])
