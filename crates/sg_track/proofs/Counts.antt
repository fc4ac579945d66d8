-- Counts of children beside kept rows.
use Rattle.std.proofs.Common.{◌≡◌, ℕ, zero, suc, ◌+◌, ◌-◌, ◌<◌, ◌≤◌, Bool, true, false, cond, not, ◌&&◌, ◌||◌, List, [], ◌∷◌, ◌++◌, None, Some, length, map, filter, get_or, refl, sym, ◌∙◌, ap, inl, inr, arith, zero-add}
use Rattle.std.specs.Prelude.{◌==◌, nat_lt, if◌then◌else◌}
use Rattle.std.proofs.Math.ListN.{set}
use Rattle.std.proofs.lemmas.Bool.{cases_lt}
use Rattle.std.proofs.lemmas.Bool.Decides.{eqb_tells, nat_tests}
use Rattle.sg_facts.specs.declared.row.Row.{Row}
use Rattle.sg_facts.specs.Sound.{AreRows}
use Rattle.sg_facts.specs.Track.{is_ancestor, row_at}
use Rattle.sg_facts.specs.Inside.Rows.{has_child, parent_in}
use Rattle.sg_facts.proofs.RowLists.{id_of_row, other as each_other}
use Rattle.sg_track.specs.declared.kept.Kept.{Kept}
use Rattle.sg_facts.specs.sg_base.Lists.{Each}
use Rattle.sg_track.specs.Kept.{Counts, HasRow, children_of, count_rows, ends_below, less_at, more_at, others_of, rows_of}
use Rattle.sg_track.specs.Tracked.{HasLowerParent}
use Rattle.sg_track.proofs.Above.{ends_child}
use Rattle.sg_track.proofs.Ascending.{above, other_test, same_test}
use Rattle.sg_track.proofs.KeptLists.{row_read}

abbrev pub as_number : Bool → ℕ
as_number true = 1
as_number false = 0

number_is : (b : Bool) → (if b then 1 else 0) ≡ as_number b
number_is true = refl
number_is false = refl

-- ---- one count is set

-- counts are as is told of each id that is there
pub counts_as : (P : Row → Type 0) (low high : ℕ) (number told : ℕ → ℕ) (kept : List Kept) → AreRows P low high (rows_of kept)
    → ((id : ℕ) → low < id → number id ≡ told id) → Counts number kept → Counts told kept
counts_as P low high number told [] are same counts = tt
counts_as P low high number told (k ∷ kept) are same counts =
    (counts.0 ∙ same k.row.id are.0, counts_as P k.row.id high number told kept are.3 (λ id more. same id (omega (arith, more, are.0))) counts.1)

-- the count at a place is set
pub counts_set : (P : Row → Type 0) (low high : ℕ) (number told : ℕ → ℕ) (id : ℕ) (kept : List Kept) (n : ℕ) (new d : Kept) → AreRows P low high (rows_of kept) → n < length kept
    → (get_or kept n d).row.id ≡ id → new.row.id ≡ id → new.children ≡ told id → ((other : ℕ) → (other ≡ id → ⊥) → number other ≡ told other)
    → Counts number kept → Counts told (set kept n new)
counts_set P low high number told id [] n new d are within is new-is count same counts = absurd (omega arith)
counts_set P low high number told id (k ∷ kept) zero new d are within is new-is count same counts =
    (count ∙ ap told (sym new-is), counts_as P k.row.id high number told kept are.3 (λ other more. same other (λ one. absurd (omega (arith, more, one, is)))) counts.1)
counts_set P low high number told id (k ∷ kept) (suc n) new d are within is new-is count same counts =
    let after : k.row.id < (get_or kept n d).row.id = above P k.row.id high kept n d are.3 (omega arith) in
    (counts.0 ∙ same k.row.id (λ one. absurd (omega (arith, after, is, one))), counts_set P k.row.id high number told id kept n new d are.3 (omega arith) is new-is count same counts.1)

-- no row has the id
pub counts_elsewhere : (number told : ℕ → ℕ) (id : ℕ) (kept : List Kept) → row_at (rows_of kept) id ≡ None → ((other : ℕ) → (other ≡ id → ⊥) → number other ≡ told other)
    → Counts number kept → Counts told kept
counts_elsewhere number told id [] none same counts = tt
counts_elsewhere number told id (k ∷ kept) none same counts = at (k.row.id == id) refl none (λ rest. counts_elsewhere number told id kept rest same counts.1)
  where
    at : (b : Bool) → (k.row.id == id) ≡ b → cond b (Some k.row) (row_at (rows_of kept) id) ≡ None
        → (row_at (rows_of kept) id ≡ None → Counts told kept) → Counts told (k ∷ kept)
    at true is none rest = absurd (cc none)
    at false is none rest =
        (counts.0 ∙ same k.row.id (λ one. let test = same_test k.row.id id one in cc (is, test)), rest none)

-- the count at a place
pub count_read : (number : ℕ → ℕ) (kept : List Kept) (n : ℕ) (d : Kept) → n < length kept → Counts number kept → (get_or kept n d).children ≡ number (get_or kept n d).row.id
count_read number [] n d within counts = absurd (omega arith)
count_read number (k ∷ kept) zero d within counts = counts.0
count_read number (k ∷ kept) (suc n) d within counts = count_read number kept n d (omega arith) counts.1

module _ (number : ℕ → ℕ) (one : ℕ) where
  pub more_here : more_at one number one ≡ number one + 1
  more_here = ap (λ b. cond b (number one + 1) (number one)) (same_test one one refl)

  pub more_other : (other : ℕ) → (other ≡ one → ⊥) → number other ≡ more_at one number other
  more_other other apart = ap (λ b. cond b (number other + 1) (number other)) (sym (other_test other one apart))

  pub less_here : less_at one number one ≡ number one - 1
  less_here = ap (λ b. cond b (number one - 1) (number one)) (same_test one one refl)

  pub less_other : (other : ℕ) → (other ≡ one → ⊥) → number other ≡ less_at one number other
  less_other other apart = ap (λ b. cond b (number other - 1) (number other)) (sym (other_test other one apart))

-- the count of the row of an id is set to what is told
pub counts_at : (high : ℕ) (number told : ℕ → ℕ) (kept : List Kept) (n id count : ℕ) (ends : Bool) (k : Kept) → AreRows HasLowerParent 0 high (rows_of kept) → HasRow kept n id → k ≡ get_or kept n k
    → (k.children ≡ number id → count ≡ told id) → ((other : ℕ) → (other ≡ id → ⊥) → number other ≡ told other)
    → Counts number kept → Counts told (set kept n (record { row = k.row; children = count; ends = ends }))
counts_at high number told kept n id count ends k are has is count_is same counts =
    let its = id_of_row (rows_of kept) id k.row (row_read kept n id k k has is) in
    let old = ap (λ x. x.children) is ∙ count_read number kept n k has.within counts ∙ ap (λ x. number x.row.id) (sym is) ∙ ap number its in
    counts_set HasLowerParent 0 high number told id kept n (record { row = k.row; children = count; ends = ends }) k are has.within (ap (λ x. x.row.id) (sym is) ∙ its) its (count_is old) same counts

-- ---- a row comes

count_few : (test : Row → Bool) (rows : List Row) → count_rows test rows ≤ length rows
count_few test [] = omega arith
count_few test (r ∷ rows) = at (test r) (count_few test rows)
  where
    at : (b : Bool) → count_rows test rows ≤ length rows → cond b 1 0 + count_rows test rows ≤ length (r ∷ rows)
    at true rest = omega (arith, rest)
    at false rest = omega (arith, rest)

count_more : (test : Row → Bool) (rows : List Row) (new : Row) → count_rows test (rows ++ new ∷ []) ≡ count_rows test rows + cond (test new) 1 0
count_more test [] new = omega arith
count_more test (r ∷ rows) new = ap (λ n. cond (test r) 1 0 + n) (count_more test rows new) ∙ omega arith

-- whether there are children
pub has-children : (rows : List Row) (id : ℕ) → nat_lt 0 (children_of rows id) ≡ has_child rows id
has-children [] id = refl
has-children (r ∷ rows) id = at (r.parent == id) (has-children rows id)
  where
    at : (b : Bool) → nat_lt 0 (children_of rows id) ≡ has_child rows id → nat_lt 0 (cond b 1 0 + children_of rows id) ≡ (b || has_child rows id)
    at true rest = grind (arith, nat_tests)
    at false rest = ap (nat_lt 0) (zero-add (children_of rows id)) ∙ rest

few_rows : (P : Row → Type 0) (low high : ℕ) (rows : List Row) → low ≤ high → AreRows P low high rows → length rows + low ≤ high
few_rows P low high [] le are = omega arith
few_rows P low high (r ∷ rows) le are = omega (arith, few_rows P r.id high rows are.1 are.3, are.0)

-- children are above their parent
few_above : (low high id : ℕ) (rows : List Row) → low ≤ high → id ≤ high → AreRows HasLowerParent low high rows → children_of rows id + id ≤ high
few_above low high id [] le within are = omega (arith, within)
few_above low high id (r ∷ rows) le within are = elim (cases_lt id r.id) [
  | inl more ↦ omega (arith, more, are.0, count_few (λ x. x.parent == id) (r ∷ rows), few_rows HasLowerParent r.id high rows are.1 are.3)
  | inr less ↦
      let apart = other_test r.parent id (λ is. absurd (omega (arith, is, are.2, less))) in
      let none : (if r.parent == id then 1 else 0) ≡ 0 = number_is (r.parent == id) ∙ ap as_number apart in
      omega (arith, none, few_above r.id high id rows are.1 within are.3)
]

-- there are fewer children than ids
pub few_children : (high : ℕ) (kept : List Kept) → AreRows HasLowerParent 0 high (rows_of kept) → Counts (children_of (rows_of kept)) kept → Each (λ k. k.children < high) kept
few_children high kept are counts = all 0 kept are counts
  where
    all : (low : ℕ) (some : List Kept) → AreRows HasLowerParent low high (rows_of some) → Counts (children_of (rows_of kept)) some → Each (λ k. k.children < high) some
    all low [] those counts = tt
    all low (k ∷ some) those counts =
        (omega (arith, counts.0, those.0, few_above 0 high k.row.id (rows_of kept) (omega arith) those.1 are), all k.row.id some those.3 counts.1)

-- each meets another condition
pub each_as : (P Q : Kept → Type 0) (kept : List Kept) → ((k : Kept) → P k → Q k) → Each P kept → Each Q kept
each_as P Q [] turn each = tt
each_as P Q (k ∷ kept) turn each = (turn k each.0, each_as P Q kept turn each.1)

pub each_more : (P : Kept → Type 0) (kept : List Kept) (new : Kept) → Each P kept → P new → Each P (kept ++ new ∷ [])
each_more P [] new each meets = (meets, tt)
each_more P (k ∷ kept) new each meets = (each.0, each_more P kept new each.1 meets)

-- the new row is counted with its parent
pub children-more : (rows : List Row) (new : Row) (id : ℕ) → children_of (rows ++ new ∷ []) id ≡ more_at new.parent (children_of rows) id
children-more rows new id =
    count_more (λ r. r.parent == id) rows new
    ∙ elim (eqb_tells id new.parent) [
      | inl same ↦
          ap (λ b. children_of rows id + cond b 1 0) (same_test new.parent id (sym same.1)) ∙ omega arith
          ∙ ap (λ b. cond b (children_of rows id + 1) (children_of rows id)) (sym same.0)
      | inr apart ↦
          ap (λ b. children_of rows id + cond b 1 0) (other_test new.parent id (λ is. apart.1 (sym is))) ∙ omega arith
          ∙ ap (λ b. cond b (children_of rows id + 1) (children_of rows id)) (sym apart.0)
    ]

-- a new row has no children
pub no_children : (low high id : ℕ) (rows : List Row) → AreRows HasLowerParent low high rows → high < id → children_of rows id ≡ 0
no_children low high id [] are new = refl
no_children low high id (r ∷ rows) are new =
    let apart = other_test r.parent id (λ is. absurd (omega (arith, is, are.1, are.2, new))) in
    ap (λ b. cond b 1 0 + children_of rows id) apart ∙ omega (arith, no_children r.id high id rows are.3 new)

-- ---- a row is changed

pub children-changed : (change : Row → Row) (of : ℕ) → ((r : Row) → (change r).parent ≡ r.parent) → (rows : List Row) (id : ℕ)
    → children_of (map (λ r. if r.id == of then change r else r) rows) id ≡ children_of rows id
children-changed change of same [] id = refl
children-changed change of same (r ∷ rows) id =
    ap (λ p. cond (p == id) 1 0 + children_of (map (λ x. if x.id == of then change x else x) rows) id) (either_parent (r.id == of))
    ∙ ap (λ n. cond (r.parent == id) 1 0 + n) (children-changed change of same rows id)
  where
    either_parent : (b : Bool) → (cond b (change r) r).parent ≡ r.parent
    either_parent true = same r
    either_parent false = refl

-- ---- rows go

-- no row has the id
others_none : (gone : ℕ) (rows : List Row) (id : ℕ) → row_at rows gone ≡ None → others_of gone rows id ≡ children_of rows id
others_none gone [] id none = refl
others_none gone (r ∷ rows) id none = at (r.id == gone) none (others_none gone rows id)
  where
    both : (p : Bool) → (p && true) ≡ p
    both true = refl
    both false = refl

    at : (b : Bool) → cond b (Some r) (row_at rows gone) ≡ None → (row_at rows gone ≡ None → others_of gone rows id ≡ children_of rows id)
        → cond ((r.parent == id) && not b) 1 0 + others_of gone rows id ≡ cond (r.parent == id) 1 0 + children_of rows id
    at true none rest = absurd (cc none)
    at false none rest = ap (λ p. cond p 1 0 + others_of gone rows id) (both (r.parent == id)) ∙ ap (λ n. cond (r.parent == id) 1 0 + n) (rest none)

none_above : (P : Row → Type 0) (low high id : ℕ) (rows : List Row) → id ≤ low → AreRows P low high rows → row_at rows id ≡ None
none_above P low high id [] le are = refl
none_above P low high id (r ∷ rows) le are =
    ap (λ b. cond b (Some r) (row_at rows id)) (other_test r.id id (λ is. absurd (omega (arith, is, le, are.0))))
    ∙ none_above P r.id high id rows (omega (arith, le, are.0)) are.3

gone_number : (q : Bool) → as_number (q && not true) ≡ 0
gone_number true = refl
gone_number false = refl

left_number : (q : Bool) → as_number (q && not false) ≡ as_number q
left_number true = refl
left_number false = refl

-- the row of the id is counted with its parent
others_some : (P : Row → Type 0) (low high gone : ℕ) (rows : List Row) (it : Row) (id : ℕ) → AreRows P low high rows → row_at rows gone ≡ Some it
    → children_of rows id ≡ others_of gone rows id + as_number (it.parent == id)
others_some P low high gone [] it id are there = absurd (cc there)
others_some P low high gone (r ∷ rows) it id are there = elim (eqb_tells r.id gone) [
  | inl same ↦
      let found : Some r ≡ Some it = sym (ap (λ b. cond b (Some r) (row_at rows gone)) same.0) ∙ there in
      let one : r ≡ it = cc found in
      let rest = others_none gone rows id (none_above P r.id high gone rows (omega (arith, same.1)) are.3) in
      let head = ap (λ b. as_number ((r.parent == id) && not b)) same.0 ∙ gone_number (r.parent == id) in
      let tests : as_number (r.parent == id) ≡ as_number (it.parent == id) = ap (λ x. as_number (x.parent == id)) one in
      omega (arith, rest, head, tests, number_is (r.parent == id), number_is ((r.parent == id) && not (r.id == gone)))
  | inr apart ↦
      let further : row_at rows gone ≡ Some it = sym (ap (λ b. cond b (Some r) (row_at rows gone)) apart.0) ∙ there in
      let rest = others_some P r.id high gone rows it id are.3 further in
      let head = ap (λ b. as_number ((r.parent == id) && not b)) apart.0 ∙ left_number (r.parent == id) in
      omega (arith, rest, head, number_is (r.parent == id), number_is ((r.parent == id) && not (r.id == gone)))
]

-- the row of an id is taken out of its parent's count
pub others_are : (high gone : ℕ) (rows : List Row) (id : ℕ) → AreRows HasLowerParent 0 high rows → 0 < id
    → less_at (parent_in (row_at rows gone)) (children_of rows) id ≡ others_of gone rows id
others_are high gone rows id are some = elim (row_at rows gone) as (λ o. row_at rows gone ≡ o → less_at (parent_in o) (children_of rows) id ≡ others_of gone rows id) [
  | None ↦ λ none. sym (less_other (children_of rows) 0 id (λ is. absurd (omega (arith, is, some)))) ∙ sym (others_none gone rows id none)
  | Some it ↦ λ there.
      let counted = others_some HasLowerParent 0 high gone rows it id are there in
      elim (eqb_tells id it.parent) [
        | inl same ↦
            let test = ap as_number (same_test it.parent id (sym same.1)) in
            ap (λ b. cond b (children_of rows id - 1) (children_of rows id)) same.0 ∙ omega (arith, counted, test)
        | inr apart ↦
            let test = ap as_number (other_test it.parent id (λ is. apart.1 (sym is))) in
            ap (λ b. cond b (children_of rows id - 1) (children_of rows id)) apart.0 ∙ omega (arith, counted, test)
      ]
] refl

-- what is set beside a row leaves the rows
pub rows_same : (kept : List Kept) (n : ℕ) (new d : Kept) → new.row ≡ (get_or kept n d).row → rows_of (set kept n new) ≡ rows_of kept
rows_same [] n new d same = refl
rows_same (k ∷ kept) zero new d same = ap (λ r. r ∷ rows_of kept) same
rows_same (k ∷ kept) (suc n) new d same = ap (λ rows. k.row ∷ rows) (rows_same kept n new d same)

-- what is set beside a row leaves the counts
pub counts_beside : (number : ℕ → ℕ) (kept : List Kept) (n : ℕ) (new d : Kept) → new.row.id ≡ (get_or kept n d).row.id → new.children ≡ (get_or kept n d).children
    → Counts number kept → Counts number (set kept n new)
counts_beside number [] n new d same count counts = tt
counts_beside number (k ∷ kept) zero new d same count counts = (count ∙ counts.0 ∙ ap number (sym same), counts.1)
counts_beside number (k ∷ kept) (suc n) new d same count counts = (counts.0, counts_beside number kept n new d same count counts.1)

-- ---- what is left is counted

-- what goes is in no count
count_left : (test other keep : Row → Bool) (low high : ℕ) (rows : List Row)
    → AreRows (λ r. (keep r ≡ true → other r ≡ test r) × (keep r ≡ false → other r ≡ false)) low high rows → count_rows other rows ≡ count_rows test (filter keep rows)
count_left test other keep low high [] are = refl
count_left test other keep low high (r ∷ rows) are = at (keep r) refl (count_left test other keep r.id high rows are.3)
  where
    at : (b : Bool) → keep r ≡ b → count_rows other rows ≡ count_rows test (filter keep rows)
        → cond (other r) 1 0 + count_rows other rows ≡ count_rows test (cond b (r ∷ filter keep rows) (filter keep rows))
    at true is rest = ap (λ t. cond t 1 0 + count_rows other rows) (are.2.0 is) ∙ ap (λ n. cond (test r) 1 0 + n) rest
    at false is rest = ap (λ t. cond t 1 0 + count_rows other rows) (are.2.1 is) ∙ zero-add (count_rows other rows) ∙ rest

-- each row is the one of its id
lift : (r : Row) (whole : List Row) (low high : ℕ) (rows : List Row) → r.id ≤ low → AreRows (λ x. row_at whole x.id ≡ Some x) low high rows
    → AreRows (λ x. row_at (r ∷ whole) x.id ≡ Some x) low high rows
lift r whole low high [] le are = tt
lift r whole low high (x ∷ rows) le are = (
  are.0,
  are.1,
  ap (λ b. cond b (Some r) (row_at whole x.id)) (other_test r.id x.id (λ is. absurd (omega (arith, is, le, are.0)))) ∙ are.2,
  lift r whole x.id high rows (omega (arith, le, are.0)) are.3,
)

pub each_there : (P : Row → Type 0) (low high : ℕ) (rows : List Row) → AreRows P low high rows → AreRows (λ r. row_at rows r.id ≡ Some r) low high rows
each_there P low high [] are = tt
each_there P low high (r ∷ rows) are = (
  are.0,
  are.1,
  ap (λ b. cond b (Some r) (row_at rows r.id)) (same_test r.id r.id refl),
  lift r rows r.id high rows (omega arith) (each_there P r.id high rows are.3),
)

-- a test and another that is known to fail
and_false : (b : Bool) → (b && false) ≡ false
and_false true = refl
and_false false = refl

and_true : (b : Bool) → (b && true) ≡ b
and_true true = refl
and_true false = refl

-- a child of a row that stays goes only as the one that ends
child_goes : (high id other : ℕ) (rows : List Row) → AreRows HasLowerParent 0 high rows → 0 < other → ends_below rows id other ≡ false → (r : Row) → row_at rows r.id ≡ Some r
    → (not (ends_below rows id r.id) ≡ true → ((r.parent == other) && not (r.id == id)) ≡ (r.parent == other))
    × (not (ends_below rows id r.id) ≡ false → ((r.parent == other) && not (r.id == id)) ≡ false)
child_goes high id other rows are some stays r there = elim (eqb_tells r.id id) [
  | inl same ↦ (
    λ keeps.
        let gone : not true ≡ true = ap (λ b. not (b || is_ancestor rows id r.id)) (sym same.0) ∙ keeps in
        cc gone,
    λ goes. ap (λ b. (r.parent == other) && not b) same.0 ∙ and_false (r.parent == other),
  )
  | inr apart ↦ (
    λ keeps. ap (λ b. (r.parent == other) && not b) apart.0 ∙ and_true (r.parent == other),
    λ goes. elim (eqb_tells r.parent other) [
      | inl child ↦
          let up = ends_child 0 high rows are id r there apart.0 (other_test r.parent 0 (λ none. absurd (omega (arith, none, child.1, some)))) in
          let ends : ends_below rows id r.id ≡ false = up ∙ ap (ends_below rows id) child.1 ∙ stays in
          let wrong : not false ≡ false = ap not (sym ends) ∙ goes in
          cc wrong
      | inr distant ↦ ap (λ b. b && not (r.id == id)) distant.0
    ],
  )
]

-- the children of a row that stays when an id ends with all below it
pub children-left : (high id other : ℕ) (rows : List Row) → AreRows HasLowerParent 0 high rows → 0 < other → ends_below rows id other ≡ false
    → others_of id rows other ≡ children_of (filter (λ r. not (ends_below rows id r.id)) rows) other
children-left high id other rows are some stays =
    count_left (λ r. r.parent == other) (λ r. (r.parent == other) && not (r.id == id)) (λ r. not (ends_below rows id r.id)) 0 high rows
    (each_other (λ r. row_at rows r.id ≡ Some r) _ (child_goes high id other rows are some stays) 0 high rows (each_there HasLowerParent 0 high rows are))

-- when one row ends
one_goes : (id other : ℕ) (test : Row → Bool) (r : Row)
    → (not ((r.id == id) || (false && test r)) ≡ true → ((r.parent == other) && not (r.id == id)) ≡ (r.parent == other))
    × (not ((r.id == id) || (false && test r)) ≡ false → ((r.parent == other) && not (r.id == id)) ≡ false)
one_goes id other test r = at (r.id == id)
  where
    at : (b : Bool) → (not (b || false) ≡ true → ((r.parent == other) && not b) ≡ (r.parent == other)) × (not (b || false) ≡ false → ((r.parent == other) && not b) ≡ false)
    at true = (λ keeps. cc keeps, λ goes. and_false (r.parent == other))
    at false = (λ keeps. and_true (r.parent == other), λ goes. cc goes)

pub children-removed : (high id other : ℕ) (test : Row → Bool) (rows : List Row) → AreRows HasLowerParent 0 high rows
    → others_of id rows other ≡ children_of (filter (λ x. not ((x.id == id) || (false && test x))) rows) other
children-removed high id other test rows are =
    count_left (λ r. r.parent == other) (λ r. (r.parent == other) && not (r.id == id)) (λ r. not ((r.id == id) || (false && test r))) 0 high rows
    (each_other HasLowerParent _ (λ r lower. one_goes id other test r) 0 high rows are)

-- the counts of those that stay
pub counts_left : (mark : Kept → Bool) (number told : ℕ → ℕ) (test : ℕ → Bool) (low high : ℕ) (kept : List Kept) → AreRows HasLowerParent low high (rows_of kept)
    → Each (λ k. mark k ≡ test k.row.id) kept → ((id : ℕ) → low < id → test id ≡ false → number id ≡ told id) → Counts number kept → Counts told (filter (λ k. not (mark k)) kept)
counts_left mark number told test low high [] are ends same counts = tt
counts_left mark number told test low high (k ∷ kept) are ends same counts =
    at (mark k) (sym ends.0) (counts_left mark number told test k.row.id high kept are.3 ends.1 (λ id more. same id (omega (arith, more, are.0))) counts.1)
  where
    at : (b : Bool) → test k.row.id ≡ b → Counts told (filter (λ x. not (mark x)) kept) → Counts told (cond (not b) (k ∷ filter (λ x. not (mark x)) kept) (filter (λ x. not (mark x)) kept))
    at true is rest = rest
    at false is rest = (counts.0 ∙ same k.row.id are.0 is, rest)
