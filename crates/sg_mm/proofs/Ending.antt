-- Which pages end with one, and what is left when they go one by one.
use Rattle.std.proofs.Common.{◌≡◌, ℕ, zero, suc, ◌<◌, ◌≤◌, Bool, true, false, cond, not, List, [], ◌∷◌, None, Some, filter, refl, sym, ◌∙◌, ap, inl, inr, arith}
use Rattle.std.specs.Prelude.{◌==◌, ◌&&◌, ◌||◌}
use Rattle.std.specs.List.{list_any}
use Rattle.std.specs.declared.option.Option.{Option}
use Rattle.std.specs.Option.{is_some, option_map}
use Rattle.std.specs.BTreeMap.{BTreeMap, is_at}
use Rattle.std.specs.BTreeSet.{BTreeSet}
use Rattle.std.specs.Ordering.{nat_cmp}
use Rattle.std.proofs.lemmas.Bool.{cases_Bool}
use Rattle.std.proofs.lemmas.Bool.Decides.{nat_tests}
use Rattle.sg_facts.specs.declared.row.Row.{Row}
use Rattle.sg_facts.specs.Track.{ancestors, ends_with, is_live, nearest, row_at}
use Rattle.sg_facts.specs.Inside.Rows.{parent_in}
use Rattle.sg_facts.proofs.RowLists.{live_of_row}
use Rattle.sg_slots.specs.Slots.{AreIds, Held, entry_at, row_with, without}
use Rattle.sg_slots.proofs.Rows.{is_live-rows_of, row_at-rows_of}
use Rattle.sg_facts.proofs.Replaying.Found.{met, same_test}
use Rattle.sg_facts.proofs.Replaying.Steps.{both_true}
use Rattle.sg_facts.proofs.Replaying.Subtrees.{IsAboveParent, ends_by_parent}
use Rattle.sg_mm.specs.declared.child.Child.{Child}
use Rattle.sg_mm.specs.declared.page.Page.{Page}
use Rattle.sg_mm.specs.declared.page.PageKey.{PageKey}
use Rattle.sg_mm.specs.Inside.Children.{IsSubtree, has_id, is_below, is_child}
use Rattle.sg_mm.specs.MmFacts.{mm_facts}
use Rattle.sg_mm.specs.Inside.MmIndex.{AreIndexed}
use Rattle.sg_mm.specs.MmRow.{page_body}
use Rattle.sg_mm.proofs.Indexed.{EndWith, rows}

-- what ends with a live id is live
ends_live : (rs : List Row) (id n : ℕ) → is_live rs id ≡ true → ends_with mm_facts rs id n ≡ true → is_live rs n ≡ true
ends_live rs id n live ends = at (row_at rs n) refl
  where
    alone : (n : ℕ) → row_at rs n ≡ None → ancestors rs n ≡ []
    alone zero none = refl
    alone (suc m) none = ap (λ o. cond (parent_in o == 0) [] (parent_in o ∷ nearest rs m (parent_in o))) none

    its_own : (b : Bool) → (n == id) ≡ b → (b || false) ≡ true → is_live rs n ≡ true
    its_own true is ends = let same : n ≡ id = grind (arith, nat_tests, is) in ap (is_live rs) same ∙ live
    its_own false is ends = absurd (cc ends)

    at : (o : Option Row) → row_at rs n ≡ o → is_live rs n ≡ true
    at (Some r) found = live_of_row rs n r found
    at None none = its_own (n == id) refl (sym (ap (λ l. (n == id) || list_any (λ a. a == id) l) (alone n none)) ∙ ends)

-- ---- a subtree of the index by parent

same_bools : (a b : Bool) → (a ≡ true → b ≡ true) → (b ≡ true → a ≡ true) → a ≡ b
same_bools true b to from = sym (to refl)
same_bools false true to from = from refl
same_bools false false to from = refl

module _ (held : Held Page) (places : BTreeMap PageKey ℕ) (children : BTreeSet Child) (id : ℕ) (ends : BTreeSet ℕ) (are : AreIndexed held places children) (live : is_live (rows held.entries) id ≡ true)
    (subtree : IsSubtree children id ends) where
  abbrev ends_too : ℕ → Bool
  ends_too n = ends_with mm_facts (rows held.entries) id n

  abbrev IsTold : ℕ → Type 0
  IsTold n = has_id ends n ≡ (is_live (rows held.entries) n && ends_too n)

  -- an id that isn't the one is in the set with the parent of its page
  parent_of : (n : ℕ) (o : Option Page) → entry_at held.entries n ≡ o → has_id ends n ≡ true → (n == id) ≡ false → (parent : ℕ) × (has_id ends parent ≡ true) × (is_below o parent ≡ true)
  parent_of n o is has apart =
      let under = subtree.no_other n has apart in
      (under.0, under.1, sym (ap (λ p. is_below p under.0) is) ∙ sym (are.below under.0 n) ∙ under.2)

  -- an id without a page isn't in it
  told_none : (n : ℕ) → entry_at held.entries n ≡ None → IsTold n
  told_none n none = not_there ∙ sym (ap (λ b. b && ends_too n) dead)
    where
      dead : is_live (rows held.entries) n ≡ false
      dead = is_live-rows_of page_body held.entries n ∙ ap is_some none

      not_there : has_id ends n ≡ false
      not_there = elim (cases_Bool (has_id ends n)) [
        | inl has ↦ elim (cases_Bool (n == id)) [
          | inl same ↦
              let one : n ≡ id = grind (arith, nat_tests, same) in
              let clash : false ≡ true = sym dead ∙ ap (is_live (rows held.entries)) one ∙ live in
              absurd (cc clash)
          | inr apart ↦ let under = parent_of n None none has apart in absurd (cc (under.2))
        ]
        | inr hasn't ↦ hasn't
      ]

  module _ (n : ℕ) (page : Page) (there : entry_at held.entries n ≡ Some page) (before : (m : ℕ) → m < n → IsTold m) where
    abbrev row : Row
    row = row_with n (page_body page)

    found : row_at (rows held.entries) n ≡ Some row
    found = row_at-rows_of page_body held.entries n ∙ ap (option_map (λ e. row_with n (page_body e))) there

    by_parent : ends_too n ≡ ((n == id) || (not (page.parent == 0) && ends_too page.parent))
    by_parent = ends_by_parent mm_facts refl held.given (rows held.entries) id row are.rows found

    -- it is told right where that is the answer
    answer : (b : Bool) → has_id ends n ≡ b → ((n == id) || (not (page.parent == 0) && ends_too page.parent)) ≡ b → IsTold n
    answer b has ends = has ∙ sym (ap (λ l. l && ends_too n) (live_of_row (rows held.entries) n row found) ∙ by_parent ∙ ends)

    -- a page without a parent
    told_root : (n == id) ≡ false → (page.parent == 0) ≡ true → IsTold n
    told_root apart none = answer false not_there (ap (λ b. b || (not (page.parent == 0) && ends_too page.parent)) apart ∙ ap (λ b. not b && ends_too page.parent) none)
      where
        not_there : has_id ends n ≡ false
        not_there = elim (cases_Bool (has_id ends n)) [
          | inl has ↦
              let under = parent_of n (Some page) there has apart in
              let two = both_true (not (under.0 == 0)) (page.parent == under.0) under.2 in
              let some = two.0 in
              let same = two.1 in
              absurd (grind (arith, nat_tests, none, some, same))
          | inr hasn't ↦ hasn't
        ]

    -- a page below another
    told_below : (n == id) ≡ false → (page.parent == 0) ≡ false → IsTold n
    told_below apart some =
        answer (ends_too page.parent) (same_bools (has_id ends n) (has_id ends page.parent) up down ∙ before page.parent lower ∙ above_live (is_live (rows held.entries) page.parent) (ends_too page.parent) (ends_live (rows held.entries) id page.parent live))
        (ap (λ b. b || (not (page.parent == 0) && ends_too page.parent)) apart ∙ ap (λ b. not b && ends_too page.parent) some)
      where
        lower : page.parent < n
        lower = met IsAboveParent 0 held.given n (rows held.entries) row are.rows found

        above_live : (x y : Bool) → (y ≡ true → x ≡ true) → (x && y) ≡ y
        above_live true y so = refl
        above_live false true so = so refl
        above_live false false so = refl

        up : has_id ends n ≡ true → has_id ends page.parent ≡ true
        up has =
            let under = parent_of n (Some page) there has apart in
            let two = both_true (not (under.0 == 0)) (page.parent == under.0) under.2 in
            let same = two.1 in
            let one : under.0 ≡ page.parent = grind (arith, nat_tests, same) in
            ap (has_id ends) (sym one) ∙ under.1

        hangs : is_child children page.parent n ≡ true
        hangs = are.below page.parent n ∙ ap (λ o. is_below o page.parent) there ∙ ap (λ b. not b && (page.parent == page.parent)) some ∙ same_test page.parent page.parent refl

        down : has_id ends page.parent ≡ true → has_id ends n ≡ true
        down has = subtree.has_children page.parent n has hangs

    told_page : IsTold n
    told_page = elim (cases_Bool (n == id)) [
      | inl same ↦
          let one : n ≡ id = grind (arith, nat_tests, same) in
          answer true (ap (has_id ends) one ∙ subtree.has_root) (ap (λ b. b || (not (page.parent == 0) && ends_too page.parent)) same)
      | inr apart ↦ elim (cases_Bool (page.parent == 0)) [ inl none ↦ told_root apart none | inr some ↦ told_below apart some ]
    ]

  told_step : (n : ℕ) → ((m : ℕ) → m < n → IsTold m) → IsTold n
  told_step n before = at (entry_at held.entries n) refl
    where
      at : (o : Option Page) → entry_at held.entries n ≡ o → IsTold n
      at None none = told_none n none
      at (Some page) there = told_page n page there before

  told_to : (most n : ℕ) → n < most → IsTold n
  told_to zero n lower = absurd (omega (arith, lower))
  told_to (suc most) n lower = told_step n (λ m less. told_to most m (omega (arith, lower, less)))

  -- the subtree of a page has just the pages that end with it
  pub subtree_ends : EndWith held.entries id ends
  subtree_ends n = told_to (suc n) n (omega arith)

-- ---- ids that go one by one

-- whether an id is among those that are still to go
abbrev pub is_left : List ℕ → ℕ → Bool
is_left ids n = list_any (is_at (nat_cmp n)) ids

-- an id below all that are there is none of them
not_there : (low high id : ℕ) (ids : List ℕ) (es : List (ℕ × Page)) → AreIds low high es → id ≤ low → filter (λ e. not (is_left ids e.0)) es ≡ filter (λ e. not (is_left (id ∷ ids) e.0)) es
not_there low high id ids [] are below = refl
not_there low high id ids (e ∷ es) are below =
    let other : is_at (nat_cmp e.0) id ≡ false = grind (arith, nat_tests, are.0, below) in
    ap (λ l. cond (not (is_left ids e.0)) (e ∷ l) l) (not_there e.0 high id ids es are.2 (omega (arith, are.0, below)))
    ∙ ap (λ b. cond (not (b || is_left ids e.0)) (e ∷ filter (λ x. not (is_left (id ∷ ids) x.0)) es) (filter (λ x. not (is_left (id ∷ ids) x.0)) es)) (sym other)

-- the pages that are left when one goes and then the others
pub pages_left : (low high id : ℕ) (ids : List ℕ) (es : List (ℕ × Page)) → AreIds low high es → filter (λ e. not (is_left ids e.0)) (without es id) ≡ filter (λ e. not (is_left (id ∷ ids) e.0)) es
pages_left low high id ids [] are = refl
pages_left low high id ids (e ∷ es) are = at (id == e.0) refl (pages_left e.0 high id ids es are.2)
  where
    kept : List (ℕ × Page)
    kept = filter (λ x. not (is_left (id ∷ ids) x.0)) es

    at : (b : Bool) → (id == e.0) ≡ b → filter (λ x. not (is_left ids x.0)) (without es id) ≡ kept
        → filter (λ x. not (is_left ids x.0)) (cond b es (e ∷ without es id)) ≡ cond (not (is_at (nat_cmp e.0) id || is_left ids e.0)) (e ∷ kept) kept
    at true is rest =
        let same : is_at (nat_cmp e.0) id ≡ true = grind (arith, nat_tests, is) in
        let below : id ≤ e.0 = grind (arith, nat_tests, is) in
        not_there e.0 high id ids es are.2 below ∙ ap (λ b. cond (not (b || is_left ids e.0)) (e ∷ kept) kept) (sym same)
    at false is rest =
        let other : is_at (nat_cmp e.0) id ≡ false = grind (arith, nat_tests, is) in
        ap (λ l. cond (not (is_left ids e.0)) (e ∷ l) l) rest ∙ ap (λ b. cond (not (b || is_left ids e.0)) (e ∷ kept) kept) (sym other)

-- where none is to go, all stay
pub pages_stay : (es : List (ℕ × Page)) → filter (λ e. not (is_left [] e.0)) es ≡ es
pages_stay [] = refl
pages_stay (e ∷ es) = ap (λ l. e ∷ l) (pages_stay es)
