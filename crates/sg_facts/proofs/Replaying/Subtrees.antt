-- The end of a row with all below it: a row ends with its parent, and what is left is sound.
use Rattle.std.proofs.Common.{◌≡◌, ℕ, zero, suc, ◌<◌, ◌≤◌, Bool, true, false, cond, not, List, [], ◌∷◌, None, Some, filter, refl, sym, ◌∙◌, ap, inl, inr, arith}
use Rattle.std.specs.Prelude.{◌==◌, ◌||◌, ◌&&◌, nat_lt}
use Rattle.std.specs.List.{list_any}
use Rattle.std.specs.declared.option.Option.{Option}
use Rattle.std.proofs.lemmas.Bool.Decides.{eqb_tells}
use Rattle.sg_facts.specs.declared.row.Row.{Row}
use Rattle.sg_facts.specs.Facts.{Facts}
use Rattle.sg_facts.specs.Object.{Object}
use Rattle.sg_facts.specs.Sound.{AreRows, IsRow, IsSound}
use Rattle.sg_facts.specs.Track.{ancestors, ends_with, is_ancestor, is_live, nearest, row_at}
use Rattle.sg_facts.specs.Inside.Rows.{parent_in}
use Rattle.sg_facts.proofs.RowLists.{id_of_row, is_live-left, left}
use Rattle.sg_facts.proofs.Replaying.Found.{above, all_found, from_left, met}
use Rattle.sg_facts.proofs.Replaying.Above.{one_above}
use Rattle.sg_facts.proofs.Replaying.Creating.{below_it}

-- a row is above its parent
abbrev pub IsAboveParent : Row → Type 0
IsAboveParent r = r.parent < r.id

-- the parent of an id, where it has one, is below it
abbrev ParentBelow : ℕ → ℕ → Type 0
ParentBelow parent id = (parent == 0) ≡ false → parent < id

module _ (high : ℕ) (rows : List Row) (are : AreRows IsAboveParent 0 high rows) where
  parent_below : (id : ℕ) → ParentBelow (parent_in (row_at rows id)) id
  parent_below id = at (row_at rows id) refl
    where
      at : (o : Option Row) → row_at rows id ≡ o → ParentBelow (parent_in o) id
      at None is some = absurd (cc some)
      at (Some r) is some =
          let own : r.parent < r.id = met IsAboveParent 0 high id rows r are is in
          let same = id_of_row rows id r is in
          omega (arith, own, same)

  -- one step more leads no further
  one_more : (most id : ℕ) → id ≤ most → nearest rows (suc most) id ≡ nearest rows most id
  one_more zero id few = at (parent_in (row_at rows id) == 0) refl
    where
      at : (b : Bool) → (parent_in (row_at rows id) == 0) ≡ b → cond b [] (parent_in (row_at rows id) ∷ []) ≡ []
      at true is = refl
      at false is = let lower = parent_below id is in absurd (omega (arith, lower, few))
  one_more (suc most) id few = at (parent_in (row_at rows id) == 0) refl (λ lower. one_more most (parent_in (row_at rows id)) (omega (arith, lower, few)))
    where
      parent : ℕ
      parent = parent_in (row_at rows id)

      at : (b : Bool) → (parent == 0) ≡ b → (parent < id → nearest rows (suc most) parent ≡ nearest rows most parent)
          → cond b [] (parent ∷ nearest rows (suc most) parent) ≡ cond b [] (parent ∷ nearest rows most parent)
      at true is rest = refl
      at false is rest = ap (λ l. parent ∷ l) (rest (parent_below id is))

  -- so many steps as the id are enough
  enough : (most id : ℕ) → id ≤ most → nearest rows most id ≡ ancestors rows id
  enough zero id few = let none : 0 ≡ id = omega (arith, few) in ap (λ k. nearest rows k id) none
  enough (suc most) id few = elim (eqb_tells (suc most) id) [
    | inl same ↦ ap (λ k. nearest rows k id) same.1
    | inr apart ↦ let less : id ≤ most = omega (arith, few, apart.1) in one_more most id less ∙ enough most id less
  ]

  -- what is above a row is its parent, and what is above that
  pub above_row : (r : Row) → row_at rows r.id ≡ Some r → ancestors rows r.id ≡ cond (r.parent == 0) [] (r.parent ∷ ancestors rows r.parent)
  above_row r there = at r.id refl
    where
      own : r.parent < r.id
      own = met IsAboveParent 0 high r.id rows r are there

      at : (n : ℕ) → r.id ≡ n → nearest rows n r.id ≡ cond (r.parent == 0) [] (r.parent ∷ ancestors rows r.parent)
      at zero is = absurd (omega (arith, is, own))
      at (suc n) is = one_above rows n r.id r there ∙ ap (λ l. cond (r.parent == 0) [] (r.parent ∷ l)) (enough n r.parent (omega (arith, is, own)))

module _ (facts : Facts) (subtree : facts.subtree ≡ true) where
  ends_is : (rows : List Row) (id other : ℕ) → ends_with facts rows id other ≡ ((other == id) || is_ancestor rows id other)
  ends_is rows id other = ap (λ b. (other == id) || (b && is_ancestor rows id other)) subtree

  -- a row ends where it is the one, or its parent ends
  pub ends_by_parent : (high : ℕ) (rows : List Row) (id : ℕ) (r : Row) → AreRows IsAboveParent 0 high rows → row_at rows r.id ≡ Some r
      → ends_with facts rows id r.id ≡ ((r.id == id) || (not (r.parent == 0) && ends_with facts rows id r.parent))
  ends_by_parent high rows id r are there =
      ends_is rows id r.id ∙ ap (λ l. (r.id == id) || list_any (λ a. a == id) l) (above_row high rows are r there)
      ∙ at (r.parent == 0) ∙ ap (λ b. (r.id == id) || (not (r.parent == 0) && b)) (sym (ends_is rows id r.parent))
    where
      at : (b : Bool) → ((r.id == id) || list_any (λ a. a == id) (cond b [] (r.parent ∷ ancestors rows r.parent))) ≡ ((r.id == id) || (not b && ((r.parent == id) || is_ancestor rows id r.parent)))
      at true = refl
      at false = refl

-- the rows of a sound object are above their parents
pub above_parents : (facts : Facts) (o : Object) → IsSound facts o → AreRows IsAboveParent 0 o.given o.rows
above_parents facts o sound =
    all_found (IsRow facts o.rows) IsAboveParent 0 o.given o.rows sound.rows
    (λ r there. below_it facts o.rows r (above (IsRow facts o.rows) 0 o.given r.id o.rows r sound.rows there) (met (IsRow facts o.rows) 0 o.given r.id o.rows r sound.rows there))

-- what is left when a row ends with all below it is sound
pub sound_without : (facts : Facts) (o : Object) (id : ℕ) → facts.subtree ≡ true → IsSound facts o
    → IsSound facts (record { rows = filter (λ r. not (ends_with facts o.rows id r.id)) o.rows; files = o.files; given = o.given })
sound_without facts o id subtree sound = record {
  rows = all_found (IsRow facts o.rows) (IsRow facts rest) 0 o.given rest (left (IsRow facts o.rows) (λ r. stays r.id) 0 o.given o.rows sound.rows) still;
  files = sound.files;
}
  where
    stays : ℕ → Bool
    stays n = not (ends_with facts o.rows id n)

    rest : List Row
    rest = filter (λ r. stays r.id) o.rows

    -- a parent stays with its row
    parent_stays : (own root same above : Bool) → own ≡ (same || (not root && above)) → not own ≡ true → root ≡ false → not above ≡ true
    parent_stays own root same above is not_own some = at root same above (sym (ap not is) ∙ not_own) some
      where
        at : (root same above : Bool) → not (same || (not root && above)) ≡ true → root ≡ false → not above ≡ true
        at true same above is some = absurd (cc some)
        at false true above is some = absurd (cc is)
        at false false above is some = is

    still : (r : Row) → row_at rest r.id ≡ Some r → IsRow facts rest r
    still r found =
        let was = from_left stays o.rows r.id r found in
        let row = met (IsRow facts o.rows) 0 o.given r.id o.rows r sound.rows was.there in
        let by_parent = ends_by_parent facts subtree o.given o.rows id r (above_parents facts o sound) was.there in
        record {
          creator_first = row.creator_first;
          creator_last = row.creator_last;
          parent = at (r.parent == 0) (parent_stays (ends_with facts o.rows id r.id) (r.parent == 0) (r.id == id) (ends_with facts o.rows id r.parent) by_parent was.stays) row.parent;
          its_parent = row.its_parent;
          fields = row.fields;
        }
      where
        at : (b : Bool) → (b ≡ false → stays r.parent ≡ true) → (b || (nat_lt r.parent r.id && is_live o.rows r.parent)) ≡ true → (b || (nat_lt r.parent r.id && is_live rest r.parent)) ≡ true
        at true kept meets = refl
        at false kept meets = ap (λ b. nat_lt r.parent r.id && b) (is_live-left stays o.rows r.parent (kept refl)) ∙ meets
