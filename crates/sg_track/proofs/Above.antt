-- Ancestors, one by one: a parent is below its child, so the ancestors of a row are its parent and those of its parent.
use Rattle.std.proofs.Common.{◌≡◌, ℕ, zero, suc, ◌-◌, ◌<◌, ◌≤◌, Bool, true, false, cond, ◌||◌, List, [], ◌∷◌, ◌++◌, None, Some, refl, sym, ◌∙◌, ap, arith, append_assoc}
use Rattle.std.specs.Prelude.{◌==◌}
use Rattle.std.specs.List.{list_any}
use Rattle.std.proofs.lemmas.Bool.Decides.{nat_tests}
use Rattle.sg_facts.specs.declared.row.Row.{Row}
use Rattle.sg_facts.specs.Sound.{AreRows}
use Rattle.sg_facts.specs.Track.{ancestors, is_ancestor, nearest, row_at}
use Rattle.sg_facts.specs.Inside.Rows.{has_child, parent_in}
use Rattle.sg_track.specs.Kept.{ends_below}
use Rattle.sg_track.specs.Tracked.{HasLowerParent}

-- the parent of an id is below it
pub parent_below : (low high id : ℕ) (rows : List Row) → AreRows HasLowerParent low high rows → parent_in (row_at rows id) ≤ id - 1
parent_below low high id [] are = omega arith
parent_below low high id (r ∷ rows) are = at (r.id == id) (λ is. grind (arith, nat_tests)) (parent_below r.id high id rows are.3)
  where
    at : (b : Bool) → (b ≡ true → r.id ≡ id) → parent_in (row_at rows id) ≤ id - 1 → parent_in (cond b (Some r) (row_at rows id)) ≤ id - 1
    at true is rest = omega (arith, is refl, are.2)
    at false is rest = rest

module _ (low high : ℕ) (rows : List Row) (are : AreRows HasLowerParent low high rows) where
  step : (b : Bool) (most id : ℕ) → (parent_in (row_at rows id) == 0) ≡ b → nearest rows (suc most) id ≡ cond b [] (parent_in (row_at rows id) ∷ nearest rows most (parent_in (row_at rows id)))
  step b most id is = ap (λ t. cond t [] (parent_in (row_at rows id) ∷ nearest rows most (parent_in (row_at rows id)))) is

  -- so many as the id are enough
  enough : (m n id : ℕ) → id ≤ m → id ≤ n → nearest rows m id ≡ nearest rows n id
  enough zero zero id few also = refl
  enough zero (suc n) id few also =
      let low_parent = parent_below low high id rows are in
      let none : (parent_in (row_at rows id) == 0) ≡ true = grind (arith, nat_tests, low_parent, few) in
      sym (step true n id none)
  enough (suc m) zero id few also =
      let low_parent = parent_below low high id rows are in
      let none : (parent_in (row_at rows id) == 0) ≡ true = grind (arith, nat_tests, low_parent, also) in
      step true m id none
  enough (suc m) (suc n) id few also =
      let low_parent = parent_below low high id rows are in
      at (parent_in (row_at rows id) == 0) refl (λ some. enough m n (parent_in (row_at rows id)) (omega (arith, low_parent, few, some)) (omega (arith, low_parent, also, some)))
    where
      at : (b : Bool) → (parent_in (row_at rows id) == 0) ≡ b
          → ((parent_in (row_at rows id) ≡ 0 → ⊥) → nearest rows m (parent_in (row_at rows id)) ≡ nearest rows n (parent_in (row_at rows id)))
          → nearest rows (suc m) id ≡ nearest rows (suc n) id
      at true is rest = step true m id is ∙ sym (step true n id is)
      at false is rest =
          step false m id is
          ∙ ap (λ l. parent_in (row_at rows id) ∷ l) (rest (λ none. let test : (parent_in (row_at rows id) == 0) ≡ true = grind (arith, nat_tests) in cc (is, test)))
          ∙ sym (step false n id is)

  -- an id without a parent has no ancestors
  pub root : (id : ℕ) → parent_in (row_at rows id) ≡ 0 → ancestors rows id ≡ []
  root zero is = refl
  root (suc n) is = step true n (suc n) (grind (arith, nat_tests))

  -- the ancestors of an id are its parent and those of its parent
  pub child : (id : ℕ) → (parent_in (row_at rows id) == 0) ≡ false → ancestors rows id ≡ parent_in (row_at rows id) ∷ ancestors rows (parent_in (row_at rows id))
  child zero is =
      let low_parent = parent_below low high zero rows are in
      absurd (let none : (parent_in (row_at rows zero) == 0) ≡ true = grind (arith, nat_tests, low_parent) in cc (is, none))
  child (suc n) is =
      let low_parent = parent_below low high (suc n) rows are in
      step false n (suc n) is
      ∙ ap (λ l. parent_in (row_at rows (suc n)) ∷ l)
      (enough n (parent_in (row_at rows (suc n))) (parent_in (row_at rows (suc n))) (omega (arith, low_parent)) (omega arith))

  module _ (id : ℕ) (r : Row) (there : row_at rows r.id ≡ Some r) (other : (r.id == id) ≡ false) where
    its_parent : parent_in (row_at rows r.id) ≡ r.parent
    its_parent = ap parent_in there

    -- a root ends alone
    pub ends_root : (r.parent == 0) ≡ true → ends_below rows id r.id ≡ false
    ends_root is =
        ap (λ b. b || is_ancestor rows id r.id) other
        ∙ ap (list_any (λ a. a == id)) (root r.id (its_parent ∙ grind (arith, nat_tests)))

    -- any other row ends with its parent
    pub ends_child : (r.parent == 0) ≡ false → ends_below rows id r.id ≡ ends_below rows id r.parent
    ends_child is =
        ap (λ b. b || is_ancestor rows id r.id) other
        ∙ ap (list_any (λ a. a == id)) (child r.id (ap (λ p. p == 0) its_parent ∙ is))
        ∙ ap (λ p. ends_below rows id p) its_parent

  -- where there is no row, only the id itself ends
  pub ends_nowhere : (id other : ℕ) → row_at rows other ≡ None → (other == id) ≡ false → ends_below rows id other ≡ false
  ends_nowhere id other none apart =
      ap (λ b. b || is_ancestor rows id other) apart
      ∙ ap (list_any (λ a. a == id)) (root other (ap parent_in none))

  -- an id ends with itself
  pub ends_itself : (id other : ℕ) → (other == id) ≡ true → ends_below rows id other ≡ true
  ends_itself id other same = ap (λ b. b || is_ancestor rows id other) same

-- ---- ids that end with none

module _ (id : ℕ) where
  parent_apart : (rows : List Row) (other : ℕ) → has_child rows id ≡ false → (parent_in (row_at rows other) == 0) ≡ false → (parent_in (row_at rows other) == id) ≡ false
  parent_apart [] other none some = absurd (cc some)
  parent_apart (r ∷ rows) other none some = at (r.parent == id) refl (r.id == other) none some (parent_apart rows other)
    where
      at : (p : Bool) → (r.parent == id) ≡ p → (b : Bool) → (p || has_child rows id) ≡ false → (parent_in (cond b (Some r) (row_at rows other)) == 0) ≡ false
          → (has_child rows id ≡ false → (parent_in (row_at rows other) == 0) ≡ false → (parent_in (row_at rows other) == id) ≡ false)
          → (parent_in (cond b (Some r) (row_at rows other)) == id) ≡ false
      at true is b none some rest = absurd (cc none)
      at false is true none some rest = is
      at false is false none some rest = rest none some

  apart_or : (b : Bool) (l : List ℕ) (n : ℕ) → (b ≡ false → (n == id) ≡ false) → list_any (λ a. a == id) l ≡ false → list_any (λ a. a == id) (cond b [] (n ∷ l)) ≡ false
  apart_or true l n apart rest = refl
  apart_or false l n apart rest = ap (λ b. b || list_any (λ a. a == id) l) (apart refl) ∙ rest

  far : (rows : List Row) → has_child rows id ≡ false → (most one : ℕ) → list_any (λ a. a == id) (nearest rows most one) ≡ false
  far rows none zero one = refl
  far rows none (suc most) one =
      let parent = parent_in (row_at rows one) in
      apart_or (parent == 0) (nearest rows most parent) parent (parent_apart rows one none) (far rows none most parent)

  -- an id without children is no ancestor
  pub childless : (rows : List Row) (other : ℕ) → has_child rows id ≡ false → is_ancestor rows id other ≡ false
  childless rows other none = far rows none other other

  lower : (low high : ℕ) (rows : List Row) → AreRows HasLowerParent low high rows → (most one : ℕ) → one < id → list_any (λ a. a == id) (nearest rows most one) ≡ false
  lower low high rows are zero one less = refl
  lower low high rows are (suc most) one less =
      let parent = parent_in (row_at rows one) in
      let below : parent < id = omega (arith, parent_below low high one rows are, less) in
      apart_or (parent == 0) (nearest rows most parent) parent (λ some. grind (arith, nat_tests, below)) (lower low high rows are most parent below)

  -- an id ends with no greater one
  pub ends_lower : (low high : ℕ) (rows : List Row) → AreRows HasLowerParent low high rows → (other : ℕ) → other < id → ends_below rows id other ≡ false
  ends_lower low high rows are other less =
      let apart : (other == id) ≡ false = grind (arith, nat_tests, less) in
      ap (λ b. b || is_ancestor rows id other) apart ∙ lower low high rows are other other less

-- an id and its ancestors; none for 0
abbrev pub up_from : List Row → ℕ → List ℕ
up_from rows id = cond (id == 0) [] (id ∷ ancestors rows id)

-- the ancestors of an id are those from its parent on
pub from_parent : (low high id : ℕ) (rows : List Row) → AreRows HasLowerParent low high rows → ancestors rows id ≡ up_from rows (parent_in (row_at rows id))
from_parent low high id rows are = at (parent_in (row_at rows id) == 0) refl
  where
    at : (b : Bool) → (parent_in (row_at rows id) == 0) ≡ b → ancestors rows id ≡ cond b [] (parent_in (row_at rows id) ∷ ancestors rows (parent_in (row_at rows id)))
    at true is = root low high rows are id (grind (arith, nat_tests))
    at false is = child low high rows are id is

-- one step up
pub one_up : (low high id : ℕ) (rows : List Row) (above : List ℕ) → AreRows HasLowerParent low high rows → (id ≡ 0 → ⊥)
    → (above ++ id ∷ []) ++ up_from rows (parent_in (row_at rows id)) ≡ above ++ up_from rows id
one_up low high id rows above are some =
    let test : (id == 0) ≡ false = grind (arith, nat_tests, some) in
    append_assoc above (id ∷ []) (up_from rows (parent_in (row_at rows id)))
    ∙ ap (λ l. above ++ id ∷ l) (sym (from_parent low high id rows are))
    ∙ ap (λ b. above ++ cond b [] (id ∷ ancestors rows id)) (sym test)
