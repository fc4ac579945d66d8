-- Rows that are found by their ids, in lists under ascending ids.
use Rattle.std.proofs.Common.{◌≡◌, ℕ, ◌<◌, ◌≤◌, Bool, true, false, cond, List, [], ◌∷◌, ◌++◌, None, Some, map, filter, refl, sym, ◌∙◌, ap, subst, inl, inr, ◌⊎◌, arith}
use Rattle.std.specs.Prelude.{◌==◌}
use Rattle.std.proofs.lemmas.Bool.Decides.{eqb_tells, nat_tests}
use Rattle.sg_facts.specs.declared.row.Row.{Row}
use Rattle.sg_facts.specs.Sound.{AreRows}
use Rattle.sg_facts.specs.Track.{row_at}
use Rattle.sg_facts.specs.Interface.{Declared}
use Rattle.sg_facts.specs.Object.{Object}
use Rattle.sg_facts.specs.Held.{EachHeld, IsHeld}

pub same_test : (m n : ℕ) → m ≡ n → (m == n) ≡ true
same_test m n is = elim (eqb_tells m n) [ inl same ↦ same.0 | inr apart ↦ absurd (apart.1 is) ]

pub other_test : (m n : ℕ) → (m ≡ n → ⊥) → (m == n) ≡ false
other_test m n isn't = elim (eqb_tells m n) [ inl same ↦ absurd (isn't same.1) | inr apart ↦ apart.0 ]

-- what holds of rows holds of the one of an id, which lies above the first number and not above the second
pub met : (P : Row → Type 0) (low high id : ℕ) (rows : List Row) (r : Row) → AreRows P low high rows → row_at rows id ≡ Some r → P r
met P low high id [] r are there = absurd (cc there)
met P low high id (x ∷ rows) r are there = at (x.id == id) there (met P x.id high id rows r are.3)
  where
    at : (b : Bool) → cond b (Some x) (row_at rows id) ≡ Some r → (row_at rows id ≡ Some r → P r) → P r
    at true there rest = let one : x ≡ r = cc there in subst P one are.2
    at false there rest = rest there

pub above : (P : Row → Type 0) (low high id : ℕ) (rows : List Row) (r : Row) → AreRows P low high rows → row_at rows id ≡ Some r → low < r.id
above P low high id [] r are there = absurd (cc there)
above P low high id (x ∷ rows) r are there = at (x.id == id) there (above P x.id high id rows r are.3)
  where
    at : (b : Bool) → cond b (Some x) (row_at rows id) ≡ Some r → (row_at rows id ≡ Some r → x.id < r.id) → low < r.id
    at true there rest = let one : x ≡ r = cc there in subst (λ y. low < y.id) one are.0
    at false there rest = omega (arith, are.0, rest there)

pub within : (P : Row → Type 0) (low high id : ℕ) (rows : List Row) (r : Row) → AreRows P low high rows → row_at rows id ≡ Some r → r.id ≤ high
within P low high id [] r are there = absurd (cc there)
within P low high id (x ∷ rows) r are there = at (x.id == id) there (within P x.id high id rows r are.3)
  where
    at : (b : Bool) → cond b (Some x) (row_at rows id) ≡ Some r → (row_at rows id ≡ Some r → r.id ≤ high) → r.id ≤ high
    at true there rest = let one : x ≡ r = cc there in subst (λ y. y.id ≤ high) one are.1
    at false there rest = rest there

-- what holds of each row that is found by its id holds of all
pub all_found : (P Q : Row → Type 0) (low high : ℕ) (rows : List Row) → AreRows P low high rows → ((r : Row) → row_at rows r.id ≡ Some r → Q r) → AreRows Q low high rows
all_found P Q low high [] are so = tt
all_found P Q low high (x ∷ rows) are so = (
  are.0,
  are.1,
  so x (ap (λ b. cond b (Some x) (row_at rows x.id)) (same_test x.id x.id refl)),
  all_found P Q x.id high rows are.3 (λ r there.
      let more = above P x.id high r.id rows r are.3 there in
      so r (ap (λ b. cond b (Some x) (row_at rows r.id)) (other_test x.id r.id (λ is. absurd (omega (arith, is, more)))) ∙ there)),
)

-- ---- rows that a service holds for an object's

pub held_at : (i : Declared) (names : List (ℕ × ℕ)) (o held : Object) (ws : List Row) (id : ℕ) (w : Row) → EachHeld i names o held ws → row_at ws id ≡ Some w → IsHeld i names o held w
held_at i names o held [] id w each there = absurd (cc there)
held_at i names o held (x ∷ ws) id w each there = at (x.id == id) there (held_at i names o held ws id w each.1)
  where
    at : (b : Bool) → cond b (Some x) (row_at ws id) ≡ Some w → (row_at ws id ≡ Some w → IsHeld i names o held w) → IsHeld i names o held w
    at true there rest = let one : x ≡ w = cc there in subst (IsHeld i names o held) one each.0
    at false there rest = rest there

pub each_held : (P : Row → Type 0) (i : Declared) (names : List (ℕ × ℕ)) (o held : Object) (low high : ℕ) (ws : List Row) → AreRows P low high ws
    → ((w : Row) → row_at ws w.id ≡ Some w → IsHeld i names o held w) → EachHeld i names o held ws
each_held P i names o held low high [] are so = tt
each_held P i names o held low high (x ∷ ws) are so = (
  so x (ap (λ b. cond b (Some x) (row_at ws x.id)) (same_test x.id x.id refl)),
  each_held P i names o held x.id high ws are.3 (λ r there.
      let more = above P x.id high r.id ws r are.3 there in
      so r (ap (λ b. cond b (Some x) (row_at ws r.id)) (other_test x.id r.id (λ is. absurd (omega (arith, is, more)))) ∙ there)),
)

-- ---- rows that are changed under their ids

pub to_map : (change : Row → Row) → ((r : Row) → (change r).id ≡ r.id) → (rows : List Row) (id : ℕ) (r : Row) → row_at rows id ≡ Some r → row_at (map change rows) id ≡ Some (change r)
to_map change same [] id r there = absurd (cc there)
to_map change same (x ∷ rows) id r there =
    ap (λ n. cond (n == id) (Some (change x)) (row_at (map change rows) id)) (same x) ∙ at (x.id == id) there (to_map change same rows id r)
  where
    at : (b : Bool) → cond b (Some x) (row_at rows id) ≡ Some r → (row_at rows id ≡ Some r → row_at (map change rows) id ≡ Some (change r))
        → cond b (Some (change x)) (row_at (map change rows) id) ≡ Some (change r)
    at true there rest = let one : x ≡ r = cc there in ap (λ y. Some (change y)) one
    at false there rest = rest there

-- what a changed row was
pub record Was (change : Row → Row) (rows : List Row) (id : ℕ) (new : Row) : Type 0 where
  pub row : Row
  pub there : row_at rows id ≡ Some row
  pub is : change row ≡ new

pub from_map : (change : Row → Row) → ((r : Row) → (change r).id ≡ r.id) → (rows : List Row) (id : ℕ) (new : Row) → row_at (map change rows) id ≡ Some new → Was change rows id new
from_map change same [] id new there = absurd (cc there)
from_map change same (x ∷ rows) id new there =
    at (x.id == id) refl (ap (λ n. cond (n == id) (Some (change x)) (row_at (map change rows) id)) (sym (same x)) ∙ there) (from_map change same rows id new)
  where
    at : (b : Bool) → (x.id == id) ≡ b → cond b (Some (change x)) (row_at (map change rows) id) ≡ Some new → (row_at (map change rows) id ≡ Some new → Was change rows id new)
        → Was change (x ∷ rows) id new
    at true test there rest = record { row = x; there = ap (λ b. cond b (Some x) (row_at rows id)) test; is = cc there }
    at false test there rest = let was = rest there in record { row = was.row; there = ap (λ b. cond b (Some x) (row_at rows id)) test ∙ was.there; is = was.is }

-- ---- rows that are left

pub record Stayed (test : ℕ → Bool) (rows : List Row) (id : ℕ) (r : Row) : Type 0 where
  pub there : row_at rows id ≡ Some r
  pub stays : test id ≡ true

pub from_left : (test : ℕ → Bool) (rows : List Row) (id : ℕ) (r : Row) → row_at (filter (λ x. test x.id) rows) id ≡ Some r → Stayed test rows id r
from_left test [] id r there = absurd (cc there)
from_left test (x ∷ rows) id r there = at (test x.id) refl there (from_left test rows id r)
  where
    skipped : (x.id == id) ≡ false → Stayed test rows id r → Stayed test (x ∷ rows) id r
    skipped apart was = record { there = ap (λ b. cond b (Some x) (row_at rows id)) apart ∙ was.there; stays = was.stays }

    here : (b : Bool) → test x.id ≡ true → (x.id == id) ≡ b → cond b (Some x) (row_at (filter (λ y. test y.id) rows) id) ≡ Some r
        → (row_at (filter (λ y. test y.id) rows) id ≡ Some r → Stayed test rows id r) → Stayed test (x ∷ rows) id r
    here true stays is there rest = record {
      there = ap (λ b. cond b (Some x) (row_at rows id)) is ∙ there;
      stays = ap test (sym (let one : x.id ≡ id = grind (arith, nat_tests) in one)) ∙ stays;
    }
    here false stays is there rest = skipped is (rest there)

    at : (t : Bool) → test x.id ≡ t → row_at (cond t (x ∷ filter (λ y. test y.id) rows) (filter (λ y. test y.id) rows)) id ≡ Some r
        → (row_at (filter (λ y. test y.id) rows) id ≡ Some r → Stayed test rows id r) → Stayed test (x ∷ rows) id r
    at true is there rest = here (x.id == id) is refl there rest
    at false is there rest =
        let was = rest there in
        skipped (other_test x.id id (λ same. let both : false ≡ true = sym is ∙ ap test same ∙ was.stays in cc both)) was

-- ---- a row that comes

pub from_more : (P : Row → Type 0) (low high : ℕ) (rows : List Row) (new r : Row) (id : ℕ) → row_at (rows ++ new ∷ []) id ≡ Some r → (row_at rows id ≡ Some r) ⊎ ((r ≡ new) × (new.id ≡ id))
from_more P low high [] new r id there = at (new.id == id) refl there
  where
    at : (b : Bool) → (new.id == id) ≡ b → cond b (Some new) None ≡ Some r → (None ≡ Some r) ⊎ ((r ≡ new) × (new.id ≡ id))
    at true is there = inr (cc there, grind (arith, nat_tests))
    at false is there = absurd (cc there)
from_more P low high (x ∷ rows) new r id there = at (x.id == id) there (from_more P low high rows new r id)
  where
    at : (b : Bool) → cond b (Some x) (row_at (rows ++ new ∷ []) id) ≡ Some r → (row_at (rows ++ new ∷ []) id ≡ Some r → (row_at rows id ≡ Some r) ⊎ ((r ≡ new) × (new.id ≡ id)))
        → (cond b (Some x) (row_at rows id) ≡ Some r) ⊎ ((r ≡ new) × (new.id ≡ id))
    at true there rest = inl there
    at false there rest = rest there

-- the row that comes last is found by its id, where it is above all others
pub last_found : (P : Row → Type 0) (low high : ℕ) (rows : List Row) (new : Row) → AreRows P low high rows → high < new.id → row_at (rows ++ new ∷ []) new.id ≡ Some new
last_found P low high [] new are more = ap (λ b. cond b (Some new) None) (same_test new.id new.id refl)
last_found P low high (x ∷ rows) new are more =
    ap (λ b. cond b (Some x) (row_at (rows ++ new ∷ []) new.id)) (other_test x.id new.id (λ is. absurd (omega (arith, is, more, are.1)))) ∙ last_found P x.id high rows new are.3 more
