-- The ancestors of a row that a service holds: the service has the same above it, under its own ids, and all of them whole.
use Rattle.std.proofs.Common.{◌≡◌, ℕ, zero, suc, ◌<◌, ◌≤◌, true, false, cond, List, [], ◌∷◌, Some, map, sym, ◌∙◌, ap, subst, inl, inr, arith}
use Rattle.std.specs.Prelude.{◌==◌, ◌||◌, ◌&&◌, nat_lt}
use Rattle.std.proofs.lemmas.Bool.Decides.{nat_tests}
use Rattle.sg_base.specs.Lists.{Each}
use Rattle.sg_facts.specs.declared.row.Row.{Row}
use Rattle.sg_facts.specs.Alike.{HasAlike, named}
use Rattle.sg_facts.specs.Facts.{Facts}
use Rattle.sg_facts.specs.Held.{whole, partly, HoldsPart, IsHeldFor, ParentIsWhole}
use Rattle.sg_facts.specs.Interface.{Declared}
use Rattle.sg_facts.specs.Object.{Object}
use Rattle.sg_facts.specs.Sound.{IsRow, IsSound}
use Rattle.sg_facts.specs.Track.{is_live, nearest, row_at}
use Rattle.sg_facts.specs.Inside.Rows.{parent_in}
use Rattle.sg_facts.proofs.RowLists.{id_of_row}
use Rattle.sg_facts.proofs.Replaying.Found.{above, held_at, met, other_test, same_test}

-- the row of an id is there, and whole in the service
pub record IsWholeIn (names : List (ℕ × ℕ)) (o held : Object) (id : ℕ) : Type 0 where
  pub row : Row
  pub of : row_at o.rows id ≡ Some row
  pub whole : HasAlike names held row

-- what stands above a row is the same in the service, and whole there
pub record SameAbove (names : List (ℕ × ℕ)) (o held : Object) (ids reals : List ℕ) : Type 0 where
  pub same : reals ≡ map (named names) ids
  pub each : Each (IsWholeIn names o held) ids

-- one step up
pub one_above : (rows : List Row) (n id : ℕ) (r : Row) → row_at rows id ≡ Some r → nearest rows (suc n) id ≡ cond (r.parent == 0) [] (r.parent ∷ nearest rows n r.parent)
one_above rows n id r there = ap (λ x. let parent = parent_in x in cond (parent == 0) [] (parent ∷ nearest rows n parent)) there

-- the id of a row of the service is the name of that for which it is held
pub name_of_held : (i : Declared) (names : List (ℕ × ℕ)) (r w : Row) → IsHeldFor i names r w → named names r.id ≡ w.id
name_of_held i names r w (whole alike) = alike.id
name_of_held i names r w (partly done rest walk part) = part.id

pub parent_of_held : (i : Declared) (names : List (ℕ × ℕ)) (r w : Row) → IsHeldFor i names r w → w.parent ≡ named names r.parent
parent_of_held i names r w (whole alike) = alike.parent
parent_of_held i names r w (partly done rest walk part) = part.parent

module _ (i : Declared) (names : List (ℕ × ℕ)) (o held : Object) (holds : HoldsPart i names o held) (sound : IsSound i.facts o) where
  -- an id of the object has one row, by its name
  pub one_row : (r r' : Row) → row_at o.rows r.id ≡ Some r → row_at o.rows r'.id ≡ Some r' → (w : Row) → row_at held.rows (named names r.id) ≡ Some w → named names r'.id ≡ named names r.id → r' ≡ r
  one_row r r' there there' w found same =
      let low : 0 < w.id = above (IsRow i.facts held.rows) 0 held.given (named names r.id) held.rows w holds.held_sound.rows found in
      let its : w.id ≡ named names r.id = id_of_row held.rows (named names r.id) w found in
      elim (holds.names_are.apart r'.id r.id same) [
        | inl none ↦ absurd (omega (arith, low, its, same, none))
        | inr one ↦ let rows : Some r' ≡ Some r = sym there' ∙ ap (row_at o.rows) one ∙ there in cc rows
      ]

  -- the row that stands for a row of the object is held for it
  pub held_as : (r w : Row) → row_at o.rows r.id ≡ Some r → row_at held.rows (named names r.id) ≡ Some w → IsHeldFor i names r w × ParentIsWhole names o held r
  held_as r w there found =
      let h = held_at i names o held held.rows (named names r.id) w holds.each found in
      let its : w.id ≡ named names r.id = id_of_row held.rows (named names r.id) w found in
      let one : h.row ≡ r = one_row r h.row there h.live w found (name_of_held i names h.row w h.held_for ∙ its) in
      (subst (λ x. IsHeldFor i names x w) one h.held_for, subst (ParentIsWhole names o held) one h.parent)

  pub low_id : (id : ℕ) (r : Row) → row_at o.rows id ≡ Some r → 0 < r.id
  low_id id r there = above (IsRow i.facts o.rows) 0 o.given id o.rows r sound.rows there

  pub low_real : (real : ℕ) (w : Row) → row_at held.rows real ≡ Some w → 0 < w.id
  low_real real w found = above (IsRow i.facts held.rows) 0 held.given real held.rows w holds.held_sound.rows found

  below_it : (facts : Facts) (rows : List Row) (r : Row) → IsRow facts rows r → (r.parent ≡ 0 → ⊥) → r.parent < r.id
  below_it facts rows r is some =
      let none : (r.parent == 0) ≡ false = other_test r.parent 0 some in
      let meets : (nat_lt r.parent r.id && is_live rows r.parent) ≡ true = sym (ap (λ b. b || (nat_lt r.parent r.id && is_live rows r.parent)) none) ∙ is.parent in
      grind (arith, nat_tests, meets)

  -- from a row of the object that has a row in the service, upwards
  pub up : (m n : ℕ) (r w : Row) → row_at o.rows r.id ≡ Some r → row_at held.rows (named names r.id) ≡ Some w → r.id ≤ n → named names r.id ≤ m
      → SameAbove names o held (nearest o.rows n r.id) (nearest held.rows m (named names r.id))
  up zero zero r w there found few also = absurd (omega (arith, low_id r.id r there, few))
  up zero (suc n) r w there found few also = absurd (omega (arith, low_real (named names r.id) w found, id_of_row held.rows (named names r.id) w found, also))
  up (suc m) zero r w there found few also = absurd (omega (arith, low_id r.id r there, few))
  up (suc m) (suc n) r w there found few also =
      let kind = held_as r w there found in
      let parent : w.parent ≡ named names r.parent = parent_of_held i names r w kind.0 in
      elim kind.1 [
        | inl none ↦
            let test : (r.parent == 0) ≡ true = same_test r.parent 0 none in
            let test' : (w.parent == 0) ≡ true = same_test w.parent 0 (parent ∙ ap (named names) none ∙ holds.names_are.none) in
            let ids : nearest o.rows (suc n) r.id ≡ [] = one_above o.rows n r.id r there ∙ ap (λ b. cond b [] (r.parent ∷ nearest o.rows n r.parent)) test in
            let reals : nearest held.rows (suc m) (named names r.id) ≡ []
            = one_above held.rows m (named names r.id) w found ∙ ap (λ b. cond b [] (w.parent ∷ nearest held.rows m w.parent)) test' in
            record { same = reals ∙ ap (map (named names)) (sym ids); each = subst (Each (IsWholeIn names o held)) (sym ids) tt }
        | inr has ↦
            let x = has.row in
            let v = has.whole.row in
            let its : x.id ≡ r.parent = id_of_row o.rows r.parent x has.of in
            let there_x : row_at o.rows x.id ≡ Some x = ap (row_at o.rows) its ∙ has.of in
            let low : 0 < x.id = low_id r.parent x has.of in
            let low_v : 0 < v.id = low_real (named names x.id) v has.whole.there in
            let name_v : v.id ≡ named names x.id = id_of_row held.rows (named names x.id) v has.whole.there in
            let name : named names r.parent ≡ named names x.id = ap (named names) (sym its) in
            let lower : r.parent < r.id = below_it i.facts o.rows r (met (IsRow i.facts o.rows) 0 o.given r.id o.rows r sound.rows there) (λ is. absurd (omega (arith, is, its, low))) in
            let some_w : w.parent ≡ 0 → ⊥ = λ is. absurd (omega (arith, is, parent, name, name_v, low_v)) in
            let lower_w : w.parent < w.id = below_it i.facts held.rows w (met (IsRow i.facts held.rows) 0 held.given (named names r.id) held.rows w holds.held_sound.rows found) some_w in
            let its_w : w.id ≡ named names r.id = id_of_row held.rows (named names r.id) w found in
            let rest = up m n x v there_x has.whole.there (omega (arith, its, lower, few)) (omega (arith, parent, name, lower_w, its_w, also)) in
            let test : (r.parent == 0) ≡ false = other_test r.parent 0 (λ is. absurd (omega (arith, is, its, low))) in
            let test' : (w.parent == 0) ≡ false = other_test w.parent 0 some_w in
            let ids : nearest o.rows (suc n) r.id ≡ x.id ∷ nearest o.rows n x.id
            = one_above o.rows n r.id r there ∙ ap (λ b. cond b [] (r.parent ∷ nearest o.rows n r.parent)) test ∙ ap (λ p. p ∷ nearest o.rows n p) (sym its) in
            let reals : nearest held.rows (suc m) (named names r.id) ≡ named names x.id ∷ nearest held.rows m (named names x.id)
            = one_above held.rows m (named names r.id) w found ∙ ap (λ b. cond b [] (w.parent ∷ nearest held.rows m w.parent)) test'
            ∙ ap (λ p. p ∷ nearest held.rows m p) (parent ∙ name) in
            record {
              same = reals ∙ ap (λ l. named names x.id ∷ l) rest.same ∙ ap (map (named names)) (sym ids);
              each = subst (Each (IsWholeIn names o held)) (sym ids) (record { row = x; of = there_x; whole = has.whole }, rest.each);
            }
      ]
