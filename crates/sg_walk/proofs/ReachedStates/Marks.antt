-- Places that are found are kept in a set in the order of insertion.
use Rattle.std.proofs.Common.{◌≡◌, ℕ, zero, suc, ◌<◌, Bool, true, false, List, [], ◌∷◌, ◌++◌, length, get_or, refl, sym, ◌∙◌, ap, inl, inr, arith}
use Rattle.std.specs.Prelude.{◌==◌, if◌then◌else◌}
use Rattle.std.specs.List.{Contains, list_any, IsDistinct}
use Rattle.std.proofs.lemmas.Map.Keys.{apart_from_distinct}
use Rattle.std.proofs.lemmas.Bool.{and_parts}
use Rattle.std.proofs.lemmas.Bool.Decides.{nat_tests}
use Rattle.std.proofs.lemmas.List.Folds.{list_any_at}
use Rattle.std.proofs.lemmas.Option.{slice_get-get_or, get_or_from_slice_get}
use Rattle.indexmap.proofs.CallerLemmas.{Contains-list_any}
use Rattle.indexmap.specs.IndexSet.{insert_key}
use Rattle.sg_walk.specs.declared.place.Place.{Place}
use Rattle.sg_walk.specs.contracts.place.PlacePartialEq.TheImpl.{eq-value}
use Rattle.sg_walk.specs.ReachedStates.Inside.Places.{AddsOnce}
use Rattle.sg_walk.specs.ReachedStates.Triples.{AreDistinct}

-- the one element of a list of one
pub only : {X : Type 0} (x y : X) → Contains (x ∷ []) y → y ≡ x
only x y (zero, within, is) = sym is
only x y (suc k, within, is) = absurd (omega (arith, within))

pub itself : {X : Type 0} (x : X) → Contains (x ∷ []) x
itself x = (0, omega arith, refl)

-- what stands at a place is an element
pub at_place : {X : Type 0} (xs : List X) (k : ℕ) (d : X) → k < length xs → Contains xs (get_or xs k d)
at_place xs k d within = (k, within, get_or_from_slice_get xs k (get_or xs k d) (get_or xs k d) (slice_get-get_or xs k d within))

-- ---- equality of places

pub same_place : (p q : Place) → eq-value.it p q ≡ true → p ≡ q
same_place p q same =
    let parts = and_parts (p.state == q.state) (p.mask == q.mask) same in
    let state : p.state ≡ q.state = grind (arith, nat_tests, parts.0) in
    let mask : p.mask ≡ q.mask = grind (arith, nat_tests, parts.1) in
    rw (state, mask)

place_itself : (p : Place) → eq-value.it p p ≡ true
place_itself p = grind (arith, nat_tests)

-- ---- sets of places

-- a place that is in a list is found there
has_it : (places : List Place) (p : Place) (k : ℕ) → k < length places → get_or places k p ≡ p → list_any (eq-value.it p) places ≡ true
has_it places p k within is = list_any_at (eq-value.it p) places k p within (ap (eq-value.it p) is ∙ place_itself p)

-- a place that isn't found in a list goes last
pub inserted : (old new : List Place) (p : Place) → new ≡ insert_key eq-value.it old p → AddsOnce old new p
inserted old new p is = by (list_any (eq-value.it p) old) refl
  where
    by : (b : Bool) → list_any (eq-value.it p) old ≡ b → AddsOnce old new p
    by true found = inl (Contains-list_any eq-value.it same_place old p found, is ∙ ap (λ b. if b then old else old ++ p ∷ []) found)
    by false none = inr (λ (k, within, at). cc (none, has_it old p k within at), is ∙ ap (λ b. if b then old else old ++ p ∷ []) none)

-- in a set no place stands twice
pub distinct : (places : List Place) → IsDistinct eq-value.it places → AreDistinct places
distinct places unique i j d less within same = cc (
  apart_from_distinct eq-value.it places i j d unique less within,
  ap (eq-value.it (get_or places i d)) (sym same) ∙ place_itself (get_or places i d),
)
