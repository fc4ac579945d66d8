-- Triples that are added, place by place and creation by creation.
use Rattle.std.proofs.Common.{◌≡◌, ◌≢◌, ℕ, ◌+◌, ◌<◌, ◌≤◌, true, List, [], ◌∷◌, ◌++◌, Some, length, take, get_or, refl, sym, ◌∙◌, ap, subst, inl, inr, arith, length-append}
use Rattle.std.specs.Prelude.{◌↔◌, slice_get}
use Rattle.std.specs.List.{Contains}
use Rattle.std.proofs.lemmas.Bool.Decides.{eqb_tells}
use Rattle.std.proofs.Math.Seq.{get_or-append_seam}
use Rattle.std.proofs.lemmas.List.{get_or_append_left, take_more, take_all}
use Rattle.std.proofs.lemmas.List.Quantifiers.{all_pairs_push}
use Rattle.std.proofs.lemmas.List.Elements.{Contains-append_left, Contains-append_right, Contains-append_cases}
use Rattle.std.proofs.lemmas.Option.{slice_get_within, get_or_from_slice_get}
use Rattle.sg_facts.specs.Interface.{Declared, declares}
use Rattle.sg_walk.specs.declared.place.Place.{Place}
use Rattle.sg_walk.specs.declared.place.Triple.{Triple}
use Rattle.sg_walk.specs.ReachedStates.Inside.Places.{AddsTriples, IsPlace}
use Rattle.sg_walk.specs.ReachedStates.Triples.{AreDistinct, IsReachedTriple}
use Rattle.sg_walk.proofs.ReachedStates.Marks.{at_place, itself, only}
use Rattle.sg_walk.proofs.ReachedStates.Reaching.{made_declared, place_triple, triple_place}

pub none_in : {X : Type 0} (x : X) → Contains [] x → ⊥
none_in x (k, within, is) = absurd (omega (arith, within))

abbrev triple_at : ℕ → Place → Triple
triple_at made p = record { made = made; state = p.state; mask = p.mask }

abbrev place_in : Triple → Place
place_in t = record { state = t.state; mask = t.mask }

same_triple : (t u : Triple) → t.made ≡ u.made → t.state ≡ u.state → t.mask ≡ u.mask → t ≡ u
same_triple t u made state mask = rw (made, state, mask)

pub triples_none : (made : ℕ) (ts : List Triple) → AddsTriples made [] ts ts
triples_none made ts = record {
  all = λ p has. absurd (none_in p has);
  kept = λ t has. has;
  only = λ t has. inl has;
  once = λ below distinct all. distinct;
}

-- in a list without anything twice, the last is none of those before
last_differs : {X : Type 0} (xs : List X) (x : X) → AreDistinct (xs ++ x ∷ []) → Contains xs x → ⊥
last_differs xs x all (k, within, is) =
    let here : get_or (xs ++ x ∷ []) (length xs) x ≡ x = get_or-append_seam xs x [] x in
    let before : get_or (xs ++ x ∷ []) k x ≡ x = get_or_append_left xs (x ∷ []) x k within ∙ is in
    all k (length xs) x within (omega (arith, length-append xs (x ∷ []))) (before ∙ sym here)

-- and those before are without anything twice
front_distinct : {X : Type 0} (xs : List X) (x : X) → AreDistinct (xs ++ x ∷ []) → AreDistinct xs
front_distinct xs x all i j d less within same =
    let left : i < length xs = omega (arith, less, within) in
    all i j d less (omega (arith, within, length-append xs (x ∷ [])))
    (get_or_append_left xs (x ∷ []) d i left ∙ same ∙ sym (get_or_append_left xs (x ∷ []) d j within))

-- a triple of the last place was none of those before
module _ (made : ℕ) (places : List Place) (p : Place) (old mid : List Triple) (adds : AddsTriples made places old mid) where
  new_triple : ((t : Triple) → Contains old t → t.made < made) → AreDistinct (places ++ p ∷ []) → Contains mid (triple_at made p) → ⊥
  new_triple below distinct has = elim (adds.only (triple_at made p) has) [
    | inl before ↦ absurd (omega (arith, below (triple_at made p) before))
    | inr later ↦ last_differs places p distinct later.1
  ]

  distinct_more : ((t : Triple) → Contains old t → t.made < made) → AreDistinct old → AreDistinct (places ++ p ∷ []) → AreDistinct (mid ++ triple_at made p ∷ [])
  distinct_more below one all =
      all_pairs_push (λ x y. x ≢ y) mid (triple_at made p) (adds.once below one (front_distinct places p all))
      (λ k d within same. new_triple below all (subst (Contains mid) same (at_place mid k d within)))

pub triples_more : (made n : ℕ) (places : List Place) (p : Place) (old mid new : List Triple) → AddsTriples made (take n places) old mid → slice_get places n ≡ Some p
    → new ≡ mid ++ triple_at made p ∷ [] → AddsTriples made (take (n + 1) places) old new
triples_more made n places p old mid new adds at is =
    let within : n < length places = slice_get_within places n p at in
    let longer : take (n + 1) places ≡ take n places ++ p ∷ [] = take_more places n p within ∙ ap (λ x. take n places ++ x ∷ []) (get_or_from_slice_get places n p p at) in
    record {
      all = λ q has. elim (Contains-append_cases (take n places) (p ∷ []) q (subst (λ l. Contains l q) longer has)) [
        | inl before ↦ subst (λ l. Contains l (triple_at made q)) (sym is) (Contains-append_left mid (triple_at made p ∷ []) (triple_at made q) (adds.all q before))
        | inr last ↦
            let here : Contains new (triple_at made p) = subst (λ l. Contains l (triple_at made p)) (sym is) (Contains-append_right mid (triple_at made p ∷ []) (triple_at made p) (itself (triple_at made p))) in
            subst (λ x. Contains new (triple_at made x)) (sym (only p q last)) here
      ];
      kept = λ t has. subst (λ l. Contains l t) (sym is) (Contains-append_left mid (triple_at made p ∷ []) t (adds.kept t has));
      only = λ t has. elim (Contains-append_cases mid (triple_at made p ∷ []) t (subst (λ l. Contains l t) is has)) [
        | inl before ↦ elim (adds.only t before) [
          | inl first ↦ inl first
          | inr later ↦ inr (later.0, subst (λ l. Contains l (place_in t)) (sym longer) (Contains-append_left (take n places) (p ∷ []) (place_in t) later.1))
        ]
        | inr last ↦
            let same : t ≡ triple_at made p = only (triple_at made p) t last in
            let here : Contains (take (n + 1) places) p = subst (λ l. Contains l p) (sym longer) (Contains-append_right (take n places) (p ∷ []) p (itself p)) in
            inr (ap (λ x. x.made) same, subst (λ x. Contains (take (n + 1) places) (place_in x)) (sym same) here)
      ];
      once = λ below one all. subst AreDistinct (sym is) (distinct_more made (take n places) p old mid adds below one (subst AreDistinct longer all));
    }

pub triples_all : (made n : ℕ) (places : List Place) (old new : List Triple) → length places ≤ n → AddsTriples made (take n places) old new → AddsTriples made places old new
triples_all made n places old new all adds = subst (λ l. AddsTriples made l old new) (take_all n places all) adds

module _ (i : Declared) where
  -- function 0 is no creation
  pub zero_none : (t : Triple) → t.made < 1 → IsReachedTriple i t → ⊥
  zero_none t few (set, number, reached) =
      let none : t.made ≡ 0 = omega (arith, few) in
      let d : declares i 0 ≡ true = ap (λ n. declares i n) (sym none) ∙ made_declared i t.made t.state set reached in
      cc d

  module _ (made : ℕ) (places : List Place) (old new : List Triple) (adds : AddsTriples made places old new) (are : (p : Place) → Contains places p ↔ IsPlace i made p) where
    pub only_more : ((t : Triple) → Contains old t → IsReachedTriple i t) → (t : Triple) → Contains new t → IsReachedTriple i t
    only_more before t has = elim (adds.only t has) [
      | inl first ↦ before t first
      | inr later ↦ place_triple i t (subst (λ m. IsPlace i m (place_in t)) (sym later.0) ((are (place_in t)).0 later.1))
    ]

    pub all_more : ((t : Triple) → t.made < made → IsReachedTriple i t → Contains old t) → (t : Triple) → t.made < made + 1 → IsReachedTriple i t → Contains new t
    all_more before t few reached = elim (eqb_tells t.made made) [
      | inl (k, same) ↦
          let place : IsPlace i made (place_in t) = subst (λ m. IsPlace i m (place_in t)) same (triple_place i t reached) in
          subst (Contains new) (same_triple (triple_at made (place_in t)) t (sym same) refl refl) (adds.all (place_in t) ((are (place_in t)).1 place))
      | inr (k, other) ↦ adds.kept t (before t (omega (arith, few, other)) reached)
    ]

    pub below_more : ((t : Triple) → Contains old t → t.made < made) → (t : Triple) → Contains new t → t.made < made + 1
    below_more before t has = elim (adds.only t has) [
      | inl first ↦ omega (arith, before t first)
      | inr later ↦ omega (arith, later.0)
    ]
