-- What the first transitions of an interface lead to.
use Rattle.std.proofs.Common.{◌≡◌, ◌⊎◌, ℕ, zero, suc, ◌+◌, ◌<◌, Bool, true, false, List, [], ◌∷◌, length, take, get_or, refl, sym, ◌∙◌, ap, subst, inl, inr, arith}
use Rattle.std.specs.Prelude.{◌==◌, ◌&&◌, ◌||◌}
use Rattle.std.proofs.lemmas.Bool.{and_parts}
use Rattle.std.proofs.lemmas.Bool.Decides.{nat_tests}
use Rattle.std.proofs.lemmas.List.{take_more}
use Rattle.std.proofs.lemmas.List.Folds.{list_any-append}
use Rattle.sg_facts.specs.Interface.{Declared, has_pair}
use Rattle.sg_walk.specs.declared.place.Place.{Place}
use Rattle.sg_walk.specs.ReachedStates.Inside.Places.{AddsJust, LeadsTo, LeadsBy}
use Rattle.sg_walk.proofs.ReachedStates.Adding.{adds_none, adds_same, adds_then}

-- a place that one of some transitions leads to
abbrev pub IsNextIn : Declared → List (ℕ × ℕ) → Place → Place → Type 0
IsNextIn i moves p q = (fun : ℕ) × (has_pair moves p.state fun ≡ true) × LeadsBy i fun p q

or_left : (b c : Bool) → b ≡ true → (b || c) ≡ true
or_left true c is = refl
or_left false c is = absurd (cc is)

or_right : (b c : Bool) → c ≡ true → (b || c) ≡ true
or_right true c is = refl
or_right false c is = is

matches : (a b x : ℕ) → a ≡ x → ((a == x) && (b == b)) ≡ true
matches a b x same = grind (arith, nat_tests)

told : (a b x y : ℕ) → ((a == x) && (b == y)) ≡ true → (a ≡ x) × (b ≡ y)
told a b x y is = let parts = and_parts (a == x) (b == y) is in (grind (arith, nat_tests, parts.0), grind (arith, nat_tests, parts.1))

-- the pair at a place is listed
pub pair_at : (pairs : List (ℕ × ℕ)) (a n : ℕ) → n < length pairs → (get_or pairs n (0, 0)).0 ≡ a → has_pair pairs a (get_or pairs n (0, 0)).1 ≡ true
pair_at [] a n within is = absurd (omega arith)
pair_at (x ∷ xs) a zero within is = ap (λ b. b || has_pair xs a x.1) (matches x.0 x.1 a is)
pair_at (x ∷ xs) a (suc n) within is = or_right ((x.0 == a) && (x.1 == (get_or xs n (0, 0)).1)) (has_pair xs a (get_or xs n (0, 0)).1) (pair_at xs a n (omega arith) is)

-- the first pairs, and one more
more_pairs : (pairs : List (ℕ × ℕ)) (n a b : ℕ) → n < length pairs
    → has_pair (take (n + 1) pairs) a b ≡ (has_pair (take n pairs) a b || (((get_or pairs n (0, 0)).0 == a) && ((get_or pairs n (0, 0)).1 == b) || false))
more_pairs pairs n a b within = ap (λ l. has_pair l a b) (take_more pairs n (0, 0) within) ∙ list_any-append (λ p. (p.0 == a) && (p.1 == b)) (take n pairs) (get_or pairs n (0, 0) ∷ [])

one_of : (b c : Bool) → (b || (c || false)) ≡ true → (b ≡ true) ⊎ (c ≡ true)
one_of true c is = inl refl
one_of false true is = inr refl
one_of false false is = absurd (cc is)

module _ (i : Declared) (moves : List (ℕ × ℕ)) (p : Place) where
  pub next_none : (places : List Place) → AddsJust (IsNextIn i [] p) places places
  next_none places = adds_none (IsNextIn i [] p) places (λ q is. cc (is.1))

  -- a transition of the place's state more
  pub next_more : (n : ℕ) (a b c : List Place) → n < length moves → (get_or moves n (0, 0)).0 ≡ p.state → AddsJust (IsNextIn i (take n moves) p) a b
      → AddsJust (LeadsBy i (get_or moves n (0, 0)).1 p) b c → AddsJust (IsNextIn i (take (n + 1) moves) p) a c
  next_more n a b c within state first second =
      let fun = (get_or moves n (0, 0)).1 in
      adds_then (IsNextIn i (take n moves) p) (LeadsBy i fun p) (IsNextIn i (take (n + 1) moves) p) a b c first second
      (λ q (other, has, leads). elim (one_of _ _ (sym (more_pairs moves n p.state other within) ∙ has)) [
        | inl before ↦ inl (other, before, leads)
        | inr last ↦ inr (subst (λ f. LeadsBy i f p q) (sym (told _ _ _ _ last).1) leads)
      ])
      (λ q is. elim is [
        | inl (other, before, leads) ↦ (other, more_pairs moves n p.state other within ∙ or_left _ _ before, leads)
        | inr leads ↦ (fun, more_pairs moves n p.state fun within ∙ or_right (has_pair (take n moves) p.state fun) _ (ap (λ b. b || false) (matches _ _ _ state)), leads)
      ])

  -- one of another state
  pub next_same : (n : ℕ) (a b : List Place) → n < length moves → ((get_or moves n (0, 0)).0 ≡ p.state → ⊥) → AddsJust (IsNextIn i (take n moves) p) a b
      → AddsJust (IsNextIn i (take (n + 1) moves) p) a b
  next_same n a b within state first = adds_same (IsNextIn i (take n moves) p) (IsNextIn i (take (n + 1) moves) p) a b first
      (λ q (other, has, leads). elim (one_of _ _ (sym (more_pairs moves n p.state other within) ∙ has)) [
        | inl before ↦ (other, before, leads)
        | inr last ↦ absurd (state (told _ _ _ _ last).0)
      ])
      (λ q (other, before, leads). (other, more_pairs moves n p.state other within ∙ or_left _ _ before, leads))

  -- all of them
  pub next_all : (l : List (ℕ × ℕ)) (a b : List Place) → l ≡ i.moves → AddsJust (IsNextIn i l p) a b → AddsJust (LeadsTo i p) a b
  next_all l a b all adds = adds_same (IsNextIn i l p) (LeadsTo i p) a b adds
      (λ q (fun, leads). (fun, ap (λ m. has_pair m p.state fun) all ∙ leads.moves, leads))
      (λ q (fun, has, leads). (fun, leads))
