-- Closing under what one call leads to.
use Rattle.std.proofs.Common.{◌≡◌, ℕ, zero, suc, ◌+◌, ◌<◌, ◌≤◌, List, [], ◌∷◌, ◌++◌, None, Some, length, refl, sym, ◌∙◌, ap, subst, inl, inr, arith, length-append}
use Rattle.std.specs.Prelude.{slice_get}
use Rattle.std.specs.List.{Contains}
use Rattle.std.proofs.lemmas.Bool.Decides.{eqb_tells}
use Rattle.std.proofs.lemmas.Option.{slice_get-get_or, slice_get_within, get_or_from_slice_get}
use Rattle.sg_facts.specs.Interface.{Declared}
use Rattle.sg_facts.specs.Walks.{IsReachable, moved}
use Rattle.sg_walk.specs.declared.place.Place.{Place}
use Rattle.sg_walk.specs.ReachedStates.Inside.Bits.{set_numbered}
use Rattle.sg_walk.specs.ReachedStates.Inside.Places.{AddsJust, AreReached, IsClosed, LeadsTo, IsPlace}
use Rattle.sg_walk.proofs.ReachedStates.Adding.{adds_keeps}

pub get_before : {X : Type 0} (xs ys : List X) (k : ℕ) → k < length xs → slice_get (xs ++ ys) k ≡ slice_get xs k
get_before [] ys k within = absurd (omega arith)
get_before (x ∷ xs) ys zero within = refl
get_before (x ∷ xs) ys (suc k) within = get_before xs ys k (omega arith)

pub there : {X : Type 0} (xs : List X) (k : ℕ) (x : X) → slice_get xs k ≡ Some x → Contains xs x
there xs k x is = (k, slice_get_within xs k x is, get_or_from_slice_get xs k x x is)

pub one_value : {X : Type 0} (x y : X) → Some x ≡ Some y → x ≡ y
one_value x y is = cc is

-- where there is no element, the list has ended
pub ended : {X : Type 0} (xs : List X) (k : ℕ) → slice_get xs k ≡ None → length xs ≤ k
ended [] k is = omega arith
ended (x ∷ xs) zero is = absurd (cc is)
ended (x ∷ xs) (suc k) is = omega (arith, ended xs k is)

-- one call leads from a place of descriptors to a place of them
pub next_reached : (i : Declared) (made : ℕ) (p q : Place) → IsPlace i made p → LeadsTo i p q → IsPlace i made q
next_reached i made p q (within, reached) (fun, leads) = (
  leads.led.1,
  subst (λ s. IsReachable i made s (set_numbered i q.mask)) (sym leads.led.0)
      (moved made fun p.state (set_numbered i p.mask) (set_numbered i q.mask) reached leads.moves leads.goes_on leads.led.2),
)

module _ (i : Declared) (place : Place) (n : ℕ) (old new : List Place) (adds : AddsJust (LeadsTo i place) old new) (is : slice_get old n ≡ Some place) where
  within : n < length old
  within = slice_get_within old n place is

  pub longer : n + 1 ≤ length new
  longer =
      let l : length new ≡ length old + length adds.more = ap length adds.behind ∙ length-append old adds.more in
      let w = within in omega (arith, l, w)

  pub closed_more : ((k : ℕ) (p q : Place) → k < n → slice_get old k ≡ Some p → LeadsTo i p q → Contains old q)
      → (k : ℕ) (p q : Place) → k < n + 1 → slice_get new k ≡ Some p → LeadsTo i p q → Contains new q
  closed_more closed k p q few at next =
      let w = within in
      let inside : k < length old = omega (arith, w, few) in
      let same : slice_get new k ≡ slice_get old k = ap (λ l. slice_get l k) adds.behind ∙ get_before old adds.more k inside in
      elim (eqb_tells k n) [
        | inl (t, k_is) ↦
            let p_is : p ≡ place = one_value p place (sym at ∙ same ∙ ap (λ m. slice_get old m) k_is ∙ is) in
            adds.all q (subst (λ x. LeadsTo i x q) p_is next)
        | inr (t, other) ↦ adds_keeps (LeadsTo i place) old new q adds (closed k p q (omega (arith, few, other)) (sym same ∙ at) next)
      ]

  pub reached_more : (made : ℕ) → AreReached i made old → AreReached i made new
  reached_more made reached p has = elim (adds.only p has) [
    | inl before ↦ reached p before
    | inr next ↦ next_reached i made place p (reached place (there old n place is)) next
  ]

-- all were looked at
pub closed_all : (i : Declared) (places : List Place) (n : ℕ) → length places ≤ n
    → ((k : ℕ) (p q : Place) → k < n → slice_get places k ≡ Some p → LeadsTo i p q → Contains places q) → IsClosed i places
closed_all i places n all closed p q (k, within, is) next = closed k p q (omega (arith, within)) (slice_get-get_or places k p within ∙ ap Some is) next
