-- What becomes of the listed numbers up to a place when the place goes on by one.
use Rattle.std.proofs.Common.{◌≡◌, ℕ, ◌+◌, ◌<◌, ◌≤◌, true, false, cond, ◌&&◌, List, [], ◌∷◌, ◌++◌, Some, length, refl, sym, ◌∙◌, ap, inl, inr, arith}
use Rattle.std.specs.Prelude.{nat_le, slice_get}
use Rattle.std.proofs.lemmas.Bool.{cases_lt}
use Rattle.std.proofs.lemmas.Bool.Decides.{nat_tests}
use Rattle.sg_edge.specs.Stops.{AscendsAbove, up_to}

-- a number that is kept, and one that isn't
kept : (a n : ℕ) (ns : List ℕ) → 0 < n → n ≤ a → up_to a (n ∷ ns) ≡ n ∷ up_to a ns
kept a n ns low high =
    let inside : (nat_le 1 n && nat_le n a) ≡ true = grind (arith, nat_tests) in
    ap (λ b. cond b (n ∷ up_to a ns) (up_to a ns)) inside

dropped : (a n : ℕ) (ns : List ℕ) → a < n → up_to a (n ∷ ns) ≡ up_to a ns
dropped a n ns high =
    let outside : (nat_le 1 n && nat_le n a) ≡ false = grind (arith, nat_tests) in
    ap (λ b. cond b (n ∷ up_to a ns) (up_to a ns)) outside

-- numbers above a place are none of those up to it
above : (a low : ℕ) (ns : List ℕ) → a ≤ low → AscendsAbove low ns → up_to a ns ≡ []
above a low [] le up = refl
above a low (n ∷ ns) le up = dropped a n ns (omega (arith, up.0)) ∙ above a n ns (omega (arith, up.0)) up.1

-- the next listed number is the one after the place: it joins
pub joins : (a low : ℕ) (ns : List ℕ) → AscendsAbove low ns → slice_get ns (length (up_to a ns)) ≡ Some (a + 1) → up_to (a + 1) ns ≡ up_to a ns ++ (a + 1) ∷ []
joins a low [] up here = absurd (cc here)
joins a low (n ∷ ns) up here = elim (cases_lt a n) [
  | inl past ↦
      let none = dropped a n ns past ∙ above a n ns (omega arith) up.1 in
      let first : Some n ≡ Some (a + 1) = sym (ap (λ k. slice_get (n ∷ ns) (length k)) none) ∙ here in
      let is : n ≡ a + 1 = cc first in
      kept (a + 1) n ns (omega arith) (omega arith) ∙ ap (λ l. n ∷ l) (above (a + 1) n ns (omega arith) up.1)
      ∙ ap (λ k. k ∷ []) is ∙ ap (λ l. l ++ (a + 1) ∷ []) (sym none)
  | inr before ↦
      let one = kept a n ns (omega (arith, up.0)) before in
      let rest = joins a n ns up.1 (sym (ap (λ k. slice_get (n ∷ ns) (length k)) one) ∙ here) in
      kept (a + 1) n ns (omega (arith, up.0)) (omega arith) ∙ ap (λ l. n ∷ l) rest ∙ ap (λ l. l ++ (a + 1) ∷ []) (sym one)
]

-- it isn't: none joins
pub passes : (a low : ℕ) (ns : List ℕ) → AscendsAbove low ns → (slice_get ns (length (up_to a ns)) ≡ Some (a + 1) → ⊥) → up_to (a + 1) ns ≡ up_to a ns
passes a low [] up other = refl
passes a low (n ∷ ns) up other = elim (cases_lt a n) [
  | inl past ↦
      let none = dropped a n ns past ∙ above a n ns (omega arith) up.1 in
      let not_next : n ≡ a + 1 → ⊥ = λ is. other (ap (λ k. slice_get (n ∷ ns) (length k)) none ∙ ap Some is) in
      dropped (a + 1) n ns (omega (arith, not_next)) ∙ above (a + 1) n ns (omega (arith, not_next)) up.1 ∙ sym none
  | inr before ↦
      let one = kept a n ns (omega (arith, up.0)) before in
      let rest = passes a n ns up.1 (λ is. other (ap (λ k. slice_get (n ∷ ns) (length k)) one ∙ is)) in
      kept (a + 1) n ns (omega (arith, up.0)) (omega arith) ∙ ap (λ l. n ∷ l) rest ∙ sym one
]
