-- The texts of an input, one divider after the other.
use Rattle.std.proofs.Common.{◌≡◌, ◌⊎◌, inl, inr, ℕ, ◌<◌, ◌≤◌, List, [], ◌∷◌, ◌++◌, length, refl, sym, ap, subst, arith, append-nil, append_assoc, length-append}
use Rattle.std.specs.Prelude.{codes}
use Rattle.sg_facts.specs.Words.{line_end}
use Rattle.sg_input.specs.Divider.{Divides, IsCut}
use Rattle.sg_input.specs.MultiInputs.{AreParts}

-- a dividing line has two bytes at least
some_bytes : (line behind : List ℕ) → (line ≡ codes "%%" ++ line_end) ⊎ ((line ≡ codes "%%" ++ 13 ∷ line_end) ⊎ ((line ≡ codes "%%") × (behind ≡ []))) → 2 ≤ length line
some_bytes line behind (inl is) = let long = ap (λ (l : List ℕ). length l) is in omega (arith, long)
some_bytes line behind (inr (inl is)) = let long = ap (λ (l : List ℕ). length l) is in omega (arith, long)
some_bytes line behind (inr (inr is)) = let long = ap (λ (l : List ℕ). length l) is.0 in omega (arith, long)

-- what stands behind a divider is shorter
pub shorter : (input before behind : List ℕ) → IsCut input before behind → length behind < length input
shorter input before behind cut =
    let d = cut.divides in
    let some = some_bytes d.line behind d.divider in
    let whole = ap (λ (l : List ℕ). length l) d.whole in
    let front = length-append before (d.line ++ behind) in
    let back = length-append d.line behind in
    omega (arith, some, whole, front, back)

-- what is still to be divided goes on to the texts of the whole
abbrev pub GoesOn : List ℕ → List (List ℕ) → List ℕ → Type 0
GoesOn input texts rest = (more : List (List ℕ)) (last : List ℕ) → AreParts rest more last → AreParts input (texts ++ more) last

pub goes_on : (input rest text behind : List ℕ) (texts : List (List ℕ)) → IsCut rest text behind → GoesOn input texts rest → GoesOn input (texts ++ text ∷ []) behind
goes_on input rest text behind texts cut on = λ more last parts.
    subst (λ l. AreParts input l last) (sym (append_assoc texts (text ∷ []) more)) (on (text ∷ more) last (behind, cut, parts))

pub ends_so : (input rest : List ℕ) (texts : List (List ℕ)) → ((before behind : List ℕ) → Divides rest before behind → ⊥) → GoesOn input texts rest → AreParts input texts rest
ends_so input rest texts none on = subst (λ l. AreParts input l rest) (append-nil texts) (on [] rest (none, refl))
