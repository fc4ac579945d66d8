-- An interface that declares the first functions of a shape is its standard interface.
use Rattle.std.proofs.Common.{◌≡◌, ℕ, ◌-◌, ◌^◌, false, List, [], ◌∷◌, length, map, refl, sym, ◌∙◌, ap}
use Rattle.std.proofs.lemmas.List.{length-map}
use Rattle.sg_facts.specs.declared.shape.Shape.{Shape}
use Rattle.sg_facts.specs.Facts.{Facts, facts_of, fun_of_shape}
use Rattle.sg_facts.specs.Interface.{Declared}
use Rattle.sg_facts.specs.Laws.{whole}

same_pairs : (ps : List (ℕ × ℕ)) → map (λ p. (p.0, p.1)) ps ≡ ps
same_pairs [] = refl
same_pairs (p ∷ ps) = ap (λ qs. p ∷ qs) (same_pairs ps)

abbrev declaring : Facts → ℕ → List (ℕ × ℕ) → List (ℕ × ℕ) → Declared
declaring facts declared moves steps = record { facts = facts; declared = declared; version = 1; eager = false; moves = moves; steps = steps }

-- so many functions, with these transitions
pub declares_first : (shape : Shape) (count declared : ℕ) (given moves steps : List (ℕ × ℕ)) → declared ≡ 2 ^ count - 1 → moves ≡ given → steps ≡ shape.steps.now
    → declaring (facts_of shape) declared moves steps ≡ record (whole (facts_of shape)) { declared = 2 ^ count - 1; moves = given }
declares_first shape count declared given moves steps all moved stepped =
    ap (λ d. declaring (facts_of shape) d moves steps) all
    ∙ ap (λ m. declaring (facts_of shape) (2 ^ count - 1) m steps) moved
    ∙ ap (λ s. declaring (facts_of shape) (2 ^ count - 1) given s) (stepped ∙ sym (same_pairs shape.steps.now))

-- all of them, with all transitions
pub whole_is : (shape : Shape) (facts : Facts) → facts_of shape ≡ facts
    → record (whole (facts_of shape)) { declared = 2 ^ length shape.funs.now - 1; moves = shape.moves.now } ≡ whole facts
whole_is shape facts is =
    ap (λ n. declaring (facts_of shape) (2 ^ n - 1) shape.moves.now (facts_of shape).steps) (sym (length-map shape.funs.now fun_of_shape))
    ∙ ap (λ m. declaring (facts_of shape) (whole (facts_of shape)).declared m (facts_of shape).steps) (sym (same_pairs shape.moves.now))
    ∙ ap whole is
