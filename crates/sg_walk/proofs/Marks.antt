-- Marks after effects, one by one.
use Rattle.std.proofs.Common.{◌≡◌, ℕ, zero, suc, ◌+◌, ◌<◌, ◌≤◌, List, [], ◌∷◌, length, map, drop, get_or, unwrap_or, refl, sym, ◌∙◌, ap, arith}
use Rattle.std.specs.Prelude.{slice_get, replicate}
use Rattle.sg_facts.specs.Facts.{Field}
use Rattle.std.proofs.Math.ListN.{set}
use Rattle.std.proofs.lemmas.List.{drop_more, map-set, length-map, set_past}
use Rattle.sg_facts.specs.declared.shape.Effect.{Effect}
use Rattle.sg_facts.specs.Walks.{FieldMark as Known, unset, mark_after, marks_after}
use Rattle.sg_walk.specs.declared.spot.FieldState.{FieldState}
use Rattle.sg_walk.specs.declared.spot.FieldState.TheVariants.{Unset}
use Rattle.sg_walk.specs.Marks.{known_of, shown_marks}

seen_at : (marks : List FieldState) (at : ℕ) → unwrap_or (slice_get (map known_of marks) at) unset ≡ known_of (get_or marks at Unset)
seen_at [] at = refl
seen_at (m ∷ marks) zero = refl
seen_at (m ∷ marks) (suc at) = seen_at marks at

-- a mark is written
written : (marks : List FieldState) (at : ℕ) (effect : Effect) (r : FieldState) → known_of r ≡ mark_after effect (known_of (get_or marks at Unset))
    → map known_of (set marks at r) ≡ set (map known_of marks) at (mark_after effect (unwrap_or (slice_get (map known_of marks) at) unset))
written marks at effect r is =
    map-set known_of marks at r ∙ ap (λ v. set (map known_of marks) at v) (is ∙ ap (mark_after effect) (sym (seen_at marks at)))

-- there is no such mark
left_alone : (marks : List FieldState) (at : ℕ) (v : Known) → length marks ≤ at → map known_of marks ≡ set (map known_of marks) at v
left_alone marks at v past = sym (set_past (map known_of marks) at v (omega (arith, length-map marks known_of)))

-- one effect of those that are left
next_effect : (effects : List (ℕ × Effect)) (k : ℕ) (d : ℕ × Effect) (ms after all : List Known) → k < length effects
    → marks_after (map (λ p. (p.0, p.1)) (drop k effects)) ms ≡ all
    → after ≡ set ms (get_or effects k d).0 (mark_after (get_or effects k d).1 (unwrap_or (slice_get ms (get_or effects k d).0) unset))
    → marks_after (map (λ p. (p.0, p.1)) (drop (k + 1) effects)) after ≡ all
next_effect effects k d ms after all in' before is =
    ap (marks_after (map (λ p. (p.0, p.1)) (drop (k + 1) effects))) is
    ∙ sym (ap (λ es. marks_after (map (λ p. (p.0, p.1)) es) ms) (drop_more effects k d in')) ∙ before

pub effect_written : (effects : List (ℕ × Effect)) (k : ℕ) (d : ℕ × Effect) (marks new : List FieldState) (at : ℕ) (r : FieldState) (all : List Known) → k < length effects
    → marks_after (map (λ p. (p.0, p.1)) (drop k effects)) (map known_of marks) ≡ all
    → at ≡ (get_or effects k d).0 → known_of r ≡ mark_after (get_or effects k d).1 (known_of (get_or marks at Unset)) → new ≡ set marks at r
    → marks_after (map (λ p. (p.0, p.1)) (drop (k + 1) effects)) (map known_of new) ≡ all
effect_written effects k d marks new at r all in' before place is new-is =
    next_effect effects k d (map known_of marks) (map known_of new) all in' before
    (ap (map known_of) new-is ∙ written marks at (get_or effects k d).1 r is
    ∙ ap (λ n. set (map known_of marks) n (mark_after (get_or effects k d).1 (unwrap_or (slice_get (map known_of marks) n) unset))) place)

pub effect_passed : (effects : List (ℕ × Effect)) (k : ℕ) (d : ℕ × Effect) (marks new : List FieldState) (at : ℕ) (all : List Known) → k < length effects
    → marks_after (map (λ p. (p.0, p.1)) (drop k effects)) (map known_of marks) ≡ all
    → at ≡ (get_or effects k d).0 → length marks ≤ at → new ≡ marks
    → marks_after (map (λ p. (p.0, p.1)) (drop (k + 1) effects)) (map known_of new) ≡ all
effect_passed effects k d marks new at all in' before place past new-is =
    next_effect effects k d (map known_of marks) (map known_of new) all in' before
    (ap (map known_of) new-is ∙ left_alone marks (get_or effects k d).0 (mark_after (get_or effects k d).1 (unwrap_or (slice_get (map known_of marks) (get_or effects k d).0) unset)) (omega arith))

-- no mark is set yet
pub all_unset : (fields : List Field) (n : ℕ) → length fields ≤ n → shown_marks (length fields) (replicate n Unset) ≡ map (λ f. unset) fields
all_unset [] n few = refl
all_unset (f ∷ fields) zero few = absurd (omega arith)
all_unset (f ∷ fields) (suc n) few = ap (λ ms. unset ∷ ms) (all_unset fields n (omega arith))
