-- Spots told apart, and the walks that are kept by them.
use Rattle.std.proofs.Common.{◌≡◌, ℕ, true, false, List, [], ◌∷◌, None, Some, refl, sym, ◌∙◌, ap, inl, is_some, arith}
use Rattle.std.specs.Prelude.{◌==◌}
use Rattle.std.specs.Map.{lookup}
use Rattle.std.specs.Cmp.Lexicographic.{pointwise}
use Rattle.std.specs.declared.option.Option.{Option}
use Rattle.std.proofs.lemmas.Bool.{and_parts}
use Rattle.std.proofs.lemmas.Bool.Decides.{nat_tests}
use Rattle.std.proofs.lemmas.Map.Views.{Contains-from_lookup}
use Rattle.sg_walk.specs.declared.spot.FieldState.{FieldState}
use Rattle.sg_walk.specs.declared.spot.FieldState.TheVariants.{Unset, Good, Unknown}
use Rattle.sg_walk.specs.declared.spot.Spot.{Spot}
use Rattle.sg_walk.specs.contracts.spot.FieldStatePartialEq.TheImpl.{eq-value as mark-eq}
use Rattle.sg_walk.specs.contracts.spot.SpotPartialEq.TheImpl.{eq-value}
use Rattle.sg_walk.specs.Inside.Arrivals.{AddsArrival}

same_mark : (a b : FieldState) → mark-eq.it a b ≡ true → a ≡ b
same_mark Unset Unset same = refl
same_mark Unset Good same = cc same
same_mark Unset Unknown same = cc same
same_mark Good Unset same = cc same
same_mark Good Good same = refl
same_mark Good Unknown same = cc same
same_mark Unknown Unset same = cc same
same_mark Unknown Good same = cc same
same_mark Unknown Unknown same = refl

same_marks : (xs ys : List FieldState) → pointwise mark-eq.it xs ys ≡ true → xs ≡ ys
same_marks [] [] same = refl
same_marks [] (y ∷ ys) same = absurd (cc same)
same_marks (x ∷ xs) [] same = absurd (cc same)
same_marks (x ∷ xs) (y ∷ ys) same =
    let parts = and_parts (mark-eq.it x y) (pointwise mark-eq.it xs ys) same in
    let one : x ≡ y = same_mark x y parts.0 in
    let rest : xs ≡ ys = same_marks xs ys parts.1 in
    cc

same_parts : (a b : Spot) → a.state ≡ b.state → a.marks ≡ b.marks → a ≡ b
same_parts a b state marks = rw (state, marks)

pub same_spot : (a b : Spot) → eq-value.it a b ≡ true → a ≡ b
same_spot a b same =
    let parts = and_parts (a.state == b.state) (pointwise mark-eq.it a.marks b.marks) same in
    same_parts a b (grind (arith, nat_tests, parts.0)) (same_marks a.marks b.marks parts.1)

-- some walk had come to the spot
pub known : (old : List (Spot × List ℕ)) (spot : Spot) (walk : List ℕ) → is_some (lookup (eq-value.it spot) old) ≡ true → AddsArrival old old spot walk
known old spot walk some = by (lookup (eq-value.it spot) old) refl
  where
    by : (o : Option (List ℕ)) → lookup (eq-value.it spot) old ≡ o → AddsArrival old old spot walk
    by None is = let not_so : false ≡ true = sym (ap is_some is) ∙ some in absurd (cc not_so)
    by (Some w) is = inl (w, Contains-from_lookup same_spot spot w old is, refl)

-- none had
pub not_known : (old : List (Spot × List ℕ)) (spot : Spot) → is_some (lookup (eq-value.it spot) old) ≡ false → lookup (eq-value.it spot) old ≡ None
not_known old spot none = by (lookup (eq-value.it spot) old) refl
  where
    by : (o : Option (List ℕ)) → lookup (eq-value.it spot) old ≡ o → lookup (eq-value.it spot) old ≡ None
    by None is = is
    by (Some w) is = let not_so : true ≡ false = sym (ap is_some is) ∙ none in absurd (cc not_so)
