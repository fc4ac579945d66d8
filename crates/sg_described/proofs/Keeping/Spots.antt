-- Where walks come to is listed, but where a field is lost for good.
use Rattle.std.proofs.Common.{◌≡◌, ℕ, zero, suc, ◌+◌, ◌<◌, ◌≤◌, Bool, true, false, cond, not, List, [], ◌∷◌, ◌++◌, length, map, filter, None, Some, refl, sym, ◌∙◌, ap, subst, ◌⊎◌, inl, inr, arith}
use Rattle.std.specs.Prelude.{◌==◌, ◌&&◌, ◌||◌, slice_get, slice_set, unwrap_or}
use Rattle.std.specs.List.{flat_map, list_all, list_any}
use Rattle.std.specs.declared.option.Option.{Option}
use Rattle.std.proofs.lemmas.Bool.Decides.{eqb_tells}
use Rattle.sg_facts.specs.declared.shape.Effect.{Effect}
use Rattle.sg_facts.specs.declared.shape.Effect.TheVariants.{SetCaller, SetArg, AddArg, SetRet, AddRet, Clear, SubOne, SubRet}
use Rattle.sg_facts.specs.Facts.{Fun, fun_at}
use Rattle.sg_facts.specs.Interface.{has_pair}
use Rattle.sg_facts.specs.Walks.{FieldMark, Spot, first_spot, good, mark_after, marks_after, next_spot, restores_fields, unknown, unset}
use Rattle.sg_described.specs.Described.{Described}
use Rattle.sg_described.specs.NeverZero.{all_from}
use Rattle.sg_described.specs.Walking.{add_spot, add_spots, begins, brings_back, is_lost, is_step, is_stuck, is_unknown, mark_at, most_more, nexts, same_mark, same_marks, same_spot, spots_of, spots_within}
use Rattle.sg_described.proofs.Keeping.Basics.{OneOf, apart_of, both_true, first, neither, no_it, one_of, or_true, own_test, pair_passes, same_of, second}

-- ---- spots that are the same

same_mark_is : (m n : FieldMark) → same_mark m n ≡ true → m ≡ n
same_mark_is unset unset is = refl
same_mark_is unset good is = absurd (cc is)
same_mark_is unset unknown is = absurd (cc is)
same_mark_is good unset is = absurd (cc is)
same_mark_is good good is = refl
same_mark_is good unknown is = absurd (cc is)
same_mark_is unknown unset is = absurd (cc is)
same_mark_is unknown good is = absurd (cc is)
same_mark_is unknown unknown is = refl

same_marks_is : (ms ns : List FieldMark) → same_marks ms ns ≡ true → ms ≡ ns
same_marks_is [] [] is = refl
same_marks_is [] (n ∷ ns) is = absurd (cc is)
same_marks_is (m ∷ ms) [] is = absurd (cc is)
same_marks_is (m ∷ ms) (n ∷ ns) is =
    let parts = both_true (same_mark m n) (same_marks ms ns) is in
    let one = same_mark_is m n parts.0 in
    let rest = same_marks_is ms ns parts.1 in
    cc (one, rest)

pub spot_is : (s t : Spot) → same_spot s t ≡ true → t ≡ s
spot_is s t is =
    let parts = both_true (s.state == t.state) (same_marks s.marks t.marks) is in
    let one = sym (same_of s.state t.state parts.0) in
    let two = sym (same_marks_is s.marks t.marks parts.1) in
    ap (λ n. record { state = n; marks = t.marks }) one ∙ ap (λ l. record { state = s.state; marks = l }) two

own_mark : (m : FieldMark) → same_mark m m ≡ true
own_mark unset = refl
own_mark good = refl
own_mark unknown = refl

own_marks : (ms : List FieldMark) → same_marks ms ms ≡ true
own_marks [] = refl
own_marks (m ∷ ms) = ap (λ b. b && same_marks ms ms) (own_mark m) ∙ own_marks ms

pub own_spot : (s : Spot) → same_spot s s ≡ true
own_spot s = ap (λ b. b && same_marks s.marks s.marks) (own_test s.state) ∙ own_marks s.marks

-- a spot is listed
abbrev pub is_among : Spot → List Spot → Bool
is_among s spots = list_any (same_spot s) spots

-- a listed spot passes what all pass
pub spot_passes : (p : Spot → Bool) (spots : List Spot) (s : Spot) → list_all p spots ≡ true → is_among s spots ≡ true → p s ≡ true
spot_passes p [] s all any = absurd (cc any)
spot_passes p (t ∷ spots) s all any =
    let parts = both_true (p t) (list_all p spots) all in
    elim (one_of (same_spot s t) (list_any (same_spot s) spots) any) [ first this ↦ subst (λ x. p x ≡ true) (spot_is s t this) parts.0 | second later ↦ spot_passes p spots s parts.1 later ]

-- ---- what is lost for good

-- a field of which nothing is known, and that no step brings back
pub record IsLost (d : Described) (s : Spot) : Type 0 where
  pub field : ℕ
  pub lost : slice_get s.marks field ≡ Some unknown
  pub stuck : is_stuck d field ≡ true

unknown_only : (m : FieldMark) → is_unknown m ≡ true → m ≡ unknown
unknown_only unset is = absurd (cc is)
unknown_only good is = absurd (cc is)
unknown_only unknown is = refl

lost_from : (d : Described) (from : ℕ) (marks : List FieldMark) → all_from (λ x m. not (is_unknown m && is_stuck d x)) from marks ≡ false → (k : ℕ) × (slice_get marks k ≡ Some unknown) × (is_stuck d (from + k) ≡ true)
lost_from d from [] is = absurd (cc is)
lost_from d from (m ∷ marks) is = at (is_unknown m && is_stuck d from) refl is (lost_from d (suc from) marks)
  where
    at : (b : Bool) → (is_unknown m && is_stuck d from) ≡ b → (not b && all_from (λ x n. not (is_unknown n && is_stuck d x)) (suc from) marks) ≡ false
        → (all_from (λ x n. not (is_unknown n && is_stuck d x)) (suc from) marks ≡ false → (k : ℕ) × (slice_get marks k ≡ Some unknown) × (is_stuck d (suc from + k) ≡ true))
        → (k : ℕ) × (slice_get (m ∷ marks) k ≡ Some unknown) × (is_stuck d (from + k) ≡ true)
    at true here is rest =
        let parts = both_true (is_unknown m) (is_stuck d from) here in
        let same : from ≡ from + 0 = omega arith in
        (0, ap Some (unknown_only m parts.0), subst (λ n. is_stuck d n ≡ true) same parts.1)
    at false here is rest =
        let more = rest is in
        let same : suc from + more.0 ≡ from + suc more.0 = omega arith in
        (suc more.0, more.1, subst (λ n. is_stuck d n ≡ true) same more.2)

pub lost_tells : (d : Described) (s : Spot) → is_lost d s ≡ true → IsLost d s
lost_tells d s is =
    let it = lost_from d 0 s.marks (no_it (all_from (λ x m. not (is_unknown m && is_stuck d x)) 0 s.marks) is) in
    let same : 0 + it.0 ≡ it.0 = omega arith in
    record { field = it.0; lost = it.1; stuck = subst (λ n. is_stuck d n ≡ true) same it.2 }

get_own : (ms : List FieldMark) (x : ℕ) (m old : FieldMark) → slice_get ms x ≡ Some old → slice_get (slice_set ms x m) x ≡ Some m
get_own [] x m old there = absurd (cc there)
get_own (n ∷ ms) zero m old there = refl
get_own (n ∷ ms) (suc x) m old there = get_own ms x m old there

get_other : (ms : List FieldMark) (x y : ℕ) (m : FieldMark) → (x ≡ y → ⊥) → slice_get (slice_set ms x m) y ≡ slice_get ms y
get_other [] x y m apart = refl
get_other (n ∷ ms) zero zero m apart = absurd (apart refl)
get_other (n ∷ ms) zero (suc y) m apart = refl
get_other (n ∷ ms) (suc x) zero m apart = refl
get_other (n ∷ ms) (suc x) (suc y) m apart = get_other ms x y m (λ is. apart (ap suc is))

still_unknown : (e : Effect) → brings_back e ≡ false → mark_after e unknown ≡ unknown
still_unknown SetCaller is = absurd (cc is)
still_unknown (SetArg k) is = absurd (cc is)
still_unknown (AddArg k) is = refl
still_unknown SetRet is = refl
still_unknown AddRet is = refl
still_unknown Clear is = absurd (cc is)
still_unknown SubOne is = refl
still_unknown SubRet is = refl

-- it stays so through effects that don't bring it back
lost_stays : (es : List (ℕ × Effect)) (marks : List FieldMark) (x : ℕ) → slice_get marks x ≡ Some unknown → list_any (λ e. (e.0 == x) && brings_back e.1) es ≡ false → slice_get (marks_after es marks) x ≡ Some unknown
lost_stays [] marks x lost none = lost
lost_stays (e ∷ es) marks x lost none =
    at (e.0 == x) refl none (lost_stays es (slice_set marks e.0 (mark_after e.1 (mark_at marks e.0))) x)
  where
    at : (b : Bool) → (e.0 == x) ≡ b → ((b && brings_back e.1) || list_any (λ o. (o.0 == x) && brings_back o.1) es) ≡ false
        → (slice_get (slice_set marks e.0 (mark_after e.1 (mark_at marks e.0))) x ≡ Some unknown → list_any (λ o. (o.0 == x) && brings_back o.1) es ≡ false
        → slice_get (marks_after es (slice_set marks e.0 (mark_after e.1 (mark_at marks e.0)))) x ≡ Some unknown)
        → slice_get (marks_after es (slice_set marks e.0 (mark_after e.1 (mark_at marks e.0)))) x ≡ Some unknown
    at true is none rest =
        let one = same_of e.0 x is in
        let parts = neither (brings_back e.1) (list_any (λ o. (o.0 == x) && brings_back o.1) es) none in
        let old : mark_at marks e.0 ≡ unknown = ap (λ y. unwrap_or (slice_get marks y) unset) one ∙ ap (λ o. unwrap_or o unset) lost in
        let new : mark_after e.1 (mark_at marks e.0) ≡ unknown = ap (mark_after e.1) old ∙ still_unknown e.1 parts.0 in
        rest (ap (λ y. slice_get (slice_set marks y (mark_after e.1 (mark_at marks e.0))) x) one ∙ get_own marks x (mark_after e.1 (mark_at marks e.0)) unknown lost ∙ ap Some new) parts.1
    at false is none rest = rest (get_other marks e.0 x (mark_after e.1 (mark_at marks e.0)) (apart_of e.0 x is) ∙ lost) none

-- a step to where a field was lost leads to where it still is
pub lost_on : (d : Described) (s : Spot) (f : ℕ) → IsLost d s → has_pair d.facts.steps s.state f ≡ true → IsLost d (next_spot d.facts f s)
lost_on d s f lost pair =
    let none = no_it (list_any (λ e. (e.0 == lost.field) && brings_back e.1) (fun_at d.facts.funs f).effects)
    (pair_passes (λ p. not (list_any (λ e. (e.0 == lost.field) && brings_back e.1) (fun_at d.facts.funs p.1).effects)) d.facts.steps lost.stuck s.state f pair) in
    record { field = lost.field; lost = lost_stays (fun_at d.facts.funs f).effects s.marks lost.field lost.lost none; stuck = lost.stuck }

-- no walk that has lost a field restores a row
pub lost_never : (marks : List FieldMark) (set : List Bool) (x : ℕ) → slice_get marks x ≡ Some unknown → restores_fields marks set ≡ true → ⊥
lost_never [] set x lost is = cc lost
lost_never (m ∷ marks) [] x lost is = cc is
lost_never (m ∷ marks) (b ∷ set) zero lost is =
    let one : m ≡ unknown = cc lost in
    let none : restores_fields (unknown ∷ marks) (b ∷ set) ≡ true = subst (λ x. restores_fields (x ∷ marks) (b ∷ set) ≡ true) one is in
    cc none
lost_never (m ∷ marks) (b ∷ set) (suc x) lost is = lost_never marks set x lost (both_true _ (restores_fields marks set) is).1

-- ---- lists of spots

among_right : (s : Spot) (xs ys : List Spot) → is_among s ys ≡ true → is_among s (xs ++ ys) ≡ true
among_right s [] ys is = is
among_right s (x ∷ xs) ys is = ap (λ b. same_spot s x || b) (among_right s xs ys is) ∙ or_true (same_spot s x)

among_left : (s : Spot) (xs ys : List Spot) → is_among s xs ≡ true → is_among s (xs ++ ys) ≡ true
among_left s [] ys is = absurd (cc is)
among_left s (x ∷ xs) ys is = elim (one_of (same_spot s x) (is_among s xs) is) [
  | first this ↦ ap (λ b. b || is_among s (xs ++ ys)) this
  | second later ↦ ap (λ b. same_spot s x || b) (among_left s xs ys later) ∙ or_true (same_spot s x)
]

add_has : (spots : List Spot) (s : Spot) → is_among s (add_spot spots s) ≡ true
add_has spots s = at (is_among s spots) refl
  where
    at : (b : Bool) → is_among s spots ≡ b → is_among s (cond b spots (spots ++ s ∷ [])) ≡ true
    at true is = is
    at false is = among_right s spots (s ∷ []) (ap (λ b. b || false) (own_spot s))

add_keeps : (spots : List Spot) (s t : Spot) → is_among t spots ≡ true → is_among t (add_spot spots s) ≡ true
add_keeps spots s t is = at (is_among s spots)
  where
    at : (b : Bool) → is_among t (cond b spots (spots ++ s ∷ [])) ≡ true
    at true = is
    at false = among_left t spots (s ∷ []) is

adds_keep : (more spots : List Spot) (t : Spot) → is_among t spots ≡ true → is_among t (add_spots spots more) ≡ true
adds_keep [] spots t is = is
adds_keep (s ∷ more) spots t is = adds_keep more (add_spot spots s) t (add_keeps spots s t is)

adds_have : (more spots : List Spot) (t : Spot) → is_among t more ≡ true → is_among t (add_spots spots more) ≡ true
adds_have [] spots t is = absurd (cc is)
adds_have (s ∷ more) spots t is = elim (one_of (same_spot t s) (is_among t more) is) [
  | first this ↦ adds_keep more (add_spot spots s) t (subst (λ x. is_among x (add_spot spots s) ≡ true) (spot_is t s this) (add_has spots s))
  | second later ↦ adds_have more (add_spot spots s) t later
]

flat_has : (f : Spot → List Spot) (spots : List Spot) (s t : Spot) → is_among s spots ≡ true → is_among t (f s) ≡ true → is_among t (flat_map f spots) ≡ true
flat_has f [] s t is has = absurd (cc is)
flat_has f (x ∷ spots) s t is has = elim (one_of (same_spot s x) (is_among s spots) is) [
  | first this ↦ among_left t (f x) (flat_map f spots) (subst (λ y. is_among t (f y) ≡ true) (sym (spot_is s x this)) has)
  | second later ↦ among_right t (f x) (flat_map f spots) (flat_has f spots s t later has)
]

-- ---- the steps of a walk

module _ (d : Described) where
  begins_from : (from : ℕ) (funs : List Fun) (k : ℕ) → k < length funs → (fun_at funs (suc k)).creation ≡ true → is_lost d (first_spot d.facts (from + k)) ≡ false → is_among (first_spot d.facts (from + k)) (begins d from funs) ≡ true
  begins_from from [] k low makes kept = absurd (omega (arith, low))
  begins_from from (f ∷ funs) zero low makes kept =
      let same : from + 0 ≡ from = omega arith in
      let out : is_lost d (first_spot d.facts from) ≡ false = ap (λ n. is_lost d (first_spot d.facts n)) (sym same) ∙ kept in
      ap (λ n. is_among (first_spot d.facts n) (begins d from (f ∷ funs))) same
      ∙ ap (λ b. is_among (first_spot d.facts from) (cond (b && not (is_lost d (first_spot d.facts from))) (first_spot d.facts from ∷ begins d (suc from) funs) (begins d (suc from) funs))) makes
      ∙ ap (λ b. is_among (first_spot d.facts from) (cond (not b) (first_spot d.facts from ∷ begins d (suc from) funs) (begins d (suc from) funs))) out
      ∙ ap (λ b. b || is_among (first_spot d.facts from) (begins d (suc from) funs)) (own_spot (first_spot d.facts from))
  begins_from from (f ∷ funs) (suc k) low makes kept =
      let same : suc from + k ≡ from + suc k = omega arith in
      at (f.creation && not (is_lost d (first_spot d.facts from)))
      (subst (λ n. is_among (first_spot d.facts n) (begins d (suc from) funs) ≡ true) same
      (begins_from (suc from) funs k (omega (arith, low)) makes (subst (λ n. is_lost d (first_spot d.facts n) ≡ false) (sym same) kept)))
    where
      at : (b : Bool) → is_among (first_spot d.facts (from + suc k)) (begins d (suc from) funs) ≡ true
          → is_among (first_spot d.facts (from + suc k)) (cond b (first_spot d.facts from ∷ begins d (suc from) funs) (begins d (suc from) funs)) ≡ true
      at true rest = ap (λ b. same_spot (first_spot d.facts (from + suc k)) (first_spot d.facts from) || b) rest ∙ or_true (same_spot (first_spot d.facts (from + suc k)) (first_spot d.facts from))
      at false rest = rest

  -- where a walk begins
  pub begin_among : (fun : ℕ) → 1 ≤ fun → fun ≤ length d.facts.funs → (fun_at d.facts.funs fun).creation ≡ true → is_lost d (first_spot d.facts fun) ≡ false → is_among (first_spot d.facts fun) (spots_within d 0) ≡ true
  begin_among zero low high makes kept = absurd (omega (arith, low))
  begin_among (suc k) low high makes kept =
      let same : 1 + k ≡ suc k = omega arith in
      adds_have (begins d 1 d.facts.funs) [] (first_spot d.facts (suc k))
      (subst (λ n. is_among (first_spot d.facts n) (begins d 1 d.facts.funs) ≡ true) same
      (begins_from 1 d.facts.funs k (omega (arith, high)) makes (subst (λ n. is_lost d (first_spot d.facts n) ≡ false) (sym same) kept)))

  nexts_from : (s : Spot) (f : ℕ) (steps : List (ℕ × ℕ)) → has_pair steps s.state f ≡ true → (fun_at d.facts.funs f).terminal ≡ false → is_lost d (next_spot d.facts f s) ≡ false
      → is_among (next_spot d.facts f s) (filter (λ t. not (is_lost d t)) (map (λ p. next_spot d.facts p.1 s) (filter (is_step d s) steps))) ≡ true
  nexts_from s f [] has goes kept = absurd (cc has)
  nexts_from s f (p ∷ steps) has goes kept = at (p.0 == s.state) (p.1 == f) refl refl has (λ later. nexts_from s f steps later goes kept)
    where
      skip : (b : Bool) → is_among (next_spot d.facts f s) (filter (λ t. not (is_lost d t)) (map (λ q. next_spot d.facts q.1 s) (filter (is_step d s) steps))) ≡ true
          → is_among (next_spot d.facts f s) (filter (λ t. not (is_lost d t)) (map (λ q. next_spot d.facts q.1 s) (cond b (p ∷ filter (is_step d s) steps) (filter (is_step d s) steps)))) ≡ true
      skip false rest = rest
      skip true rest = over (not (is_lost d (next_spot d.facts p.1 s)))
        where
          over : (b : Bool) → is_among (next_spot d.facts f s) (cond b (next_spot d.facts p.1 s ∷ filter (λ t. not (is_lost d t)) (map (λ q. next_spot d.facts q.1 s) (filter (is_step d s) steps)))
              (filter (λ t. not (is_lost d t)) (map (λ q. next_spot d.facts q.1 s) (filter (is_step d s) steps)))) ≡ true
          over true = ap (λ b. same_spot (next_spot d.facts f s) (next_spot d.facts p.1 s) || b) rest ∙ or_true (same_spot (next_spot d.facts f s) (next_spot d.facts p.1 s))
          over false = rest

      at : (a b : Bool) → (p.0 == s.state) ≡ a → (p.1 == f) ≡ b → ((a && b) || has_pair steps s.state f) ≡ true
          → (has_pair steps s.state f ≡ true → is_among (next_spot d.facts f s) (filter (λ t. not (is_lost d t)) (map (λ q. next_spot d.facts q.1 s) (filter (is_step d s) steps))) ≡ true)
          → is_among (next_spot d.facts f s) (filter (λ t. not (is_lost d t)) (map (λ q. next_spot d.facts q.1 s) (filter (is_step d s) (p ∷ steps)))) ≡ true
      at true true one two has rest =
          let same = same_of p.1 f two in
          let steps_so : is_step d s p ≡ true = ap (λ b. b && not (fun_at d.facts.funs p.1).terminal) one ∙ ap (λ n. not (fun_at d.facts.funs n).terminal) same ∙ ap not goes in
          let stays : not (is_lost d (next_spot d.facts p.1 s)) ≡ true = ap (λ n. not (is_lost d (next_spot d.facts n s))) same ∙ ap not kept in
          let here : same_spot (next_spot d.facts f s) (next_spot d.facts p.1 s) ≡ true = ap (λ n. same_spot (next_spot d.facts f s) (next_spot d.facts n s)) same ∙ own_spot (next_spot d.facts f s) in
          ap (λ b. is_among (next_spot d.facts f s) (filter (λ t. not (is_lost d t)) (map (λ q. next_spot d.facts q.1 s) (cond b (p ∷ filter (is_step d s) steps) (filter (is_step d s) steps))))) steps_so
          ∙ ap (λ b. is_among (next_spot d.facts f s) (cond b (next_spot d.facts p.1 s ∷ filter (λ t. not (is_lost d t)) (map (λ q. next_spot d.facts q.1 s) (filter (is_step d s) steps)))
          (filter (λ t. not (is_lost d t)) (map (λ q. next_spot d.facts q.1 s) (filter (is_step d s) steps))))) stays
          ∙ ap (λ b. b || is_among (next_spot d.facts f s) (filter (λ t. not (is_lost d t)) (map (λ q. next_spot d.facts q.1 s) (filter (is_step d s) steps)))) here
      at true false one two has rest = skip (is_step d s p) (rest has)
      at false b one two has rest = skip (is_step d s p) (rest has)

  -- where it goes on to
  pub next_among : (n : ℕ) (s : Spot) (f : ℕ) → is_among s (spots_within d n) ≡ true → has_pair d.facts.steps s.state f ≡ true → (fun_at d.facts.funs f).terminal ≡ false → is_lost d (next_spot d.facts f s) ≡ false
      → is_among (next_spot d.facts f s) (spots_within d (suc n)) ≡ true
  next_among n s f is pair goes kept =
      adds_have (flat_map (nexts d) (spots_within d n)) (spots_within d n) (next_spot d.facts f s)
      (flat_has (nexts d) (spots_within d n) s (next_spot d.facts f s) is (nexts_from s f d.facts.steps pair goes kept))

  -- what fewer calls lead to, more do
  pub more_within : (n m : ℕ) (s : Spot) → n ≤ m → is_among s (spots_within d n) ≡ true → is_among s (spots_within d m) ≡ true
  more_within n zero s low is = let none : n ≡ 0 = omega (arith, low) in subst (λ k. is_among s (spots_within d k) ≡ true) none is
  more_within n (suc m) s low is = elim (eqb_tells n (suc m)) [
    | inl same ↦ subst (λ k. is_among s (spots_within d k) ≡ true) same.1 is
    | inr apart ↦ let no = apart.1 in adds_keep (flat_map (nexts d) (spots_within d m)) (spots_within d m) s (more_within n m s (omega (arith, low, no)) is)
  ]

  -- a spot is listed, or a field is lost for good there
  abbrev pub IsKnown : ℕ → Spot → Type 0
  IsKnown n s = (is_among s (spots_within d n) ≡ true) ⊎ IsLost d s

  pub known_by : (n : ℕ) (s : Spot) → (is_lost d s ≡ false → is_among s (spots_within d n) ≡ true) → IsKnown n s
  known_by n s there = at (is_lost d s) refl
    where
      at : (b : Bool) → is_lost d s ≡ b → IsKnown n s
      at true is = inr (lost_tells d s is)
      at false is = inl (there is)
