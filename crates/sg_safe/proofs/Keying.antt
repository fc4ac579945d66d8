-- Spots are looked up by their keys.
use Rattle.std.proofs.Common.{◌≡◌, ℕ, ◌⊎◌, Bool, true, false, cond, List, [], ◌∷◌, ◌++◌, get_or, length, take, drop, map, refl, sym, ◌∙◌, ap, subst, inl, inr, arith}
use Rattle.std.specs.Prelude.{◌↔◌, ◌==◌, ◌||◌, if◌then◌else◌, IsTrue, replicate}
use Rattle.std.specs.List.{Contains, list_any}
use Rattle.std.specs.Cmp.Lexicographic.{pointwise}
use Rattle.std.proofs.lemmas.Bool.{cases_Bool, and_parts}
use Rattle.std.proofs.lemmas.Bool.Decides.{nat_tests}
use Rattle.std.proofs.lemmas.List.{append_cancel_right, map_push}
use Rattle.std.proofs.lemmas.List.Folds.{list_any-append, list_any_at}
use Rattle.std.proofs.lemmas.List.Elements.{Contains-append_right}
use Rattle.sg_known.specs.sg_facts.Walks.{FieldMark, Spot as Place, unset, good, unknown}
use Rattle.sg_known.specs.sg_walk.declared.spot.FieldState.{FieldState}
use Rattle.sg_known.specs.sg_walk.declared.spot.FieldState.TheVariants.{Unset, Good, Unknown}
use Rattle.sg_known.specs.sg_walk.declared.spot.Spot.{Spot}
use Rattle.sg_known.specs.sg_walk.contracts.spot.FieldStatePartialEq.TheImpl.{eq-value as mark-eq}
use Rattle.sg_known.specs.sg_walk.contracts.spot.SpotPartialEq.TheImpl.{eq-value}
use Rattle.sg_known.specs.sg_walk.Marks.{known_of, shown_marks}
use Rattle.sg_known.specs.sg_described.Described.{Described}
use Rattle.sg_known.specs.sg_described.Walking.{add_spot, is_lost, same_spot}
use Rattle.sg_known.proofs.sg_described.Keeping.Basics.{first, one_of, or_true, second}
use Rattle.sg_known.proofs.sg_described.Keeping.Spots.{own_spot, spot_is}
use Rattle.sg_safe.specs.declared.spots.Found.{Found}
use Rattle.sg_safe.specs.declared.spots.Reached.{Reached}
use Rattle.sg_safe.specs.Inside.Keys.{GainsSpot, keyed}
use Rattle.sg_safe.specs.Inside.Routes.{HasKeys, add_unlost, place_in}
use Rattle.sg_safe.specs.Inside.Seen.{shown, spot_in}

-- ---- spots told apart

same_mark : (a b : FieldState) → mark-eq.it a b ≡ true → a ≡ b
same_mark Unset Unset same = refl
same_mark Unset Good same = cc same
same_mark Unset Unknown same = cc same
same_mark Good Unset same = cc same
same_mark Good Good same = refl
same_mark Good Unknown same = cc same
same_mark Unknown Unset same = cc same
same_mark Unknown Good same = cc same
same_mark Unknown Unknown same = refl

mark_itself : (a : FieldState) → mark-eq.it a a ≡ true
mark_itself Unset = refl
mark_itself Good = refl
mark_itself Unknown = refl

same_marks : (xs ys : List FieldState) → pointwise mark-eq.it xs ys ≡ true → xs ≡ ys
same_marks [] [] same = refl
same_marks [] (y ∷ ys) same = absurd (cc same)
same_marks (x ∷ xs) [] same = absurd (cc same)
same_marks (x ∷ xs) (y ∷ ys) same =
    let parts = and_parts (mark-eq.it x y) (pointwise mark-eq.it xs ys) same in
    let one : x ≡ y = same_mark x y parts.0 in
    let rest : xs ≡ ys = same_marks xs ys parts.1 in
    cc

marks_themselves : (xs : List FieldState) → pointwise mark-eq.it xs xs ≡ true
marks_themselves [] = refl
marks_themselves (x ∷ xs) = rw (mark_itself x) (marks_themselves xs)

same_parts : (a b : Spot) → a.state ≡ b.state → a.marks ≡ b.marks → a ≡ b
same_parts a b state marks = rw (state, marks)

told_same : (a b : Spot) → eq-value.it a b ≡ true → a ≡ b
told_same a b same =
    let parts = and_parts (a.state == b.state) (pointwise mark-eq.it a.marks b.marks) same in
    same_parts a b (grind (arith, nat_tests, parts.0)) (same_marks a.marks b.marks parts.1)

spot_itself : (a : Spot) → eq-value.it a a ≡ true
spot_itself a = rw (marks_themselves a.marks) (grind (arith, nat_tests))

-- ---- lists of spots

is_among : (xs : List Spot) (a : Spot) → list_any (eq-value.it a) xs ≡ true → Contains xs a
is_among [] a found = absurd (cc found)
is_among (x ∷ xs) a found = elim (cases_Bool (eq-value.it a x)) [
  | inl here ↦ (0, omega arith, sym (told_same a x here))
  | inr elsewhere ↦ Contains-append_right (x ∷ []) xs a (is_among xs a (rw elsewhere at found))
]

is_found : (xs : List Spot) (a : Spot) → Contains xs a → list_any (eq-value.it a) xs ≡ true
is_found xs a there =
    let at : eq-value.it a (get_or xs there.0 a) ≡ true = rw there.2 (spot_itself a) in
    list_any_at (eq-value.it a) xs there.0 a there.1 at

pub has_it : (xs now : List Spot) (a : Spot) (r : Bool) → r ≡ list_any (eq-value.it a) xs → xs ≡ now → IsTrue r ↔ Contains now a
has_it xs now a r is same = (
  λ t. subst (λ ks. Contains ks a) same (is_among xs a (sym is ∙ t)),
  λ h. is ∙ is_found xs a (subst (λ ks. Contains ks a) (sym same) h),
)

-- whether a spot is the new one
is_new : (old new : List Spot) (a q : Spot) → list_any (eq-value.it q) new ≡ (if eq-value.it a q then true else list_any (eq-value.it q) old)
    → Contains new q ↔ (Contains old q ⊎ (q ≡ a))
is_new old new a q is = elim (cases_Bool (eq-value.it a q)) [
  | inl same ↦
      let one : a ≡ q = told_same a q same in
      let there : list_any (eq-value.it q) new ≡ true = rw same at is in
      (λ h. inr (sym one), λ h. is_among new q there)
  | inr apart ↦
      let kept : list_any (eq-value.it q) new ≡ list_any (eq-value.it q) old = rw apart at is in (
        λ h. inl (is_among old q (sym kept ∙ is_found new q h)),
        λ h. elim h [
          | inl there ↦ is_among new q (kept ∙ is_found old q there)
          | inr e ↦
              let itself : eq-value.it a q ≡ true = subst (λ x. eq-value.it a x ≡ true) (sym e) (spot_itself a) in
              absurd (cc (apart, itself))
        ],
      )
]

pub gains : (old now new : List Spot) (a : Spot) → ((q : Spot) → list_any (eq-value.it q) new ≡ (if eq-value.it a q then true else list_any (eq-value.it q) old))
    → old ≡ now → GainsSpot now new a
gains old now new a is same = subst (λ ks. GainsSpot ks new a) same (λ q. is_new old new a q (is q))

-- ---- keys

abbrev mark_back : FieldMark → FieldState
mark_back m = elim m [ unset ↦ Unset | good ↦ Good | unknown ↦ Unknown ]

back_again : (marks : List FieldState) → map mark_back (map known_of marks) ≡ marks
back_again [] = refl
back_again (Unset ∷ marks) = ap (λ l. Unset ∷ l) (back_again marks)
back_again (Good ∷ marks) = ap (λ l. Good ∷ l) (back_again marks)
back_again (Unknown ∷ marks) = ap (λ l. Unknown ∷ l) (back_again marks)

same_known : (xs ys : List FieldState) → map known_of xs ≡ map known_of ys → xs ≡ ys
same_known xs ys same = sym (back_again xs) ∙ ap (map mark_back) same ∙ back_again ys

-- spots with one key are the same
one_key : (n : ℕ) (s t : Spot) → keyed n s ≡ keyed n t → same_spot (spot_in n s) (spot_in n t) ≡ true
one_key n s t is =
    let state : s.state ≡ t.state = ap (λ k. k.state) is in
    let marks : take n s.marks ≡ take n t.marks = append_cancel_right (take n s.marks) (take n t.marks) (drop n (replicate 8 Unset)) (ap (λ k. k.marks) is) in
    let same : spot_in n s ≡ spot_in n t =
    ap (λ m. let p : Place = record { state = m; marks = shown_marks n s.marks } in p) state
    ∙ ap (λ l. let p : Place = record { state = t.state; marks = map known_of l } in p) marks in
    ap (λ p. same_spot (spot_in n s) p) (sym same) ∙ own_spot (spot_in n s)

-- and the other way round
key_of_same : (n : ℕ) (s t : Spot) → same_spot (spot_in n s) (spot_in n t) ≡ true → keyed n s ≡ keyed n t
key_of_same n s t is =
    let same : spot_in n t ≡ spot_in n s = spot_is (spot_in n s) (spot_in n t) is in
    let state : s.state ≡ t.state = sym (ap (λ p. p.state) same) in
    let marks : take n s.marks ≡ take n t.marks = same_known (take n s.marks) (take n t.marks) (sym (ap (λ p. p.marks) same)) in
    ap (λ m. let k : Spot = record { state = m; marks = take n s.marks ++ drop n (replicate 8 Unset) } in k) state
    ∙ ap (λ l. let k : Spot = record { state = t.state; marks = l ++ drop n (replicate 8 Unset) } in k) marks

-- ---- what was found

pub none_found : (d : Described) (f : Found) → f.list ≡ [] → f.keys ≡ [] → HasKeys d f
none_found d f list keys = record {
  same = λ s. (
    λ there. let in' : Contains [] (keyed (length d.facts.fields) s) = subst (λ ks. Contains ks (keyed (length d.facts.fields) s)) keys there in absurd (omega (arith, in'.1)),
    λ any. let in' : list_any (same_spot (shown d s)) (map (place_in d) []) ≡ true = subst (λ l. list_any (same_spot (shown d s)) (map (place_in d) l) ≡ true) list any in absurd (cc in'),
  );
}

both_ways : (a b : Bool) → (a ≡ true → b ≡ true) → (b ≡ true → a ≡ true) → a ≡ b
both_ways true b to from = sym (to refl)
both_ways false true to from = from refl
both_ways false false to from = refl

-- a spot is found by its key
pub found_by : (d : Described) (f : Found) (r : Reached) (key : Spot) (has : Bool) → HasKeys d f → key ≡ keyed (length d.facts.fields) r.spot → IsTrue has ↔ Contains f.keys key
    → has ≡ list_any (same_spot (place_in d r)) (map (place_in d) f.list)
found_by d f r key has keys is looks =
    let same = keys.same r.spot in
    both_ways has (list_any (same_spot (place_in d r)) (map (place_in d) f.list)) (λ t. same.0 (subst (Contains f.keys) is (looks.0 t))) (λ t. looks.1 (subst (Contains f.keys) (sym is) (same.1 t)))

any_more : (d : Described) (s : Spot) (old new : List Reached) (r : Reached) → new ≡ old ++ r ∷ []
    → list_any (same_spot (shown d s)) (map (place_in d) new) ≡ (list_any (same_spot (shown d s)) (map (place_in d) old) || (same_spot (shown d s) (place_in d r) || false))
any_more d s old new r is =
    ap (λ l. list_any (same_spot (shown d s)) (map (place_in d) l)) is ∙ ap (list_any (same_spot (shown d s))) (map_push (place_in d) old r)
    ∙ list_any-append (same_spot (shown d s)) (map (place_in d) old) (place_in d r ∷ [])

or_none : (b : Bool) → (b || false) ≡ true → b ≡ true
or_none true is = refl
or_none false is = absurd (cc is)

-- with a spot more, in the list and by its key
pub found_more : (d : Described) (old new : Found) (r : Reached) (key : Spot) → HasKeys d old → key ≡ keyed (length d.facts.fields) r.spot → GainsSpot old.keys new.keys key
    → new.list ≡ old.list ++ r ∷ [] → HasKeys d new
found_more d old new r key keys is gained more = record {
  same = λ s.
      let n = length d.facts.fields in
      let before = list_any (same_spot (shown d s)) (map (place_in d) old.list) in
      let own = same_spot (shown d s) (place_in d r) in
      let any = any_more d s old.list new.list r more in (
        λ there. elim ((gained (keyed n s)).0 there) [
          | inl old_one ↦ any ∙ ap (λ b. b || (own || false)) ((keys.same s).0 old_one)
          | inr new_one ↦ any ∙ ap (λ b. before || (b || false)) (one_key n s r.spot (new_one ∙ is)) ∙ or_true before
        ],
        λ found. (gained (keyed n s)).1 (elim (one_of before (own || false) (sym any ∙ found)) [
          | first old_one ↦ inl ((keys.same s).1 old_one)
          | second new_one ↦ inr (key_of_same n s r.spot (or_none own new_one) ∙ sym is)
        ]),
      );
}

-- ---- one spot is added, or none

pub listed_one : (d : Described) (old : List Place) (s : Place) (has : Bool) → has ≡ list_any (same_spot s) old → has ≡ true → old ≡ add_unlost d old s
listed_one d old s has is so = at (is_lost d s)
  where
    at : (b : Bool) → old ≡ cond b old (add_spot old s)
    at true = refl
    at false = ap (λ b. cond b old (old ++ s ∷ [])) (sym so ∙ is)

pub lost_one : (d : Described) (old : List Place) (s : Place) (lost : Bool) → lost ≡ is_lost d s → lost ≡ true → old ≡ add_unlost d old s
lost_one d old s lost is so = ap (λ b. cond b old (add_spot old s)) (sym so ∙ is)

pub new_one : (d : Described) (old new : List Reached) (r : Reached) (has lost : Bool) → has ≡ list_any (same_spot (place_in d r)) (map (place_in d) old) → has ≡ false
    → lost ≡ is_lost d (place_in d r) → lost ≡ false → new ≡ old ++ r ∷ [] → map (place_in d) new ≡ add_unlost d (map (place_in d) old) (place_in d r)
new_one d old new r has lost is isn't lost_is kept more =
    let all = map (place_in d) old in
    ap (map (place_in d)) more ∙ map_push (place_in d) old r
    ∙ ap (λ b. cond b all (all ++ place_in d r ∷ [])) (sym isn't ∙ is) ∙ ap (λ b. cond b all (add_spot all (place_in d r))) (sym kept ∙ lost_is)
