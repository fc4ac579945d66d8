-- States of triples, and whether these have walks.
use Rattle.std.proofs.Common.{◌≡◌, ◌⊎◌, ℕ, suc, ◌+◌, ◌<◌, ◌≤◌, Bool, true, false, List, [], ◌∷◌, ◌++◌, None, Some, length, map, take, get_or, refl, sym, ◌∙◌, ap, subst, inl, inr, arith}
use Rattle.std.specs.Prelude.{◌↔◌, ◌==◌, if◌then◌else◌, is_some, IfNone, IfSome}
use Rattle.std.specs.declared.option.Option.{Option}
use Rattle.std.specs.List.{Contains}
use Rattle.std.proofs.Math.ListN.{set}
use Rattle.std.proofs.lemmas.Bool.{and_parts, cases_Bool}
use Rattle.std.proofs.lemmas.List.{length-set, take_all, take_more}
use Rattle.std.proofs.lemmas.List.Elements.{Contains-append_cases, Contains-append_left, Contains-append_right}
use Rattle.sg_check_statements.specs.sg_facts.declared.shape.Effect.{Effect}
use Rattle.sg_check_statements.specs.sg_facts.Facts.{Field, fun_at}
use Rattle.sg_check_statements.specs.sg_facts.Fields.{number_of}
use Rattle.sg_check_statements.specs.sg_facts.Interface.{Declared}
use Rattle.sg_check_statements.specs.sg_facts.Walks.{FieldMark, IsReachable, IsWalkOf, Spot, begin_of, first_spot, made, marks_after, most_calls, moved, next_spot, restores, restores_fields, spot_from, unset}
use Rattle.sg_check_statements.specs.sg_facts.Inside.Walking.{may_begin, may_go_on, none_set, restores_at, restores_field}
use Rattle.sg_walk.specs.declared.place.Triple.{Triple}
use Rattle.std.proofs.lemmas.Option.{slice_get-get_or}
use Rattle.sg_walk.proofs.ReachedStates.Closure.{there}
use Rattle.sg_walk.proofs.ReachedStates.Marks.{itself, only}
use Rattle.sg_walk.proofs.ReachedStates.Sets.{length-led}
use Rattle.sg_check_statements.specs.Flaws.{HasNoWalk}
use Rattle.sg_check.specs.Inside.Candidates.{HasWalks}
use Rattle.sg_check.specs.Inside.Numbers.{GainsNumber, has_number}
use Rattle.sg_check.specs.Inside.Reached.{AreStates, AreTriples}
use Rattle.sg_check.specs.Inside.Stuck.{AreStuck, HasSought, HasWalk, TellsWalk, TripleWalk}
use Rattle.sg_check.proofs.Calls.{number_same, or_cases, or_left, or_right, same_number}

-- a set keeps what it has, and gains the one
kept_number : (old new : List ℕ) (n other : ℕ) → GainsNumber old new n → has_number old other ≡ true → has_number new other ≡ true
kept_number old new n other gains has = gains other ∙ or_left (has_number old other) (n == other) has

gained_number : (old new : List ℕ) (n other : ℕ) → GainsNumber old new n → n ≡ other → has_number new other ≡ true
gained_number old new n other gains is = gains other ∙ or_right (has_number old other) (n == other) (number_same n other is)

-- a triple has a walk where one stands at it among the least
pub tells_walk : (i : Declared) (t : Triple) (found : Option (List ℕ)) (told : Bool) → told ≡ is_some found
    → IfSome found (λ walk. (set : List Bool) × (number_of set ≡ t.mask) × IsWalkOf i walk t.made t.state set)
    → IfNone found ((walk : List ℕ) (set : List Bool) → begin_of walk ≡ t.made → length walk ≤ most_calls → number_of set ≡ t.mask → restores i walk t.state set ≡ false)
    → TellsWalk i t told
tells_walk i t (Some walk) told same some none =
    subst (TellsWalk i t) (sym same) (some.0, some.1, (walk, some.2.begins, some.2.restored, some.2.short))
tells_walk i t None told same some none = subst (TellsWalk i t) (sym same) none

module _ (triples : List Triple) (k : ℕ) (d : Triple) (within : k < length triples) where
  longer : take (k + 1) triples ≡ take k triples ++ get_or triples k d ∷ []
  longer = take_more triples k d within

  earlier : (t : Triple) → Contains (take k triples) t → Contains (take (k + 1) triples) t
  earlier t has = subst (λ l. Contains l t) (sym longer) (Contains-append_left (take k triples) (get_or triples k d ∷ []) t has)

  latest : Contains (take (k + 1) triples) (get_or triples k d)
  latest = subst (λ l. Contains l (get_or triples k d)) (sym longer) (Contains-append_right (take k triples) (get_or triples k d ∷ []) (get_or triples k d) (itself (get_or triples k d)))

  either_one : (t : Triple) → Contains (take (k + 1) triples) t → Contains (take k triples) t ⊎ (t ≡ get_or triples k d)
  either_one t has = elim (Contains-append_cases (take k triples) (get_or triples k d ∷ []) t (subst (λ l. Contains l t) longer has)) [
    | inl before ↦ inl before
    | inr last ↦ inr (only (get_or triples k d) t last)
  ]

  pub inside : Contains triples (get_or triples k d)
  inside = there triples k (get_or triples k d) (slice_get-get_or triples k d within)

  -- ---- states

  pub states_more : (old new : List ℕ) → AreStates (take k triples) old → GainsNumber old new (get_or triples k d).state → AreStates (take (k + 1) triples) new
  states_more old new are gains state = (
    λ has. elim (or_cases (has_number old state) ((get_or triples k d).state == state) (sym (gains state) ∙ has)) [
      | inl before ↦ let found = (are state).0 before in (found.0, earlier found.0 found.1, found.2)
      | inr here ↦ (get_or triples k d, latest, same_number (get_or triples k d).state state here)
    ],
    λ (t, has, is). elim (either_one t has) [
      | inl before ↦ kept_number old new (get_or triples k d).state state gains ((are state).1 (t, before, is))
      | inr same ↦ gained_number old new (get_or triples k d).state state gains (ap (λ x. x.state) (sym same) ∙ is)
    ],
  )

  -- ---- walks

  module _ (i : Declared) (all : AreTriples i triples) (old : List ℕ) (sought : HasSought i (take k triples) old) where
    pub sought_stuck : (new : List ℕ) (told : Bool) → told ≡ false → TellsWalk i (get_or triples k d) told → GainsNumber old new (get_or triples k d).state → HasSought i (take (k + 1) triples) new
    sought_stuck new told isn't none' gains =
        let none : TellsWalk i (get_or triples k d) false = subst (TellsWalk i (get_or triples k d)) isn't none' in
        let reached = all.only (get_or triples k d) inside in
        let stuck : HasNoWalk i (get_or triples k d).state = record {
          made = (get_or triples k d).made;
          set = reached.0;
          reached = reached.2;
          none = λ walk begins short restored. let no : restores i walk (get_or triples k d).state reached.0 ≡ false = none walk reached.0 begins short reached.1 in cc (restored, no);
        } in
        record {
          only = λ state has. elim (or_cases (has_number old state) ((get_or triples k d).state == state) (sym (gains state) ∙ has)) [
            | inl before ↦ sought.only state before
            | inr here ↦ subst (HasNoWalk i) (same_number (get_or triples k d).state state here) stuck
          ];
          others = λ t has. elim (either_one t has) [
            | inl before ↦ elim (sought.others t before) [
              | inl has ↦ inl (kept_number old new (get_or triples k d).state t.state gains has)
              | inr walk ↦ inr walk
            ]
            | inr same ↦ inl (gained_number old new (get_or triples k d).state t.state gains (ap (λ x. x.state) (sym same)))
          ];
        }

    pub sought_walk : (told : Bool) → told ≡ true → TellsWalk i (get_or triples k d) told → HasSought i (take (k + 1) triples) old
    sought_walk told is walk' =
        let walk : TripleWalk i (get_or triples k d) = subst (TellsWalk i (get_or triples k d)) is walk' in
        record {
          only = sought.only;
          others = λ t has. elim (either_one t has) [
            | inl before ↦ sought.others t before
            | inr same ↦ inr (subst (TripleWalk i) (sym same) walk)
          ];
        }

-- ---- sets of fields are as long as rows

length-marked : (effects : List (ℕ × Effect)) (marks : List FieldMark) → length (marks_after effects marks) ≡ length marks
length-marked [] marks = refl
length-marked (e ∷ effects) marks = length-marked effects _ ∙ length-set marks e.0 _

length-none : (fields : List Field) → length (none_set fields) ≡ length fields
length-none [] = refl
length-none (f ∷ fields) = ap suc (length-none fields)

length-unset : (fields : List Field) → length (map (λ f. unset) fields) ≡ length fields
length-unset [] = refl
length-unset (f ∷ fields) = ap suc (length-unset fields)

length-restored : (marks : List FieldMark) (set : List Bool) → restores_fields marks set ≡ true → length set ≡ length marks
length-restored [] [] is = refl
length-restored [] (b ∷ set) is = absurd (cc is)
length-restored (m ∷ marks) [] is = absurd (cc is)
length-restored (m ∷ marks) (b ∷ set) is = ap suc (length-restored marks set (and_parts (restores_field m b) (restores_fields marks set) is).1)

module _ (i : Declared) (state : ℕ) (set : List Bool) where
  length-from : (s : Spot) (walk : List ℕ) → restores_at (spot_from i s walk) state set ≡ true → length set ≡ length s.marks
  length-from s [] is = length-restored s.marks set (and_parts (s.state == state) (restores_fields s.marks set) is).1
  length-from s (fun ∷ walk) is = elim (cases_Bool (may_go_on i s fun)) [
    | inl goes ↦
        let rest : restores_at (spot_from i (next_spot i.facts fun s) walk) state set ≡ true =
        ap (λ b. restores_at (if b then spot_from i (next_spot i.facts fun s) walk else None) state set) (sym goes) ∙ is in
        length-from (next_spot i.facts fun s) walk rest ∙ length-marked (fun_at i.facts.funs fun).effects s.marks
    | inr stays ↦
        let no : false ≡ true = ap (λ b. restores_at (if b then spot_from i (next_spot i.facts fun s) walk else None) state set) (sym stays) ∙ is in
        absurd (cc no)
  ]

  length-begun : (fun : ℕ) (walk : List ℕ) (b : Bool) → restores_at (if b then spot_from i (first_spot i.facts fun) walk else None) state set ≡ true → length set ≡ length i.facts.fields
  length-begun fun walk true is =
      length-from (first_spot i.facts fun) walk is ∙ length-marked (fun_at i.facts.funs fun).effects (map (λ f. unset) i.facts.fields) ∙ length-unset i.facts.fields
  length-begun fun walk false is = absurd (cc is)

  length-walked : (walk : List ℕ) → restores i walk state set ≡ true → length set ≡ length i.facts.fields
  length-walked [] is = absurd (cc is)
  length-walked (fun ∷ walk) is = length-begun fun walk (may_begin i fun) is

length-reached : (i : Declared) (by state : ℕ) (set : List Bool) → IsReachable i by state set → length set ≡ length i.facts.fields
length-reached i by state set (made fun set' declared creation leads) = length-led _ 0 (none_set i.facts.fields) set' leads ∙ length-none i.facts.fields
length-reached i by state set (moved by' fun state' old new reached moves goes_on leads) = length-led _ 0 old new leads ∙ length-reached i by' state' old reached

-- a set of so many fields is that of its number
same_set : (xs ys : List Bool) → length xs ≡ length ys → number_of xs ≡ number_of ys → xs ≡ ys
same_set [] [] l n = refl
same_set [] (y ∷ ys) l n = absurd (omega (arith, l))
same_set (x ∷ xs) [] l n = absurd (omega (arith, l))
same_set (true ∷ xs) (true ∷ ys) l n = ap (λ z. true ∷ z) (same_set xs ys (omega (arith, l)) (omega (arith, n)))
same_set (false ∷ xs) (false ∷ ys) l n = ap (λ z. false ∷ z) (same_set xs ys (omega (arith, l)) (omega (arith, n)))
same_set (true ∷ xs) (false ∷ ys) l n = absurd (omega (arith, n))
same_set (false ∷ xs) (true ∷ ys) l n = absurd (omega (arith, n))

-- a set that a walk restores, and one that descriptors come to, are one where they have one number
pub walked_set : (i : Declared) (by state : ℕ) (set walked : List Bool) (walk : List ℕ) → IsReachable i by state set → restores i walk state walked ≡ true → number_of walked ≡ number_of set
    → walked ≡ set
walked_set i by state set walked walk reached restored number =
    same_set walked set (length-walked i state walked walk restored ∙ sym (length-reached i by state set reached)) number

-- all triples were looked at
pub all_sought : (i : Declared) (triples : List Triple) (states : List ℕ) (n : ℕ) → AreTriples i triples → length triples ≤ n → HasSought i (take n triples) states → AreStuck i states
all_sought i triples states n all enough sought = record {
  only = sought.only;
  others = λ by state set reached.
      let t : Triple = record { made = by; state = state; mask = number_of set } in
      elim (sought.others t (subst (λ l. Contains l t) (sym (take_all n triples enough)) (all.all t (set, refl, reached)))) [
        | inl has ↦ inl has
        | inr walked ↦
            let same : walked.0 ≡ set = walked_set i by state set walked.0 walked.2.0 reached walked.2.2 walked.1 in
            inr (subst (HasWalk i by state) same walked.2)
      ];
}

-- so it is known of each state
pub walks_known : (i : Declared) (states : List ℕ) → AreStuck i states → HasWalks i
walks_known i states stuck = record {
  known = λ state. elim (cases_Bool (has_number states state)) [
    | inl is ↦ inl (stuck.only state is)
    | inr isn't ↦ inr (λ no. elim (stuck.others no.made state no.set no.reached) [
      | inl is ↦ cc (is, isn't)
      | inr walk ↦ no.none walk.0 walk.1 walk.3 walk.2
    ])
  ];
  walks = λ by state set reached walked. elim (stuck.others by state set reached) [
    | inl is ↦ absurd (walked (stuck.only state is))
    | inr walk ↦ walk
  ];
}

pub stuck_same : (i : Declared) (states : List ℕ) → AreStuck i states → (state : ℕ) → (has_number states state ≡ true) ↔ HasNoWalk i state
stuck_same i states stuck state = (
  stuck.only state,
  λ no. elim (stuck.others no.made state no.set no.reached) [
    | inl is ↦ is
    | inr walk ↦ absurd (no.none walk.0 walk.1 walk.3 walk.2)
  ],
)
