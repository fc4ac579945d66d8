-- The first that no walk restores, one triple after the other.
use Rattle.std.proofs.Common.{◌≡◌, ◌⊎◌, ℕ, ◌+◌, ◌<◌, ◌≤◌, Bool, true, false, List, [], ◌∷◌, None, Some, length, take, get_or, refl, sym, ◌∙◌, ap, subst, inl, inr, arith}
use Rattle.std.specs.Prelude.{◌==◌, ◌&&◌, ◌||◌, if◌then◌else◌, nat_le, nat_lt, is_some, not, IfNone, IfSome}
use Rattle.std.specs.declared.option.Option.{Option}
use Rattle.std.specs.List.{Contains}
use Rattle.std.proofs.lemmas.Bool.{cases_Bool, cases_lt}
use Rattle.std.proofs.lemmas.Bool.Decides.{nat_tests}
use Rattle.std.proofs.lemmas.List.{take_all, take_more}
use Rattle.std.proofs.lemmas.List.Elements.{Contains-append_cases}
use Rattle.sg_input.specs.sg_facts.Fields.{number_of}
use Rattle.sg_input.specs.sg_facts.Interface.{Declared}
use Rattle.sg_input.specs.sg_facts.Walks.{IsWalkOf, begin_of, most_calls, restores}
use Rattle.sg_input.specs.sg_check.Inside.Reached.{AreTriples}
use Rattle.sg_input.proofs.sg_check.Seeking.{walked_set}
use Rattle.sg_input.proofs.sg_walk.ReachedStates.Marks.{only}
use Rattle.sg_input.specs.sg_check_statements.Flaws.{HasNoWalk}
use Rattle.sg_input.specs.sg_walk.ReachedStates.Triples.{IsReachedTriple}
use Rattle.sg_input.specs.sg_walk.declared.place.Triple.{Triple}
use Rattle.sg_explain.specs.Stuck.{IsStuck}
use Rattle.sg_explain.specs.Inside.Search.{GoesOn, IsFirstOf, IsFoundAt, IsNoLater, IsStuckIn, TellsStuck, TellsStuckIn, earlier}

-- ---- elements

-- an element of a front with one more stands before, or is that one
pub either_one : {X : Type 0} (xs : List X) (k : ℕ) (d : X) → k < length xs → (x : X) → Contains (take (k + 1) xs) x → Contains (take k xs) x ⊎ (x ≡ get_or xs k d)
either_one xs k d within x has =
    elim (Contains-append_cases (take k xs) (get_or xs k d ∷ []) x (subst (λ l. Contains l x) (take_more xs k d within) has)) [
      | inl before ↦ inl before
      | inr last ↦ inr (only (get_or xs k d) x last)
    ]

-- ---- the order of triples

-- the test by which two triples are compared
abbrev is_no_later : Triple → Triple → Bool
is_no_later f t = nat_lt f.made t.made || ((f.made == t.made) && nat_le f.mask t.mask)

made_same : (a b c d : ℕ) → (nat_lt a b || ((a == b) && nat_le c d)) ≡ true → b ≤ a → a ≡ b
made_same a b c d is ge = grind (arith, nat_tests)

mask_less : (a b c d : ℕ) → (nat_lt a b || ((a == b) && nat_le c d)) ≡ true → b ≤ a → c ≤ d
mask_less a b c d is ge = grind (arith, nat_tests)

made_less : (a b c d : ℕ) → (nat_lt a b || ((a == b) && nat_le c d)) ≡ false → b ≤ a
made_less a b c d isn't = grind (arith, nat_tests)

mask_more : (a b c d : ℕ) → (nat_lt a b || ((a == b) && nat_le c d)) ≡ false → a ≡ b → d ≤ c
mask_more a b c d isn't same = grind (arith, nat_tests)

it_is : (f t : Triple) → is_no_later f t ≡ true → IsNoLater f t
it_is f t is = elim (cases_lt f.made t.made) [
  | inl lt ↦ inl lt
  | inr ge ↦ inr (made_same f.made t.made f.mask t.mask is ge, mask_less f.made t.made f.mask t.mask is ge)
]

it_isn't : (f t : Triple) → is_no_later f t ≡ false → IsNoLater t f
it_isn't f t isn't =
    let le = made_less f.made t.made f.mask t.mask isn't in
    elim (cases_lt t.made f.made) [
      | inl lt ↦ inl lt
      | inr ge ↦ let same : f.made ≡ t.made = omega (arith, le, ge) in inr (sym same, mask_more f.made t.made f.mask t.mask isn't same)
    ]

itself : (t : Triple) → IsNoLater t t
itself t = inr (refl, omega arith)

after_both : (a b c : Triple) → IsNoLater a b → IsNoLater b c → IsNoLater a c
after_both a b c (inl x) (inl y) = inl (omega (arith, x, y))
after_both a b c (inl x) (inr y) = let e = y.0 in inl (omega (arith, x, e))
after_both a b c (inr x) (inl y) = let e = x.0 in inl (omega (arith, e, y))
after_both a b c (inr x) (inr y) = let l = x.1 in let m = y.1 in inr (x.0 ∙ y.0, omega (arith, l, m))

-- the first of two is one of them, and no later than either
earlier_one : (P : Triple → Type 0) (f t : Triple) → P f → P t → P (earlier (Some f) t)
earlier_one P f t p q = elim (cases_Bool (is_no_later f t)) [
  | inl is ↦ subst P (sym (ap (λ (b : Bool). if b then f else t) is)) p
  | inr isn't ↦ subst P (sym (ap (λ (b : Bool). if b then f else t) isn't)) q
]

no_later : (f t : Triple) → IsNoLater (earlier (Some f) t) f × IsNoLater (earlier (Some f) t) t
no_later f t = elim (cases_Bool (is_no_later f t)) [
  | inl is ↦ subst (λ e. IsNoLater e f × IsNoLater e t) (sym (ap (λ (b : Bool). if b then f else t) is)) (itself f, it_is f t is)
  | inr isn't ↦ subst (λ e. IsNoLater e f × IsNoLater e t) (sym (ap (λ (b : Bool). if b then f else t) isn't)) (it_isn't f t isn't, itself t)
]

-- ---- one triple more

module _ (i : Declared) (state : ℕ) where
  pub none_yet : IsFirstOf i state [] None
  none_yet t (k, within, is) stuck = absurd (omega (arith, within))

  module _ (triples : List Triple) (k : ℕ) (d : Triple) (within : k < length triples) where
    stays : (first : Option Triple) → IsFirstOf i state (take k triples) first → (IsStuckIn i state (get_or triples k d) → ⊥) → IsFirstOf i state (take (k + 1) triples) first
    stays None none free = λ t has stuck. elim (either_one triples k d within t has) [
      | inl before ↦ none t before stuck
      | inr same ↦ free (subst (IsStuckIn i state) same stuck)
    ]
    stays (Some f) is free = (
      is.0,
      λ t has stuck. elim (either_one triples k d within t has) [
        | inl before ↦ is.1 t before stuck
        | inr same ↦ absurd (free (subst (IsStuckIn i state) same stuck))
      ],
    )

    changes : (first : Option Triple) → IsFirstOf i state (take k triples) first → IsStuckIn i state (get_or triples k d)
        → IsFirstOf i state (take (k + 1) triples) (Some (earlier first (get_or triples k d)))
    changes None none here = (
      here,
      λ t has stuck. elim (either_one triples k d within t has) [
        | inl before ↦ absurd (none t before stuck)
        | inr same ↦ subst (IsNoLater (get_or triples k d)) (sym same) (itself (get_or triples k d))
      ],
    )
    changes (Some f) is here = (
      earlier_one (IsStuckIn i state) f (get_or triples k d) is.0 here,
      λ t has stuck. elim (either_one triples k d within t has) [
        | inl before ↦ after_both (earlier (Some f) (get_or triples k d)) f t (no_later f (get_or triples k d)).0 (is.1 t before stuck)
        | inr same ↦ subst (IsNoLater (earlier (Some f) (get_or triples k d))) (sym same) (no_later f (get_or triples k d)).1
      ],
    )

    pub one_more : (first next : Option Triple) → IsFirstOf i state (take k triples) first → GoesOn i state first (get_or triples k d) next → IsFirstOf i state (take (k + 1) triples) next
    one_more first next is (inl (same, free)) = subst (IsFirstOf i state (take (k + 1) triples)) (sym same) (stays first is free)
    one_more first next is (inr (same, here)) = subst (IsFirstOf i state (take (k + 1) triples)) (sym same) (changes first is here)

  -- a state without walks has something that is stuck
  pub stuck_of : (lacks : HasNoWalk i state) → IsStuck i (record { made = lacks.made; state = state; mask = number_of lacks.set })
  stuck_of lacks = record {
    set = lacks.set;
    number = refl;
    reached = lacks.reached;
    none = λ walk begins short. elim (cases_Bool (restores i walk state lacks.set)) [ inl is ↦ absurd (lacks.none walk begins short is) | inr isn't ↦ isn't ];
  }

  -- all triples were looked at
  pub all_looked_at : (triples : List Triple) (n : ℕ) → AreTriples i triples → length triples ≤ n → (first : Option Triple) → IsFirstOf i state (take n triples) first
      → IsFoundAt i state first
  all_looked_at triples n all enough None none = λ lacks.
      let t : Triple = record { made = lacks.made; state = state; mask = number_of lacks.set } in
      none t (subst (λ l. Contains l t) (sym (take_all n triples enough)) (all.all t (lacks.set, refl, lacks.reached))) (refl, stuck_of lacks)
  all_looked_at triples n all enough (Some f) is = record {
    there = is.0.0;
    stuck = is.0.1;
    first = λ other at stuck. is.1 other (subst (λ l. Contains l other) (sym (take_all n triples enough)) (all.all other (stuck.set, stuck.number, stuck.reached))) (at, stuck);
  }

  -- ---- one triple

  -- it is stuck in its state where it is stuck
  pub in_its_state : (t : Triple) (is : Bool) → t.state ≡ state → TellsStuck i t is → TellsStuckIn i state t is
  in_its_state t true same stuck = (same, stuck)
  in_its_state t false same free = λ stuck. free stuck.1

  pub goes_stuck : (first next : Option Triple) (t : Triple) (is : Bool) → is ≡ true → TellsStuckIn i state t is → next ≡ Some (earlier first t) → GoesOn i state first t next
  goes_stuck first next t true is stuck same = inr (same, stuck)
  goes_stuck first next t false is free same = absurd (cc is)

  pub goes_free : (first next : Option Triple) (t : Triple) (is : Bool) → is ≡ false → TellsStuckIn i state t is → next ≡ first → GoesOn i state first t next
  goes_free first next t true isn't stuck same = absurd (cc isn't)
  goes_free first next t false isn't free same = inl (same, free)

-- where no walk is found, none restores it
pub no_walk : (i : Declared) (t : Triple) → IsReachedTriple i t
    → ((walk : List ℕ) (set : List Bool) → begin_of walk ≡ t.made → length walk ≤ most_calls → number_of set ≡ t.mask → restores i walk t.state set ≡ false) → IsStuck i t
no_walk i t (set, number, reached) none = record { set = set; number = number; reached = reached; none = λ walk begins short. none walk set begins short number }

-- where one is found, it restores it
pub some_walk : (i : Declared) (t : Triple) (walk : List ℕ) → (set : List Bool) × (number_of set ≡ t.mask) × IsWalkOf i walk t.made t.state set → IsStuck i t → ⊥
some_walk i t walk (set, number, is) stuck =
    let same : set ≡ stuck.set = walked_set i t.made t.state stuck.set set walk stuck.reached is.restored (number ∙ sym stuck.number) in
    let restored : restores i walk t.state stuck.set ≡ true = subst (λ s. restores i walk t.state s ≡ true) same is.restored in
    let unrestored : restores i walk t.state stuck.set ≡ false = stuck.none walk is.begins is.short in
    cc (restored, unrestored)

-- what is told of it by the walk that is found
pub tells_none : (i : Declared) (t : Triple) (found : Option (List ℕ)) (b : Bool) → is_some found ≡ not b → IsReachedTriple i t
    → IfSome found (λ walk. (set : List Bool) × (number_of set ≡ t.mask) × IsWalkOf i walk t.made t.state set)
    → IfNone found ((walk : List ℕ) (set : List Bool) → begin_of walk ≡ t.made → length walk ≤ most_calls → number_of set ≡ t.mask → restores i walk t.state set ≡ false)
    → TellsStuck i t b
tells_none i t None true is reached some none = no_walk i t reached none
tells_none i t None false is reached some none = absurd (cc is)
tells_none i t (Some walk) true is reached some none = absurd (cc is)
tells_none i t (Some walk) false is reached some none = some_walk i t walk some

pub same_state : (a b : ℕ) → (a == b) ≡ true → a ≡ b
same_state a b is = grind (arith, nat_tests)

pub other_state : (a b : ℕ) → (a == b) ≡ false → a ≡ b → ⊥
other_state a b isn't same = grind (arith, nat_tests)
