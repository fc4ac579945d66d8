-- The row that goes before all others: by one number, then by another, then by id.
use Rattle.std.proofs.Common.{◌≡◌, ℕ, ◌<◌, Bool, true, false, cond, List, [], ◌∷◌, None, Some, filter, refl, sym, ◌∙◌, ap, subst, inl, inr, ◌⊎◌, arith}
use Rattle.std.specs.Prelude.{◌==◌, ◌&&◌, ◌||◌, nat_lt, if◌then◌else◌}
use Rattle.std.specs.List.{fold, reduce}
use Rattle.std.specs.declared.option.Option.{Option}
use Rattle.std.proofs.lemmas.Bool.{cases_Bool}
use Rattle.std.proofs.lemmas.Bool.Decides.{nat_tests}
use Rattle.sg_facts.specs.declared.row.Row.{Row}
use Rattle.sg_facts.specs.Sound.{AreRows}
use Rattle.sg_facts.specs.Track.{row_at}
use Rattle.sg_slots.specs.Orders.{by}

-- which of two numbers is the less
abbrev pub Sides : ℕ → ℕ → Type 0
Sides a b = (a < b) ⊎ (a ≡ b) ⊎ (b < a)

-- one of them holds
pub sides : (a b : ℕ) → Sides a b
sides a b = elim (cases_Bool (nat_lt a b)) [
  | inl less ↦ let is : a < b = grind (arith, nat_tests) in inl is
  | inr not ↦ elim (cases_Bool (a == b)) [
    | inl same ↦ let is : a ≡ b = grind (arith, nat_tests) in inr (inl is)
    | inr apart ↦ let is : b < a = grind (arith, nat_tests) in inr (inr is)
  ]
]

-- the less number goes before
pub by_less : (a b : ℕ) (further : Bool) → a < b → by a b further ≡ true
by_less a b further is = let test : nat_lt a b ≡ true = grind (arith, nat_tests) in ap (λ t. t || ((a == b) && further)) test

-- the same number leaves it to the further test
pub by_same : (a b : ℕ) (further : Bool) → a ≡ b → by a b further ≡ further
by_same a b further is =
    let test : nat_lt a b ≡ false = grind (arith, nat_tests) in
    let equal : (a == b) ≡ true = grind (arith, nat_tests) in
    ap (λ t. t || ((a == b) && further)) test ∙ ap (λ t. t && further) equal

-- the greater number goes after
pub by_more : (a b : ℕ) (further : Bool) → b < a → by a b further ≡ false
by_more a b further is =
    let test : nat_lt a b ≡ false = grind (arith, nat_tests) in
    let equal : (a == b) ≡ false = grind (arith, nat_tests) in
    ap (λ t. t || ((a == b) && further)) test ∙ ap (λ t. t && further) equal

-- no test has both results
both : true ≡ false → ⊥
both is = cc is

-- neither the first before the second nor that before the third: the first isn't before the third
by_chain : (a b c : ℕ) (x y z : Bool) → by a b x ≡ false → by b c y ≡ false → (x ≡ false → y ≡ false → z ≡ false) → by a c z ≡ false
by_chain a b c x y z one two onward = elim (sides a b) [
  | inl less ↦ absurd (both (sym (by_less a b x less) ∙ one))
  | inr (inl same) ↦ elim (sides b c) [
    | inl less ↦ absurd (both (sym (by_less b c y less) ∙ two))
    | inr (inl same') ↦ by_same a c z (omega arith) ∙ onward (sym (by_same a b x same) ∙ one) (sym (by_same b c y same') ∙ two)
    | inr (inr more) ↦ by_more a c z (omega arith)
  ]
  | inr (inr more) ↦ elim (sides b c) [
    | inl less ↦ absurd (both (sym (by_less b c y less) ∙ two))
    | inr (inl same') ↦ by_more a c z (omega arith)
    | inr (inr more') ↦ by_more a c z (omega arith)
  ]
]

-- neither before the other: the number is the same, and so it is further
by_neither : (a b : ℕ) (x y : Bool) → by a b x ≡ false → by b a y ≡ false → (a ≡ b) × (x ≡ false) × (y ≡ false)
by_neither a b x y one two = elim (sides a b) [
  | inl less ↦ absurd (both (sym (by_less a b x less) ∙ one))
  | inr (inl same) ↦ (same, sym (by_same a b x same) ∙ one, sym (by_same b a y (sym same)) ∙ two)
  | inr (inr more) ↦ absurd (both (sym (by_less b a y more) ∙ two))
]

-- not both before the other
by_one : (a b : ℕ) (x y : Bool) → by a b x ≡ true → (x ≡ true → y ≡ false) → by b a y ≡ false
by_one a b x y is onward = elim (sides a b) [
  | inl less ↦ by_more b a y less
  | inr (inl same) ↦ by_same b a y (sym same) ∙ onward (sym (by_same a b x same) ∙ is)
  | inr (inr more) ↦ absurd (both (sym is ∙ by_more a b x more))
]

-- ---- the order of rows

module _ (major minor : Row → ℕ) where
  -- whether a row goes before another
  abbrev pub before : Row → Row → Bool
  before r s = by (major r) (major s) (by (minor r) (minor s) (nat_lt r.id s.id))

  -- the one of two rows that goes before the other
  abbrev pub sooner : Row → Row → Row
  sooner r s = if before s r then s else r

  -- neither the first before the second nor that before the third: the first isn't before the third
  chain : (r s t : Row) → before r s ≡ false → before s t ≡ false → before r t ≡ false
  chain r s t one two =
      by_chain (major r) (major s) (major t) _ _ _ one two
      (λ one two. by_chain (minor r) (minor s) (minor t) _ _ _ one two
      (λ one two. let is : nat_lt r.id t.id ≡ false = grind (arith, nat_tests, one, two) in is))

  -- of two rows at most one goes before the other
  one_before : (r s : Row) → before r s ≡ true → before s r ≡ false
  one_before r s is =
      by_one (major r) (major s) _ _ is
      (λ is. by_one (minor r) (minor s) _ _ is
      (λ is. let other : nat_lt s.id r.id ≡ false = grind (arith, nat_tests, is) in other))

  -- neither of two rows before the other: their numbers and ids are the same
  pub neither : (r s : Row) → before r s ≡ false → before s r ≡ false → (major r ≡ major s) × (minor r ≡ minor s) × (r.id ≡ s.id)
  neither r s one two =
      let by_major = by_neither (major r) (major s) _ _ one two in
      let by_minor = by_neither (minor r) (minor s) _ _ by_major.1 by_major.2 in
      let less : nat_lt r.id s.id ≡ false = by_minor.1 in
      let more : nat_lt s.id r.id ≡ false = by_minor.2 in
      let same : r.id ≡ s.id = grind (arith, nat_tests) in
      (by_major.0, by_minor.0, same)

  -- no row goes before itself
  before_itself : (r : Row) → before r r ≡ false
  before_itself r = elim (cases_Bool (before r r)) [
    | inl is ↦ absurd (both (sym is ∙ one_before r r is))
    | inr is ↦ is
  ]

  -- the one of two that goes first isn't after the first, nor after the second
  first_of_two : (r s : Row) → before r (sooner r s) ≡ false
  first_of_two r s = elim (cases_Bool (before s r)) [
    | inl is ↦ subst (λ b. before r (cond b s r) ≡ false) (sym is) (one_before s r is)
    | inr is ↦ subst (λ b. before r (cond b s r) ≡ false) (sym is) (before_itself r)
  ]

  -- nor is the second
  second_of_two : (r s : Row) → before s (sooner r s) ≡ false
  second_of_two r s = elim (cases_Bool (before s r)) [
    | inl is ↦ subst (λ b. before s (cond b s r) ≡ false) (sym is) (before_itself s)
    | inr is ↦ subst (λ b. before s (cond b s r) ≡ false) (sym is) is
  ]

  module _ (test : Row → Bool) where
    -- the row that goes before all others, of those that pass a test
    abbrev pub first_of : List Row → Option Row
    first_of rows = reduce sooner (filter test rows)

    -- ---- the first of some rows that pass a test, and one more

    abbrev first_from : Row → List Row → Row
    first_from a rows = fold sooner a (filter test rows)

    -- the row that it begins with isn't before it
    not_after : (a : Row) (rows : List Row) → before a (first_from a rows) ≡ false
    not_after a [] = before_itself a
    not_after a (x ∷ rows) = at (test x) (not_after (sooner a x) rows) (not_after a rows)
      where
        at : (b : Bool) → before (sooner a x) (first_from (sooner a x) rows) ≡ false → before a (first_from a rows) ≡ false
            → before a (fold sooner a (cond b (x ∷ filter test rows) (filter test rows))) ≡ false
        at true further rest = chain a (sooner a x) (first_from (sooner a x) rows) (first_of_two a x) further
        at false further rest = rest

    -- no row that passes is before it
    none_later : (a : Row) (rows : List Row) (id : ℕ) (s : Row) → row_at rows id ≡ Some s → test s ≡ true → before s (first_from a rows) ≡ false
    none_later a [] id s there passes = absurd (cc there)
    none_later a (x ∷ rows) id s there passes =
        at (test x) (x.id == id) refl there (not_after (sooner a x) rows) (none_later (sooner a x) rows id s) (none_later a rows id s)
      where
        at : (b c : Bool) → test x ≡ b → cond c (Some x) (row_at rows id) ≡ Some s → before (sooner a x) (first_from (sooner a x) rows) ≡ false
            → (row_at rows id ≡ Some s → test s ≡ true → before s (first_from (sooner a x) rows) ≡ false)
            → (row_at rows id ≡ Some s → test s ≡ true → before s (first_from a rows) ≡ false)
            → before s (fold sooner a (cond b (x ∷ filter test rows) (filter test rows))) ≡ false
        at true true is there first further rest =
            let one : x ≡ s = cc there in
            subst (λ y. before y (first_from (sooner a x) rows) ≡ false) one (chain x (sooner a x) (first_from (sooner a x) rows) (second_of_two a x) first)
        at true false is there first further rest = further there passes
        at false true is there first further rest =
            let one : x ≡ s = cc there in
            absurd (both (sym passes ∙ sym (ap test one) ∙ is))
        at false false is there first further rest = rest there passes

    -- it is one of those that pass
    from_meets : (P : Row → Type 0) (low high : ℕ) (a : Row) (rows : List Row) → P a → test a ≡ true → AreRows P low high rows → P (first_from a rows) × (test (first_from a rows) ≡ true)
    from_meets P low high a [] meets passes are = (meets, passes)
    from_meets P low high a (x ∷ rows) meets passes are = at (test x) refl (from_meets P x.id high (sooner a x) rows) (from_meets P x.id high a rows)
      where
        chosen : test x ≡ true → P (sooner a x) × (test (sooner a x) ≡ true)
        chosen is = pick (before x a)
          where
            pick : (b : Bool) → P (cond b x a) × (test (cond b x a) ≡ true)
            pick true = (are.2, is)
            pick false = (meets, passes)

        Meets : Row → Type 0
        Meets r = P r × (test r ≡ true)

        at : (b : Bool) → test x ≡ b → (P (sooner a x) → test (sooner a x) ≡ true → AreRows P x.id high rows → Meets (first_from (sooner a x) rows))
            → (P a → test a ≡ true → AreRows P x.id high rows → Meets (first_from a rows)) → Meets (fold sooner a (cond b (x ∷ filter test rows) (filter test rows)))
        at true is further rest = let c : Meets (sooner a x) = chosen is in further c.0 c.1 are.3
        at false is further rest = rest meets passes are.3

    -- ---- the first of the rows that pass

    -- it passes, and meets what all rows meet
    pub first_meets : (P : Row → Type 0) (low high : ℕ) (rows : List Row) (m : Row) → AreRows P low high rows → first_of rows ≡ Some m → P m × (test m ≡ true)
    first_meets P low high [] m are is = absurd (cc is)
    first_meets P low high (x ∷ rows) m are is = at (test x) refl is (first_meets P x.id high rows m are.3)
      where
        at : (b : Bool) → test x ≡ b → reduce sooner (cond b (x ∷ filter test rows) (filter test rows)) ≡ Some m
            → (first_of rows ≡ Some m → P m × (test m ≡ true)) → P m × (test m ≡ true)
        at true passes is rest = let one : first_from x rows ≡ m = cc is in subst (λ y. P y × (test y ≡ true)) one (from_meets P x.id high x rows are.2 passes are.3)
        at false passes is rest = rest is

    -- no row that passes goes before it
    pub first_least : (rows : List Row) (m : Row) (id : ℕ) (s : Row) → first_of rows ≡ Some m → row_at rows id ≡ Some s → test s ≡ true → before s m ≡ false
    first_least [] m id s is there passes = absurd (cc is)
    first_least (x ∷ rows) m id s is there passes = at (test x) (x.id == id) refl is there (first_least rows m id s)
      where
        at : (b c : Bool) → test x ≡ b → reduce sooner (cond b (x ∷ filter test rows) (filter test rows)) ≡ Some m → cond c (Some x) (row_at rows id) ≡ Some s
            → (first_of rows ≡ Some m → row_at rows id ≡ Some s → test s ≡ true → before s m ≡ false) → before s m ≡ false
        at true true was is there rest =
            let one : first_from x rows ≡ m = cc is in
            let two : x ≡ s = cc there in
            subst (λ y. before s y ≡ false) one (subst (λ y. before y (first_from x rows) ≡ false) two (not_after x rows))
        at true false was is there rest =
            let one : first_from x rows ≡ m = cc is in
            subst (λ y. before s y ≡ false) one (none_later x rows id s there passes)
        at false true was is there rest =
            let two : x ≡ s = cc there in
            absurd (both (sym passes ∙ sym (ap test two) ∙ was))
        at false false was is there rest = rest is there passes

    -- where there is none, no row passes
    pub none_passes : (rows : List Row) (id : ℕ) (s : Row) → first_of rows ≡ None → row_at rows id ≡ Some s → test s ≡ true → ⊥
    none_passes [] id s is there passes = cc there
    none_passes (x ∷ rows) id s is there passes = at (test x) (x.id == id) refl is there (none_passes rows id s)
      where
        at : (b c : Bool) → test x ≡ b → reduce sooner (cond b (x ∷ filter test rows) (filter test rows)) ≡ None → cond c (Some x) (row_at rows id) ≡ Some s
            → (first_of rows ≡ None → row_at rows id ≡ Some s → test s ≡ true → ⊥) → ⊥
        at true c was is there rest = cc is
        at false true was is there rest =
            let two : x ≡ s = cc there in
            both (sym passes ∙ sym (ap test two) ∙ was)
        at false false was is there rest = rest is there passes

    -- the row that passes, and that none that passes goes before, is the first
    pub is_first : (low high : ℕ) (rows : List Row) (r : Row) → AreRows (λ s. row_at rows s.id ≡ Some s) low high rows → row_at rows r.id ≡ Some r → test r ≡ true
        → ((s : Row) → row_at rows s.id ≡ Some s → test s ≡ true → before s r ≡ false) → first_of rows ≡ Some r
    is_first low high rows r are there passes least = at (first_of rows) refl
      where
        at : (found : Option Row) → first_of rows ≡ found → found ≡ Some r
        at None is = absurd (none_passes rows r.id r is there passes)
        at (Some m) is =
            let meets = first_meets (λ s. row_at rows s.id ≡ Some s) low high rows m are is in
            let same = neither r m (first_least rows m r.id r is there passes) (least m meets.0 meets.1) in
            sym meets.0 ∙ ap (row_at rows) (sym same.2) ∙ there

    -- two rows of which neither goes before the other's like have one second number
    pub neither_by_minor : (r s v w : Row) → major v ≡ major r → minor v ≡ minor r → major w ≡ major s → minor w ≡ minor s
        → before r s ≡ false → before w v ≡ false → minor r ≡ minor s
    neither_by_minor r s v w major_v minor_v major_w minor_w one two =
        let turned : by (major s) (major r) (by (minor s) (minor r) (nat_lt w.id v.id)) ≡ false =
        subst (λ a. by a (major r) (by (minor s) (minor r) (nat_lt w.id v.id)) ≡ false) major_w
        (subst (λ b. by (major w) b (by (minor s) (minor r) (nat_lt w.id v.id)) ≡ false) major_v
        (subst (λ a. by (major w) (major v) (by a (minor r) (nat_lt w.id v.id)) ≡ false) minor_w
        (subst (λ b. by (major w) (major v) (by (minor w) b (nat_lt w.id v.id)) ≡ false) minor_v two))) in
        let by_major = by_neither (major r) (major s) _ _ one turned in
        let by_minor = by_neither (minor r) (minor s) _ _ by_major.1 by_major.2 in
        by_minor.0
