-- Walks that are put where none is, one after another.
use Rattle.std.proofs.Common.{◌≡◌, ◌⊎◌, ℕ, zero, suc, ◌+◌, ◌*◌, ◌/◌, ◌%◌, ◌<◌, ◌≤◌, ◌^◌, Bool, true, false, ◌&&◌, ◌||◌, List, [], ◌∷◌, ◌++◌, length, take, None, Some, refl, sym, ◌∙◌, ap, subst, inl, inr, arith}
use Rattle.std.specs.Prelude.{◌==◌, if◌then◌else◌, nat_lt, slice_get}
use Rattle.std.specs.Option.{option_or}
use Rattle.std.specs.declared.option.Option.{Option}
use Rattle.std.proofs.lemmas.Bool.{and_parts, cases_Bool, cases_eq, cases_lt, cases_order}
use Rattle.std.proofs.lemmas.Bool.Decides.{eqb_tells, nat_tests}
use Rattle.std.proofs.lemmas.List.{take_all, take_more}
use Rattle.std.proofs.lemmas.Option.{slice_get_within, get_or_from_slice_get}
use Rattle.sg_facts.specs.Interface.{Declared}
use Rattle.sg_facts.specs.Inside.Walking.{restores_field}
use Rattle.sg_walk.specs.LeastWalks.{IsTheWalk, same_key, walk_at}
use Rattle.sg_walk.specs.Marks.{known_of, shown_marks}
use Rattle.sg_walk.specs.declared.spot.FieldState.{FieldState}
use Rattle.sg_walk.specs.declared.spot.Goal.{Goal}
use Rattle.sg_walk.specs.declared.spot.Spot.{Spot}
use Rattle.sg_walk.specs.Inside.Spots.{is_goal, restores_number, shown}
use Rattle.sg_walk.specs.Inside.Arrivals.{first_walk, walk_by}

-- ---- one put after another

or_assoc : {X : Type 0} (a b c : Option X) → option_or (option_or a b) c ≡ option_or a (option_or b c)
or_assoc None b c = refl
or_assoc (Some x) b c = refl

or_either : {X : Type 0} (x : X) (a b : Bool) → option_or (if a then Some x else None) (if b then Some x else None) ≡ (if a || b then Some x else None)
or_either x true b = refl
or_either x false b = refl

-- ---- the sets of one arrival

some_sets : (count : ℕ) → 0 < 2 ^ count
some_sets zero = omega arith
some_sets (suc count) = let p : 2 ^ suc count ≡ 2 * 2 ^ count = omega arith in omega (arith, some_sets count, p)

-- marks of so many fields restore numbers of so many bits
pub few_bits : (count : ℕ) (marks : List FieldState) (k : ℕ) → restores_number (shown_marks count marks) k ≡ true → k < 2 ^ count
few_bits zero marks k is = let none : k ≡ 0 = grind (arith, nat_tests, is) in omega (arith, none)
few_bits (suc count) [] k is =
    let none : k ≡ 0 = grind (arith, nat_tests, is) in
    let p : 2 ^ suc count ≡ 2 * 2 ^ count = omega arith in
    let some : 0 < 2 ^ count = some_sets count in
    omega (arith, none, p, some)
few_bits (suc count) (m ∷ marks) k is =
    let parts = and_parts (restores_field (known_of m) (k % 2 == 1)) (restores_number (shown_marks count marks) (k / 2)) is in
    let half : k / 2 < 2 ^ count = few_bits count marks (k / 2) parts.1 in
    let p : 2 ^ suc count ≡ 2 * 2 ^ count = omega arith in
    omega (arith, half, p)

-- a number is restored there and is the next, or is one of those before
abbrev Joins : Bool → Bool → Bool → Bool → Bool → Bool → Type 0
Joins before next here made state restored = ((before && (made && (state && restored))) || (made && state && here)) ≡ (next && (made && (state && restored)))

joins_before : (made state restored : Bool) → Joins true true false made state restored
joins_before true true true = refl
joins_before true true false = refl
joins_before true false restored = refl
joins_before false state restored = refl

joins_here : (made state : Bool) → Joins false true true made state true
joins_here true true = refl
joins_here true false = refl
joins_here false state = refl

joins_after : (made state restored : Bool) → Joins false false false made state restored
joins_after true true restored = refl
joins_after true false restored = refl
joins_after false state restored = refl

-- nothing is restored at the next number
abbrev Skips : Bool → Bool → Bool → Bool → Bool → Type 0
Skips before next made state restored = (before && (made && (state && restored))) ≡ (next && (made && (state && restored)))

skips_here : (made state : Bool) → Skips false true made state false
skips_here true true = refl
skips_here true false = refl
skips_here false state = refl

module _ (i : Declared) (made : ℕ) (spot : Spot) (walk : List ℕ) where
  -- the walk at numbers of sets below one
  abbrev pub put_below : ℕ → ℕ → ℕ → ℕ → Option (List ℕ)
  put_below n m s k = if nat_lt k n && ((made == m) && is_goal (shown i spot) (record { state = s; mask = k })) then Some walk else None

  -- the next number is restored
  joins : (n m s k : ℕ) → restores_number (shown i spot).marks n ≡ true → Joins (nat_lt k n) (nat_lt k (n + 1)) (n == k) (made == m) (spot.state == s) (restores_number (shown i spot).marks k)
  joins n m s k is = by (cases_order k n)
    where
      by : (k ≡ n) ⊎ ((k < n) ⊎ (n < k)) → Joins (nat_lt k n) (nat_lt k (n + 1)) (n == k) (made == m) (spot.state == s) (restores_number (shown i spot).marks k)
      by (inl same) =
          let before : nat_lt k n ≡ false = grind (arith, nat_tests) in
          let next : nat_lt k (n + 1) ≡ true = grind (arith, nat_tests) in
          let here : (n == k) ≡ true = grind (arith, nat_tests) in
          let restored : restores_number (shown i spot).marks k ≡ true = ap (restores_number (shown i spot).marks) same ∙ is in
          rw (before, next, here, restored) (joins_here (made == m) (spot.state == s))
      by (inr (inl less)) =
          let before : nat_lt k n ≡ true = grind (arith, nat_tests) in
          let next : nat_lt k (n + 1) ≡ true = grind (arith, nat_tests) in
          let here : (n == k) ≡ false = grind (arith, nat_tests) in
          rw (before, next, here) (joins_before (made == m) (spot.state == s) (restores_number (shown i spot).marks k))
      by (inr (inr more)) =
          let before : nat_lt k n ≡ false = grind (arith, nat_tests) in
          let next : nat_lt k (n + 1) ≡ false = grind (arith, nat_tests) in
          let here : (n == k) ≡ false = grind (arith, nat_tests) in
          rw (before, next, here) (joins_after (made == m) (spot.state == s) (restores_number (shown i spot).marks k))

  skips : (n m s k : ℕ) → restores_number (shown i spot).marks n ≡ false → Skips (nat_lt k n) (nat_lt k (n + 1)) (made == m) (spot.state == s) (restores_number (shown i spot).marks k)
  skips n m s k is = by (cases_order k n)
    where
      by : (k ≡ n) ⊎ ((k < n) ⊎ (n < k)) → Skips (nat_lt k n) (nat_lt k (n + 1)) (made == m) (spot.state == s) (restores_number (shown i spot).marks k)
      by (inl same) =
          let before : nat_lt k n ≡ false = grind (arith, nat_tests) in
          let next : nat_lt k (n + 1) ≡ true = grind (arith, nat_tests) in
          let restored : restores_number (shown i spot).marks k ≡ false = ap (restores_number (shown i spot).marks) same ∙ is in
          rw (before, next, restored) (skips_here (made == m) (spot.state == s))
      by (inr (inl less)) =
          let before : nat_lt k n ≡ true = grind (arith, nat_tests) in
          let next : nat_lt k (n + 1) ≡ true = grind (arith, nat_tests) in
          rw (before, next) refl
      by (inr (inr more)) =
          let before : nat_lt k n ≡ false = grind (arith, nat_tests) in
          let next : nat_lt k (n + 1) ≡ false = grind (arith, nat_tests) in
          rw (before, next) refl

  here_or_not : (n : ℕ) (b : Bool) → is_goal (shown i spot) (record { state = spot.state; mask = n }) ≡ b → restores_number (shown i spot).marks n ≡ b
  here_or_not n b is =
      let same : (spot.state == spot.state) ≡ true = grind (arith, nat_tests) in
      sym (ap (λ t. t && restores_number (shown i spot).marks n) same) ∙ is

  -- none is below 0
  pub put_none : (was : Option (List ℕ)) (m s k : ℕ) → was ≡ option_or was (put_below 0 m s k)
  put_none None m s k = let low : nat_lt k 0 ≡ false = grind (arith, nat_tests) in sym (ap (λ b. if b && ((made == m) && is_goal (shown i spot) (record { state = s; mask = k })) then Some walk else None) low)
  put_none (Some w) m s k = refl

  -- one number more, at which the walk was put
  pub put_more : (n m s k : ℕ) (was now new : Option (List ℕ)) → is_goal (shown i spot) (record { state = spot.state; mask = n }) ≡ true
      → now ≡ option_or was (put_below n m s k) → new ≡ option_or now (if same_key (made, spot.state, n) (m, s, k) then Some walk else None)
      → new ≡ option_or was (put_below (n + 1) m s k)
  put_more n m s k was now new meets before put =
      put ∙ ap (λ o. option_or o (if same_key (made, spot.state, n) (m, s, k) then Some walk else None)) before
      ∙ or_assoc was (put_below n m s k) (if same_key (made, spot.state, n) (m, s, k) then Some walk else None)
      ∙ ap (option_or was) (or_either walk (nat_lt k n && ((made == m) && is_goal (shown i spot) (record { state = s; mask = k }))) (same_key (made, spot.state, n) (m, s, k))
      ∙ ap (λ b. if b then Some walk else None) (joins n m s k (here_or_not n true meets)))

  -- one number more, which isn't restored
  pub put_same : (n m s k : ℕ) (was now : Option (List ℕ)) → is_goal (shown i spot) (record { state = spot.state; mask = n }) ≡ false
      → now ≡ option_or was (put_below n m s k) → now ≡ option_or was (put_below (n + 1) m s k)
  put_same n m s k was now misses before = before ∙ ap (λ b. option_or was (if b then Some walk else None)) (skips n m s k (here_or_not n false misses))

  -- no number is left
  pub put_all : (n m s k : ℕ) (was now : Option (List ℕ)) → 2 ^ length i.facts.fields ≤ n → now ≡ option_or was (put_below n m s k)
      → now ≡ option_or was (walk_by i made spot walk m (record { state = s; mask = k }))
  put_all n m s k was now past before = before ∙ ap (λ b. option_or was (if b then Some walk else None)) (by (cases_lt k n) (cases_Bool (restores_number (shown i spot).marks k)))
    where
      by : (k < n) ⊎ (n ≤ k) → (restores_number (shown i spot).marks k ≡ true) ⊎ (restores_number (shown i spot).marks k ≡ false)
          → (nat_lt k n && ((made == m) && is_goal (shown i spot) (record { state = s; mask = k }))) ≡ ((made == m) && is_goal (shown i spot) (record { state = s; mask = k }))
      by (inl low) other = let below : nat_lt k n ≡ true = grind (arith, nat_tests) in ap (λ b. b && ((made == m) && is_goal (shown i spot) (record { state = s; mask = k }))) below
      by (inr high) (inl is) = let few : k < 2 ^ length i.facts.fields = few_bits (length i.facts.fields) spot.marks k is in absurd (omega (arith, few, high, past))
      by (inr high) (inr not_so) =
          let above : nat_lt k n ≡ false = grind (arith, nat_tests) in
          rw (above, not_so) (skips_here (made == m) (spot.state == s))

-- ---- arrival after arrival

first_push : (i : Declared) (goal : Goal) (found : List (Spot × List ℕ)) (a : Spot × List ℕ)
    → first_walk i goal (found ++ a ∷ []) ≡ option_or (first_walk i goal found) (if is_goal (shown i a.0) goal then Some a.1 else None)
first_push i goal [] a = refl
first_push i goal (x ∷ found) a = by (is_goal (shown i x.0) goal) (first_push i goal found a)
  where
    by : (b : Bool) → first_walk i goal (found ++ a ∷ []) ≡ option_or (first_walk i goal found) (if is_goal (shown i a.0) goal then Some a.1 else None)
        → (if b then Some x.1 else first_walk i goal (found ++ a ∷ [])) ≡ option_or (if b then Some x.1 else first_walk i goal found) (if is_goal (shown i a.0) goal then Some a.1 else None)
    by true rest = refl
    by false rest = rest

first_more : (i : Declared) (goal : Goal) (found : List (Spot × List ℕ)) (n : ℕ) (spot : Spot) (walk : List ℕ) → slice_get found n ≡ Some (spot, walk)
    → first_walk i goal (take (n + 1) found) ≡ option_or (first_walk i goal (take n found)) (if is_goal (shown i spot) goal then Some walk else None)
first_more i goal found n spot walk at =
    let within : n < length found = slice_get_within found n (spot, walk) at in
    let longer : take (n + 1) found ≡ take n found ++ (spot, walk) ∷ [] =
    take_more found n (spot, walk) within ∙ ap (λ x. take n found ++ x ∷ []) (get_or_from_slice_get found n (spot, walk) (spot, walk) at) in
    ap (first_walk i goal) longer ∙ first_push i goal (take n found) (spot, walk)

-- one arrival more of a creation, or nothing more of another
one_more : (b g : Bool) (o : Option (List ℕ)) (walk : List ℕ)
    → option_or (if b then o else None) (if b && g then Some walk else None) ≡ (if b then option_or o (if g then Some walk else None) else None)
one_more true g o walk = refl
one_more false g o walk = refl

either_way : (b : Bool) (o : Option (List ℕ)) → o ≡ (if b then o else o)
either_way true o = refl
either_way false o = refl

module _ (i : Declared) (made : ℕ) (found : List (Spot × List ℕ)) where
  -- the walk of the first of so many arrivals
  abbrev pub first_of : ℕ → ℕ → ℕ → ℕ → Option (List ℕ)
  first_of n m s k = if made == m then first_walk i (record { state = s; mask = k }) (take n found) else None

  pub first_none : (was : Option (List ℕ)) (m s k : ℕ) → was ≡ option_or was (first_of 0 m s k)
  first_none None m s k = either_way (made == m) None
  first_none (Some w) m s k = refl

  pub first_next : (n m s k : ℕ) (spot : Spot) (walk : List ℕ) (was now new : Option (List ℕ)) → slice_get found n ≡ Some (spot, walk) → now ≡ option_or was (first_of n m s k)
      → new ≡ option_or now (walk_by i made spot walk m (record { state = s; mask = k })) → new ≡ option_or was (first_of (n + 1) m s k)
  first_next n m s k spot walk was now new at before put =
      let goal : Goal = record { state = s; mask = k } in
      put ∙ ap (λ o. option_or o (walk_by i made spot walk m goal)) before ∙ or_assoc was (first_of n m s k) (walk_by i made spot walk m goal)
      ∙ ap (option_or was) (one_more (made == m) (is_goal (shown i spot) goal) (first_walk i goal (take n found)) walk
      ∙ ap (λ o. if made == m then o else None) (sym (first_more i goal found n spot walk at)))

  pub first_all : (n m s k : ℕ) (was now : Option (List ℕ)) → length found ≤ n → now ≡ option_or was (first_of n m s k)
      → now ≡ option_or was (if made == m then first_walk i (record { state = s; mask = k }) found else None)
  first_all n m s k was now past before =
      before ∙ ap (λ l. option_or was (if made == m then first_walk i (record { state = s; mask = k }) l else None)) (take_all n found past)

-- ---- creation after creation

-- the walks of other creations stay
pub others_stay : (made m : ℕ) (was new o : Option (List ℕ)) → (made ≡ m → ⊥) → new ≡ option_or was (if made == m then o else None) → new ≡ was
others_stay made m was new o other is =
    let apart : (made == m) ≡ false = elim (eqb_tells made m) [ inl same ↦ absurd (other same.1) | inr differ ↦ differ.0 ] in
    is ∙ ap (λ b. option_or was (if b then o else None)) apart ∙ or_none was
  where
    or_none : (a : Option (List ℕ)) → option_or a None ≡ a
    or_none None = refl
    or_none (Some w) = refl

-- those of this one are put
pub own_put : (made : ℕ) (was new o : Option (List ℕ)) → was ≡ None → new ≡ option_or was (if made == made then o else None) → new ≡ o
own_put made was new o none is =
    let same : (made == made) ≡ true = grind (arith, nat_tests) in
    is ∙ ap (λ b. option_or was (if b then o else None)) same ∙ ap (λ w. option_or w o) none

module _ (made : ℕ) (old new : List ((ℕ × ℕ × ℕ) × List ℕ)) (others : (m s k : ℕ) → (made ≡ m → ⊥) → walk_at new m s k ≡ walk_at old m s k) where
  -- nothing is put at those that are due later
  pub due_more : ((m s k : ℕ) → made ≤ m → walk_at old m s k ≡ None) → (m s k : ℕ) → made + 1 ≤ m → walk_at new m s k ≡ None
  due_more due m s k past = others m s k (λ same. omega (arith, same, past)) ∙ due m s k (omega (arith, past))

pub done_more : (i : Declared) (made : ℕ) (old new : List ((ℕ × ℕ × ℕ) × List ℕ)) → ((m s k : ℕ) → (made ≡ m → ⊥) → walk_at new m s k ≡ walk_at old m s k)
    → ((s k : ℕ) → walk_at old made s k ≡ None → IsTheWalk i made s k (walk_at new made s k)) → ((m s k : ℕ) → m < made → IsTheWalk i m s k (walk_at old m s k))
    → ((m s k : ℕ) → made ≤ m → walk_at old m s k ≡ None) → (m s k : ℕ) → m < made + 1 → IsTheWalk i m s k (walk_at new m s k)
done_more i made old new others own done due m s k few = elim (cases_eq made m) [
  | inl same ↦ subst (λ n. IsTheWalk i n s k (walk_at new n s k)) same (own s k (due made s k (omega arith)))
  | inr apart ↦
      let less : m < made = elim (cases_lt m made) [ inl low ↦ low | inr high ↦ let same : made ≡ m = omega (arith, high, few) in absurd (apart same) ] in
      subst (IsTheWalk i m s k) (sym (others m s k apart)) (done m s k less)
]
