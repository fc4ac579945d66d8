-- The walks of locks are those of the tables of the interface that declares all of the lock service.
use Rattle.std.proofs.Common.{◌≡◌, ◌⊎◌, inl, inr, ℕ, zero, suc, ◌+◌, ◌-◌, ◌<◌, ◌≤◌, Bool, true, false, ◌&&◌, ◌||◌, List, [], ◌∷◌, Some, None, refl, sym, ◌∙◌, ap, subst, arith, length}
use Rattle.std.specs.Prelude.{◌==◌, if◌then◌else◌, nat_le, nat_lt, not}
use Rattle.std.specs.Int.{bit_at}
use Rattle.std.proofs.lemmas.Bool.Decides.{nat_tests}
use Rattle.std.proofs.lemmas.Nat.Bits.{bit_at_above}
use Rattle.test_histories.specs.sg_facts.sg_base.Lists.{Each}
use Rattle.test_histories.specs.sg_facts.declared.tables.WalkLine.{WalkLine}
use Rattle.test_histories.specs.sg_facts.Facts.{fun_at, state_after}
use Rattle.test_histories.specs.sg_facts.Fields.{number_of}
use Rattle.test_histories.specs.sg_facts.Fits.{Fits, IsReached, move, needs_reach, step}
use Rattle.test_histories.specs.sg_facts.Inside.Walking.{LeavesDeclared, IsAscending, may_go_on, no_worse, restores_at}
use Rattle.test_histories.specs.sg_facts.Interface.{Declared, declares, has_pair, moves_on, steps_on}
use Rattle.test_histories.specs.sg_facts.Laws.{whole}
use Rattle.test_histories.specs.sg_facts.Tables.{AreTables, walk_of}
use Rattle.test_histories.specs.sg_facts.Walks.{IsReachable, IsWalkOf, begin_of, first_spot, made, may_lead, most_calls, moved, next_spot, no_later, restores}
use Rattle.test_histories.specs.sg_lock.LockFacts.{lock_facts}
use Rattle.sg_recovery_laws.proofs.Lists.{each_contains}
use Rattle.test_recovery.specs.LockRuns.{lock_walks}
use Rattle.test_recovery.proofs.Apart.{false_true}

abbrev i : Declared
i = whole lock_facts

-- ---- the four functions

and_false : (b : Bool) → (b && false) ≡ false
and_false true = refl
and_false false = refl

declared_four : (f : ℕ) → declares i f ≡ true → (f ≡ 1) ⊎ (f ≡ 2) ⊎ (f ≡ 3) ⊎ (f ≡ 4)
declared_four zero is = absurd (cc is)
declared_four (suc zero) is = inl refl
declared_four (suc (suc zero)) is = inr (inl refl)
declared_four (suc (suc (suc zero))) is = inr (inr (inl refl))
declared_four (suc (suc (suc (suc zero)))) is = inr (inr (inr refl))
declared_four (suc (suc (suc (suc (suc n))))) is =
    let none : bit_at 15 (n + 4) ≡ 0 = bit_at_above 15 4 (n + 4) (omega arith) (omega arith) in
    let same : (suc (suc (suc (suc (suc n))))) - 1 ≡ n + 4 = omega arith in
    absurd (let not_set : (nat_le 1 (suc (suc (suc (suc (suc n))))) && (bit_at 15 ((suc (suc (suc (suc (suc n))))) - 1) == 1)) ≡ false
    = ap (λ k. nat_le 1 (suc (suc (suc (suc (suc n))))) && (bit_at 15 k == 1)) same ∙ ap (λ b. nat_le 1 (suc (suc (suc (suc (suc n))))) && (b == 1)) none
    ∙ and_false (nat_le 1 (suc (suc (suc (suc (suc n)))))) in cc (is, not_set))

maker : (f : ℕ) → declares i f ≡ true → (fun_at lock_facts.funs f).creation ≡ true → f ≡ 1
maker f declared makes = elim (declared_four f declared) [
  | inl one ↦ one
  | inr rest ↦ elim rest [
    | inl two ↦ absurd (let no = ap (λ n. (fun_at lock_facts.funs n).creation) two in cc (makes, no))
    | inr more ↦ elim more [
      | inl three ↦ absurd (let no = ap (λ n. (fun_at lock_facts.funs n).creation) three in cc (makes, no))
      | inr four ↦ absurd (let no = ap (λ n. (fun_at lock_facts.funs n).creation) four in cc (makes, no))
    ]
  ]
]

-- ---- what descriptors can come to

-- a lock is free without an owner, or taken with one
abbrev IsLockAt : ℕ → ℕ → List Bool → Type 0
IsLockAt by state set = (by ≡ 1) × (((state ≡ 1) × (set ≡ false ∷ [])) ⊎ ((state ≡ 2) × (set ≡ true ∷ [])))

no_owner : (set : List Bool) → may_lead [] 0 (false ∷ []) set ≡ true → set ≡ false ∷ []
no_owner [] leads = absurd (cc leads)
no_owner (true ∷ set) leads = absurd (cc leads)
no_owner (false ∷ []) leads = refl
no_owner (false ∷ b ∷ set) leads = absurd (cc leads)

took : (b : Bool) (new : List Bool) → may_lead (fun_at lock_facts.funs 2).effects 0 (b ∷ []) new ≡ true → new ≡ true ∷ []
took b [] leads = absurd (cc leads)
took b (true ∷ []) leads = refl
took b (false ∷ new) leads = absurd (cc leads)
took b (true ∷ c ∷ new) leads = absurd (cc leads)

gave : (b : Bool) (new : List Bool) → may_lead (fun_at lock_facts.funs 3).effects 0 (b ∷ []) new ≡ true → new ≡ false ∷ []
gave b [] leads = absurd (cc leads)
gave b (false ∷ []) leads = refl
gave b (true ∷ new) leads = absurd (cc leads)
gave b (false ∷ c ∷ new) leads = absurd (cc leads)

-- a pair is the first of a list, or among the others
first_or : (p : ℕ × ℕ) (ps : List (ℕ × ℕ)) (a b : ℕ) → has_pair (p ∷ ps) a b ≡ true → ((a ≡ p.0) × (b ≡ p.1)) ⊎ (has_pair ps a b ≡ true)
first_or p ps a b is = at (p.0 == a) (p.1 == b) refl refl is
  where
    at : (x y : Bool) → (p.0 == a) ≡ x → (p.1 == b) ≡ y → ((x && y) || has_pair ps a b) ≡ true → ((a ≡ p.0) × (b ≡ p.1)) ⊎ (has_pair ps a b ≡ true)
    at true true one two is = inl (grind (arith, nat_tests, one), grind (arith, nat_tests, two))
    at true false one two is = inr is
    at false y one two is = inr is

-- the state of a lock and its owner's set
abbrev IsFreeOrTaken : ℕ → List Bool → Type 0
IsFreeOrTaken state set = ((state ≡ 1) × (set ≡ false ∷ [])) ⊎ ((state ≡ 2) × (set ≡ true ∷ []))

one_field : (state : ℕ) (set : List Bool) → IsFreeOrTaken state set → (b : Bool) × (set ≡ b ∷ [])
one_field state set (inl free) = (false, free.1)
one_field state set (inr taken) = (true, taken.1)

-- after a take, and after a release
after_take : (state fun : ℕ) (old new : List Bool) → fun ≡ 2 → IsFreeOrTaken state old → may_lead (fun_at lock_facts.funs fun).effects 0 old new ≡ true → IsFreeOrTaken (state_after lock_facts fun state) new
after_take state fun old new two was leads =
    let one = one_field state old was in
    subst (λ f. IsFreeOrTaken (state_after lock_facts f state) new) (sym two)
    (inr (refl, took one.0 new (subst (λ s. may_lead (fun_at lock_facts.funs 2).effects 0 s new ≡ true) one.1 (subst (λ f. may_lead (fun_at lock_facts.funs f).effects 0 old new ≡ true) two leads))))

after_release : (state fun : ℕ) (old new : List Bool) → fun ≡ 3 → IsFreeOrTaken state old → may_lead (fun_at lock_facts.funs fun).effects 0 old new ≡ true → IsFreeOrTaken (state_after lock_facts fun state) new
after_release state fun old new three was leads =
    let one = one_field state old was in
    subst (λ f. IsFreeOrTaken (state_after lock_facts f state) new) (sym three)
    (inl (refl, gave one.0 new (subst (λ s. may_lead (fun_at lock_facts.funs 3).effects 0 s new ≡ true) one.1 (subst (λ f. may_lead (fun_at lock_facts.funs f).effects 0 old new ≡ true) three leads))))

not_freed : (fun : ℕ) → fun ≡ 4 → (fun_at lock_facts.funs fun).terminal ≡ false → ⊥
not_freed fun four goes_on = let ends = ap (λ f. (fun_at lock_facts.funs f).terminal) four in cc (goes_on, ends)

-- a call on a lock that doesn't end it leaves it free or taken
step_at : (state fun : ℕ) (old new : List Bool) → IsFreeOrTaken state old → moves_on i state fun ≡ true → (fun_at lock_facts.funs fun).terminal ≡ false
    → may_lead (fun_at lock_facts.funs fun).effects 0 old new ≡ true → IsFreeOrTaken (state_after lock_facts fun state) new
step_at state fun old new was moves goes_on leads = elim (first_or (1, 2) ((1, 4) ∷ (2, 2) ∷ (2, 3) ∷ (2, 4) ∷ []) state fun moves) [
  | inl it ↦ after_take state fun old new it.1 was leads
  | inr others ↦ elim (first_or (1, 4) ((2, 2) ∷ (2, 3) ∷ (2, 4) ∷ []) state fun others) [
    | inl it ↦ absurd (not_freed fun it.1 goes_on)
    | inr more ↦ elim (first_or (2, 2) ((2, 3) ∷ (2, 4) ∷ []) state fun more) [
      | inl it ↦ after_take state fun old new it.1 was leads
      | inr two ↦ elim (first_or (2, 3) ((2, 4) ∷ []) state fun two) [
        | inl it ↦ after_release state fun old new it.1 was leads
        | inr one ↦ elim (first_or (2, 4) [] state fun one) [
          | inl it ↦ absurd (not_freed fun it.1 goes_on)
          | inr none ↦ absurd (cc none)
        ]
      ]
    ]
  ]
]

made_at : (fun : ℕ) (set : List Bool) → fun ≡ 1 → may_lead (fun_at lock_facts.funs fun).effects 0 (false ∷ []) set ≡ true → IsLockAt fun (state_after lock_facts fun fun) set
made_at fun set one leads =
    subst (λ f. may_lead (fun_at lock_facts.funs f).effects 0 (false ∷ []) set ≡ true → IsLockAt f (state_after lock_facts f f) set) (sym one) (λ l. (refl, inl (refl, no_owner set l))) leads

reach : (by state : ℕ) (set : List Bool) → IsReachable i by state set → IsLockAt by state set
reach by state set (made fun set' declared creation leads) = made_at fun set' (maker fun declared creation) leads
reach by state set (moved by' fun state' old new reached moves goes_on leads) =
    let was = reach by' state' old reached in
    (was.0, step_at state' fun old new was.1 moves goes_on leads)

free : IsReachable i 1 1 (false ∷ [])
free = made 1 (false ∷ []) refl refl refl

taken : IsReachable i 1 2 (true ∷ [])
taken = moved 1 2 1 (false ∷ []) (true ∷ []) free refl refl refl

-- ---- the interface fits

by_fun : (P : ℕ → Type 0) → P 1 → P 2 → P 3 → P 4 → (f : ℕ) → declares i f ≡ true → P f
by_fun P one two three four f declared = elim (declared_four f declared) [
  | inl is ↦ subst P (sym is) one
  | inr rest ↦ elim rest [
    | inl is ↦ subst P (sym is) two
    | inr more ↦ elim more [
      | inl is ↦ subst P (sym is) three
      | inr is ↦ subst P (sym is) four
    ]
  ]
]

pair_declared : (ps : List (ℕ × ℕ)) → ((a b : ℕ) → has_pair ps a b ≡ true → (declares i a ≡ true) × (declares i b ≡ true)) → (p : ℕ × ℕ) → (declares i p.0 ≡ true) × (declares i p.1 ≡ true)
    → (a b : ℕ) → has_pair (p ∷ ps) a b ≡ true → (declares i a ≡ true) × (declares i b ≡ true)
pair_declared ps so p own a b is = elim (first_or p ps a b is) [
  | inl it ↦ (ap (declares i) it.0 ∙ own.0, ap (declares i) it.1 ∙ own.1)
  | inr more ↦ so a b more
]

none_declared : (a b : ℕ) → has_pair [] a b ≡ true → (declares i a ≡ true) × (declares i b ≡ true)
none_declared a b is = absurd (cc is)

lock_fits : Fits i
lock_fits = record {
  funs = by_fun (λ f. f ≤ 4) (omega arith) (omega arith) (omega arith) (omega arith);
  moves = λ state fun is. is;
  steps = λ state fun is. is;
  moves_declared = pair_declared ((1, 4) ∷ (2, 2) ∷ (2, 3) ∷ (2, 4) ∷ []) (pair_declared ((2, 2) ∷ (2, 3) ∷ (2, 4) ∷ []) (pair_declared ((2, 3) ∷ (2, 4) ∷ [])
      (pair_declared ((2, 4) ∷ []) (pair_declared [] none_declared (2, 4) (refl, refl)) (2, 3) (refl, refl)) (2, 2) (refl, refl)) (1, 4) (refl, refl)) (1, 2) (refl, refl);
  steps_declared = pair_declared [] none_declared (1, 2) (refl, refl);
  leaves_declared = by_fun (λ f. LeavesDeclared i (fun_at lock_facts.funs f).leaves) tt tt refl tt;
  creation = (1, refl, refl);
  reached = by_fun (λ f. needs_reach i f ≡ true → IsReached i f) (λ is. absurd (cc is)) (λ is. step 1 refl) (λ is. move 1 2 (true ∷ []) taken refl) (λ is. move 1 1 (false ∷ []) free refl);
  walks = λ by state set reached. walk_for by state set (reach by state set reached);
}
  where
    walk_for : (by state : ℕ) (set : List Bool) → IsLockAt by state set → (walk : List ℕ) × (begin_of walk ≡ by) × (restores i walk state set ≡ true) × (length walk ≤ most_calls)
    walk_for by state set (one, inl is) = (1 ∷ [], sym one, ap (λ s. restores i (1 ∷ []) s set) is.0 ∙ ap (restores i (1 ∷ []) 1) is.1, omega arith)
    walk_for by state set (one, inr is) = (1 ∷ 2 ∷ [], sym one, ap (λ s. restores i (1 ∷ 2 ∷ []) s set) is.0 ∙ ap (restores i (1 ∷ 2 ∷ []) 2) is.1, omega arith)

-- ---- the walks

shorter : (m n : ℕ) (b : Bool) → m < n → (nat_lt m n || b) ≡ true
shorter m n b less = let is : nat_lt m n ≡ true = grind (arith, nat_tests, less) in ap (λ x. x || b) is

free_walk : IsWalkOf i (1 ∷ []) 1 1 (false ∷ [])
free_walk = record { begins = refl; restored = refl; short = omega arith; least = least }
  where
    least : (other : List ℕ) → begin_of other ≡ 1 → restores i other 1 (false ∷ []) ≡ true → no_worse (1 ∷ []) other ≡ true
    least [] begins restored = absurd (cc begins)
    least (f ∷ []) begins restored = ap (λ n. no_worse (1 ∷ []) (n ∷ [])) begins
    least (f ∷ g ∷ rest) begins restored = shorter 1 (length (f ∷ g ∷ rest)) ((1 == length (f ∷ g ∷ rest)) && no_later (1 ∷ []) (f ∷ g ∷ rest)) (omega arith)

taken_walk : IsWalkOf i (1 ∷ 2 ∷ []) 1 2 (true ∷ [])
taken_walk = record { begins = refl; restored = refl; short = omega arith; least = least }
  where
    second : (g : ℕ) → restores i (1 ∷ g ∷ []) 2 (true ∷ []) ≡ true → g ≡ 2
    second g restored = at (may_go_on i (first_spot lock_facts 1) g) refl restored
      where
        at : (b : Bool) → may_go_on i (first_spot lock_facts 1) g ≡ b → restores i (1 ∷ g ∷ []) 2 (true ∷ []) ≡ true → g ≡ 2
        at true may restored =
            elim (first_or (1, 2) [] 1 g (second_of (declares i g) (steps_on i 1 g) (not (fun_at lock_facts.funs g).terminal) (not (fun_at lock_facts.funs g).query) may)) [
              | inl it ↦ it.1
              | inr none ↦ absurd (cc none)
            ]
          where
            second_of : (a b c d : Bool) → (a && b && c && d) ≡ true → b ≡ true
            second_of true true c d is = refl
            second_of true false c d is = absurd (cc is)
            second_of false b c d is = absurd (cc is)
        at false may restored =
            let none : restores i (1 ∷ g ∷ []) 2 (true ∷ []) ≡ false = ap (λ b. restores_at (if b then Some (next_spot lock_facts g (first_spot lock_facts 1)) else None) 2 (true ∷ [])) may in
            absurd (false_true (sym none ∙ restored))

    least : (other : List ℕ) → begin_of other ≡ 1 → restores i other 2 (true ∷ []) ≡ true → no_worse (1 ∷ 2 ∷ []) other ≡ true
    least [] begins restored = absurd (cc begins)
    least (f ∷ []) begins restored = absurd (let none = ap (λ n. restores i (n ∷ []) 2 (true ∷ [])) begins in cc (restored, none))
    least (f ∷ g ∷ []) begins restored =
        let two = second g (sym (ap (λ n. restores i (n ∷ g ∷ []) 2 (true ∷ [])) begins) ∙ restored) in
        ap (λ n. no_worse (1 ∷ 2 ∷ []) (n ∷ g ∷ [])) begins ∙ ap (λ n. no_worse (1 ∷ 2 ∷ []) (1 ∷ n ∷ [])) two
    least (f ∷ g ∷ h ∷ rest) begins restored =
        shorter 2 (length (f ∷ g ∷ h ∷ rest)) ((2 == length (f ∷ g ∷ h ∷ rest)) && no_later (1 ∷ 2 ∷ []) (f ∷ g ∷ h ∷ rest)) (omega arith)

-- ---- the tables

abbrev IsLine : WalkLine → Type 0
IsLine line = (set : List Bool) × (number_of set ≡ line.mask) × IsReachable i line.made line.state set × IsWalkOf i line.walk line.made line.state set

each_line : Each IsLine lock_walks
each_line = ((false ∷ [], refl, free, free_walk), ((true ∷ [], refl, taken, taken_walk), tt))

all_lines : (by state : ℕ) (set : List Bool) → IsLockAt by state set → (walk : List ℕ) × (walk_of lock_walks by state (number_of set) ≡ Some walk)
all_lines by state set (one, inl is) = (1 ∷ [], ap (λ b. walk_of lock_walks b state (number_of set)) one ∙ ap (λ s. walk_of lock_walks 1 s (number_of set)) is.0 ∙ ap (λ s. walk_of lock_walks 1 1 (number_of s)) is.1)
all_lines by state set (one, inr is) = (1 ∷ 2 ∷ [], ap (λ b. walk_of lock_walks b state (number_of set)) one ∙ ap (λ s. walk_of lock_walks 1 s (number_of set)) is.0 ∙ ap (λ s. walk_of lock_walks 1 2 (number_of s)) is.1)

in_order : IsAscending lock_walks
in_order zero zero d before within = absurd (omega (arith, before))
in_order zero (suc zero) d before within = refl
in_order zero (suc (suc m)) d before within = absurd (omega (arith, within))
in_order (suc n) zero d before within = absurd (omega (arith, before))
in_order (suc n) (suc zero) d before within = absurd (omega (arith, before))
in_order (suc n) (suc (suc m)) d before within = absurd (omega (arith, within))

pub lock_tables : AreTables i lock_walks
lock_tables = record {
  fits = lock_fits;
  each = λ line its. each_contains IsLine lock_walks line each_line its;
  all = λ by state set reached. all_lines by state set (reach by state set reached);
  ascending = in_order;
}
