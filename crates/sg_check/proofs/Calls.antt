-- Functions that are reached.
use Rattle.std.proofs.Common.{◌≡◌, ◌⊎◌, ℕ, ◌+◌, ◌<◌, Bool, true, false, ◌&&◌, ◌||◌, not, List, [], ◌∷◌, refl, sym, ◌∙◌, ap, subst, inl, inr, arith}
use Rattle.std.specs.Prelude.{◌↔◌, ◌==◌}
use Rattle.std.specs.Cmp.Derive.{both_true}
use Rattle.std.specs.List.{list_any}
use Rattle.std.proofs.lemmas.Bool.{and_parts, cases_Bool}
use Rattle.std.proofs.lemmas.Bool.Decides.{eqb_tells}
use Rattle.sg_check_statements.specs.sg_facts.Fields.{number_of}
use Rattle.sg_check_statements.specs.sg_facts.Fits.{IsReached, move, needs_reach, step}
use Rattle.sg_check_statements.specs.sg_facts.Interface.{Declared, has_pair}
use Rattle.sg_check_statements.specs.sg_facts.Walks.{IsReachable}
use Rattle.sg_walk.specs.declared.place.Triple.{Triple}
use Rattle.sg_check_statements.specs.Inside.Pieces.{IsUnreached}
use Rattle.sg_check.specs.Inside.Numbers.{GainsNumber, has_number}
use Rattle.sg_check.specs.Inside.Reached.{AreStates, AreTriples, AreUnreached, is_reached, is_unreached}

pub or_cases : (a b : Bool) → (a || b) ≡ true → (a ≡ true) ⊎ (b ≡ true)
or_cases true b is = inl refl
or_cases false b is = inr is

pub or_left : (a b : Bool) → a ≡ true → (a || b) ≡ true
or_left true b is = refl
or_left false b is = absurd (cc is)

pub or_right : (a b : Bool) → b ≡ true → (a || b) ≡ true
or_right true b is = refl
or_right false b is = is

pub same_number : (a b : ℕ) → (a == b) ≡ true → a ≡ b
same_number a b is = elim (eqb_tells a b) [ inl same ↦ same.1 | inr other ↦ absurd (cc (is, other.0)) ]

pub number_same : (a b : ℕ) → a ≡ b → (a == b) ≡ true
number_same a b is = elim (eqb_tells a b) [ inl same ↦ same.0 | inr other ↦ absurd (other.1 is) ]

itself : (a : ℕ) → (a == a) ≡ true
itself a = number_same a a refl

-- a function stands second in a pair
second_in : (pairs : List (ℕ × ℕ)) (fun : ℕ) → list_any (λ p. p.1 == fun) pairs ≡ true → (first : ℕ) × (has_pair pairs first fun ≡ true)
second_in [] fun is = absurd (cc is)
second_in (p ∷ pairs) fun is = elim (or_cases (p.1 == fun) (list_any (λ q. q.1 == fun) pairs) is) [
  | inl here ↦ (p.0, or_left ((p.0 == p.0) && (p.1 == fun)) (has_pair pairs p.0 fun) (both_true (itself p.0) here))
  | inr later ↦ let rest = second_in pairs fun later in (rest.0, or_right ((p.0 == rest.0) && (p.1 == fun)) (has_pair pairs rest.0 fun) rest.1)
]

in_second : (pairs : List (ℕ × ℕ)) (first fun : ℕ) → has_pair pairs first fun ≡ true → list_any (λ p. p.1 == fun) pairs ≡ true
in_second [] first fun is = absurd (cc is)
in_second (p ∷ pairs) first fun is = elim (or_cases ((p.0 == first) && (p.1 == fun)) (has_pair pairs first fun) is) [
  | inl here ↦ or_left (p.1 == fun) (list_any (λ q. q.1 == fun) pairs) (and_parts (p.0 == first) (p.1 == fun) here).1
  | inr later ↦ or_right (p.1 == fun) (list_any (λ q. q.1 == fun) pairs) (in_second pairs first fun later)
]

-- it does after one of some states
called_in : (pairs : List (ℕ × ℕ)) (states : List ℕ) (fun : ℕ) → list_any (λ p. (p.1 == fun) && has_number states p.0) pairs ≡ true
    → (state : ℕ) × (has_pair pairs state fun ≡ true) × (has_number states state ≡ true)
called_in [] states fun is = absurd (cc is)
called_in (p ∷ pairs) states fun is = elim (or_cases ((p.1 == fun) && has_number states p.0) (list_any (λ q. (q.1 == fun) && has_number states q.0) pairs) is) [
  | inl here ↦
      let parts = and_parts (p.1 == fun) (has_number states p.0) here in
      (p.0, or_left ((p.0 == p.0) && (p.1 == fun)) (has_pair pairs p.0 fun) (both_true (itself p.0) parts.0), parts.1)
  | inr later ↦ let rest = called_in pairs states fun later in (rest.0, or_right ((p.0 == rest.0) && (p.1 == fun)) (has_pair pairs rest.0 fun) rest.1, rest.2)
]

in_called : (pairs : List (ℕ × ℕ)) (states : List ℕ) (state fun : ℕ) → has_pair pairs state fun ≡ true → has_number states state ≡ true
    → list_any (λ p. (p.1 == fun) && has_number states p.0) pairs ≡ true
in_called [] states state fun is known = absurd (cc is)
in_called (p ∷ pairs) states state fun is known = elim (or_cases ((p.0 == state) && (p.1 == fun)) (has_pair pairs state fun) is) [
  | inl here ↦
      let parts = and_parts (p.0 == state) (p.1 == fun) here in
      or_left ((p.1 == fun) && has_number states p.0) (list_any (λ q. (q.1 == fun) && has_number states q.0) pairs)
      (both_true parts.1 (ap (has_number states) (same_number p.0 state parts.0) ∙ known))
  | inr later ↦ or_right ((p.1 == fun) && has_number states p.0) (list_any (λ q. (q.1 == fun) && has_number states q.0) pairs) (in_called pairs states state fun later known)
]

module _ (i : Declared) (triples : List Triple) (states : List ℕ) (all : AreTriples i triples) (are : AreStates triples states) where
  -- the states are those that descriptors can come to
  to_state : (state : ℕ) → has_number states state ≡ true → (by : ℕ) × (set : List Bool) × IsReachable i by state set
  to_state state is =
      let found = (are state).0 is in
      let reached = all.only found.0 found.1 in
      (found.0.made, reached.0, subst (λ s. IsReachable i found.0.made s reached.0) found.2 reached.2)

  from_state : (by state : ℕ) (set : List Bool) → IsReachable i by state set → has_number states state ≡ true
  from_state by state set reached =
      let t : Triple = record { made = by; state = state; mask = number_of set } in
      (are state).1 (t, all.all t (set, refl, reached), refl)

  reached_to : (fun : ℕ) → is_reached i states fun ≡ true → IsReached i fun
  reached_to fun is = elim (or_cases (list_any (λ p. p.1 == fun) i.steps) (list_any (λ p. (p.1 == fun) && has_number states p.0) i.moves) is) [
    | inl stepped ↦ let s = second_in i.steps fun stepped in step s.0 s.1
    | inr called ↦
        let c = called_in i.moves states fun called in
        let r = to_state c.0 c.2 in
        move r.0 c.0 r.1 r.2 c.1
  ]

  reached_from : (fun : ℕ) → IsReached i fun → is_reached i states fun ≡ true
  reached_from fun (step state is) =
      or_left (list_any (λ p. p.1 == fun) i.steps) (list_any (λ p. (p.1 == fun) && has_number states p.0) i.moves) (in_second i.steps state fun is)
  reached_from fun (move by state set reached is) =
      or_right (list_any (λ p. p.1 == fun) i.steps) (list_any (λ p. (p.1 == fun) && has_number states p.0) i.moves)
      (in_called i.moves states state fun is (from_state by state set reached))

  not_both : (b : Bool) → not b ≡ true → b ≡ true → ⊥
  not_both true is other = cc is
  not_both false is other = cc other

  not_true : (b : Bool) → b ≡ false → not b ≡ true
  not_true b is = ap not is

  unreached_to : (fun : ℕ) → is_unreached i states fun ≡ true → IsUnreached i fun
  unreached_to fun is =
      let parts = and_parts (needs_reach i fun) (not (is_reached i states fun)) is in
      (parts.0, λ reached. not_both (is_reached i states fun) parts.1 (reached_from fun reached))

  pub reached_known : (fun : ℕ) → IsReached i fun ⊎ (IsReached i fun → ⊥)
  reached_known fun = elim (cases_Bool (is_reached i states fun)) [
    | inl is ↦ inl (reached_to fun is)
    | inr isn't ↦ inr (λ reached. let is = reached_from fun reached in cc (is, isn't))
  ]

  unreached_from : (fun : ℕ) → IsUnreached i fun → is_unreached i states fun ≡ true
  unreached_from fun (needs, not_reached) = both_true needs (elim (cases_Bool (is_reached i states fun)) [
    | inl is ↦ absurd (not_reached (reached_to fun is))
    | inr isn't ↦ not_true (is_reached i states fun) isn't
  ])

  -- all functions were looked at
  pub all_unreached : (numbers : List ℕ) → ((fun : ℕ) → (has_number numbers fun ≡ true) ↔ ((fun < 33) × (is_unreached i states fun ≡ true))) → AreUnreached i numbers
  all_unreached numbers told = record {
    are = λ fun few. (
      λ is. unreached_to fun ((told fun).0 is).1,
      λ is. (told fun).1 (omega (arith, few), unreached_from fun is),
    );
    known = reached_known;
  }

-- the functions that were looked at, and one more
module _ (test : ℕ → Bool) (looked : ℕ) (old : List ℕ) (told : (fun : ℕ) → (has_number old fun ≡ true) ↔ ((fun < looked) × (test fun ≡ true))) where
  pub more_marked : (new : List ℕ) → GainsNumber old new looked → test looked ≡ true
      → (fun : ℕ) → (has_number new fun ≡ true) ↔ ((fun < looked + 1) × (test fun ≡ true))
  more_marked new gains is fun = (
    λ has. elim (or_cases (has_number old fun) (looked == fun) (sym (gains fun) ∙ has)) [
      | inl before ↦ let b = (told fun).0 before in (omega (arith, b.0), b.1)
      | inr here ↦ let same : looked ≡ fun = same_number looked fun here in (omega (arith, same), ap test (sym same) ∙ is)
    ],
    λ (few, passes). gains fun ∙ elim (eqb_tells looked fun) [
      | inl same ↦ or_right (has_number old fun) (looked == fun) same.0
      | inr other ↦ or_left (has_number old fun) (looked == fun) ((told fun).1 (omega (arith, few, other.1), passes))
    ],
  )

  pub more_passed : test looked ≡ false → (fun : ℕ) → (has_number old fun ≡ true) ↔ ((fun < looked + 1) × (test fun ≡ true))
  more_passed isn't fun = (
    λ has. let b = (told fun).0 has in (omega (arith, b.0), b.1),
    λ (few, passes). elim (eqb_tells looked fun) [
      | inl same ↦ absurd (let there : test looked ≡ true = ap test same.1 ∙ passes in cc (isn't, there))
      | inr other ↦ (told fun).1 (omega (arith, few, other.1), passes)
    ],
  )

-- none was looked at
pub none_marked : (test : ℕ → Bool) (numbers : List ℕ) → numbers ≡ [] → (fun : ℕ) → (has_number numbers fun ≡ true) ↔ ((fun < 0) × (test fun ≡ true))
none_marked test numbers none fun = (
  λ has. let no : has_number [] fun ≡ true = ap (λ l. has_number l fun) (sym none) ∙ has in absurd (cc no),
  λ (few, passes). absurd (omega (arith, few)),
)
