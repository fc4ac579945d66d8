-- An interface that declares the first functions of a shape fits, where a list of what its descriptors can come to passes a check.
use Rattle.std.proofs.Common.{◌≡◌, ◌⊎◌, inl, inr, ℕ, zero, suc, ◌+◌, ◌-◌, ◌≤◌, Bool, true, false, ◌&&◌, ◌||◌, List, [], ◌∷◌, length, refl, ◌∙◌, ap, subst, arith}
use Rattle.std.specs.Prelude.{◌==◌, ◌^◌, nat_le, not}
use Rattle.std.specs.Int.{bit_at}
use Rattle.std.specs.List.{list_all, list_any}
use Rattle.std.proofs.lemmas.Bool.{and_parts, cases_lt}
use Rattle.std.proofs.lemmas.Bool.Decides.{nat_tests}
use Rattle.std.proofs.lemmas.Nat.Bits.{bit_at_ones_above}
use Rattle.sg_facts.specs.declared.shape.Effect.{Effect}
use Rattle.sg_facts.specs.Facts.{fun_at, state_after}
use Rattle.sg_facts.specs.Fits.{Fits, IsReached, needs_reach}
use Rattle.sg_facts.specs.Inside.Walking.{LeavesDeclared, none_set}
use Rattle.sg_facts.specs.Interface.{Declared, declares, has_pair, moves_on}
use Rattle.sg_facts.specs.Walks.{IsReachable, begin_of, made, may_lead, moved, most_calls, restores}

-- ---- tests

abbrev implies : Bool → Bool → Bool
implies true b = b
implies false b = true

follows : (a b : Bool) → implies a b ≡ true → a ≡ true → b ≡ true
follows true b so is = so
follows false b so is = absurd (cc is)

either : (a b : Bool) → (a || b) ≡ true → (a ≡ true) ⊎ (b ≡ true)
either true b is = inl refl
either false b is = inr is

not_true : (b : Bool) → b ≡ false → not b ≡ true
not_true true is = absurd (cc is)
not_true false is = refl

same_number : (a b : ℕ) → (a == b) ≡ true → a ≡ b
same_number a b is = grind (arith, nat_tests, is)

equal_number : (a : ℕ) → (a == a) ≡ true
equal_number a = grind (arith, nat_tests)

within : (a b : ℕ) → nat_le a b ≡ true → a ≤ b
within a b is = grind (arith, nat_tests, is)

abbrev same_set : List Bool → List Bool → Bool
same_set [] [] = true
same_set [] (b ∷ bs) = false
same_set (a ∷ as') [] = false
same_set (true ∷ as') (b ∷ bs) = b && same_set as' bs
same_set (false ∷ as') (b ∷ bs) = not b && same_set as' bs

same_set_is : (a b : List Bool) → same_set a b ≡ true → a ≡ b
same_set_is [] [] is = refl
same_set_is [] (b ∷ bs) is = absurd (cc is)
same_set_is (a ∷ as') [] is = absurd (cc is)
same_set_is (true ∷ as') (true ∷ bs) is = ap (λ s. true ∷ s) (same_set_is as' bs is)
same_set_is (true ∷ as') (false ∷ bs) is = absurd (cc is)
same_set_is (false ∷ as') (true ∷ bs) is = absurd (cc is)
same_set_is (false ∷ as') (false ∷ bs) is = ap (λ s. false ∷ s) (same_set_is as' bs is)

-- ---- every set of fields

-- whether a test holds of every list of so many
abbrev every : ℕ → (List Bool → Bool) → Bool
every zero test = test []
every (suc n) test = every n (λ s. test (true ∷ s)) && every n (λ s. test (false ∷ s))

passes : (n : ℕ) (test : List Bool → Bool) (set : List Bool) → length set ≡ n → every n test ≡ true → test set ≡ true
passes zero test [] is all = all
passes zero test (b ∷ set) is all = absurd (omega (arith, is))
passes (suc n) test [] is all = absurd (omega (arith, is))
passes (suc n) test (true ∷ set) is all =
    passes n (λ s. test (true ∷ s)) set (omega (arith, is)) (and_parts (every n (λ s. test (true ∷ s))) (every n (λ s. test (false ∷ s))) all).0
passes (suc n) test (false ∷ set) is all =
    passes n (λ s. test (false ∷ s)) set (omega (arith, is)) (and_parts (every n (λ s. test (true ∷ s))) (every n (λ s. test (false ∷ s))) all).1

as_many : (effects : List (ℕ × Effect)) (x : ℕ) (old new : List Bool) → may_lead effects x old new ≡ true → length new ≡ length old
as_many effects x [] [] leads = refl
as_many effects x [] (n ∷ news) leads = absurd (cc leads)
as_many effects x (o ∷ olds) [] leads = absurd (cc leads)
as_many effects x (o ∷ olds) (n ∷ news) leads = ap suc (as_many effects (x + 1) olds news (and_parts _ _ leads).1)

-- ---- every function

-- what holds of each number from 1 to another
abbrev pub UpTo : (ℕ → Type 0) → ℕ → Type 0
UpTo P zero = Unit {0}
UpTo P (suc n) = UpTo P n × P (suc n)

one_of : (P : ℕ → Type 0) (n f : ℕ) → UpTo P n → 1 ≤ f → f ≤ n → P f
one_of P zero f all low high = absurd (omega (arith, low, high))
one_of P (suc n) f all low high = elim (cases_lt f (suc n)) [
  | inl less ↦ one_of P n f all.0 low (omega (arith, less))
  | inr more ↦ let it : suc n ≡ f = omega (arith, more, high) in subst P it all.1
]

-- the functions that are declared
declared_within : (n f : ℕ) → (nat_le 1 f && (bit_at (2 ^ n - 1) (f - 1) == 1)) ≡ true → (1 ≤ f) × (f ≤ n)
declared_within n f is =
    let both = and_parts (nat_le 1 f) (bit_at (2 ^ n - 1) (f - 1) == 1) is in
    let low : 1 ≤ f = within 1 f both.0 in
    elim (cases_lt (f - 1) n) [
      | inl less ↦ (low, omega (arith, low, less))
      | inr more ↦ absurd (let one : bit_at (2 ^ n - 1) (f - 1) ≡ 1 = same_number _ _ both.1 in
          let none = bit_at_ones_above n (f - 1) more in
          omega (arith, one, none))
    ]

-- ---- pairs

first_or : (p : ℕ × ℕ) (ps : List (ℕ × ℕ)) (a b : ℕ) → has_pair (p ∷ ps) a b ≡ true → ((p.0 ≡ a) × (p.1 ≡ b)) ⊎ (has_pair ps a b ≡ true)
first_or p ps a b is = elim (either ((p.0 == a) && (p.1 == b)) (has_pair ps a b) is) [
  | inl first ↦ let both = and_parts (p.0 == a) (p.1 == b) first in inl (same_number p.0 a both.0, same_number p.1 b both.1)
  | inr others ↦ inr others
]

pair_passes : (test : ℕ × ℕ → Bool) (ps : List (ℕ × ℕ)) (a b : ℕ) → has_pair ps a b ≡ true → list_all test ps ≡ true → test (a, b) ≡ true
pair_passes test [] a b is all = absurd (cc is)
pair_passes test (p ∷ ps) a b is all =
    let both = and_parts (test p) (list_all test ps) all in
    elim (first_or p ps a b is) [
      | inl it ↦ subst (λ x. test (x, b) ≡ true) it.0 (subst (λ y. test (p.0, y) ≡ true) it.1 both.0)
      | inr others ↦ pair_passes test ps a b others both.1
    ]

-- ---- lines

-- what a descriptor can come to, and the walk that restores it
pub record Line : Type 0 where
  pub by : ℕ
  pub state : ℕ
  pub set : List Bool
  pub walk : List ℕ

abbrev pub line : ℕ → ℕ → List Bool → List ℕ → Line
line by state set walk = record { by = by; state = state; set = set; walk = walk }

abbrev is_line : ℕ → ℕ → List Bool → Line → Bool
is_line by state set l = (l.by == by) && (l.state == state) && same_set l.set set

abbrev knows : List Line → ℕ → ℕ → List Bool → Bool
knows lines by state set = list_any (is_line by state set) lines

at_line : (test : Line → Bool) (l : Line) (by state : ℕ) (set : List Bool) → is_line by state set l ≡ true → test l ≡ true → test (line by state set l.walk) ≡ true
at_line test l by state set is so =
    let parts = and_parts ((l.by == by) && (l.state == state)) (same_set l.set set) is in
    let numbers = and_parts (l.by == by) (l.state == state) parts.0 in
    subst (λ x. test (line x state set l.walk) ≡ true) (same_number l.by by numbers.0)
    (subst (λ x. test (line l.by x set l.walk) ≡ true) (same_number l.state state numbers.1)
    (subst (λ x. test (line l.by l.state x l.walk) ≡ true) (same_set_is l.set set parts.1) so))

line_passes : (test : Line → Bool) (lines : List Line) (by state : ℕ) (set : List Bool) → knows lines by state set ≡ true → list_all test lines ≡ true
    → (walk : List ℕ) × (test (line by state set walk) ≡ true)
line_passes test [] by state set is all = absurd (cc is)
line_passes test (l ∷ lines) by state set is all =
    let both = and_parts (test l) (list_all test lines) all in
    elim (either (is_line by state set l) (knows lines by state set) is) [
      | inl it ↦ (l.walk, at_line test l by state set it both.0)
      | inr others ↦ line_passes test lines by state set others both.1
    ]

-- ---- the check

-- of an interface that declares so many functions, the first of its shape
module _ (i : Declared) (count : ℕ) (lines : List Line) where
  -- whether a function is a creation that leads to lines alone
  abbrev pub makes_lines : ℕ → Bool
  makes_lines fun =
      implies (fun_at i.facts.funs fun).creation (every (length i.facts.fields) (λ set.
      implies (may_lead (fun_at i.facts.funs fun).effects 0 (none_set i.facts.fields) set) (knows lines fun (state_after i.facts fun fun) set)))

  -- whether a call of a function leads from a line to lines alone
  abbrev leads_to_lines : Line → ℕ × ℕ → Bool
  leads_to_lines l p =
      implies (p.0 == l.state) (implies (not (fun_at i.facts.funs p.1).terminal) (every (length i.facts.fields) (λ new.
      implies (may_lead (fun_at i.facts.funs p.1).effects 0 l.set new) (knows lines l.by (state_after i.facts p.1 l.state) new))))

  -- whether a line's walk restores it, with a field for each of the shape's, and calls lead from it to lines alone
  abbrev pub is_good : Line → Bool
  is_good l =
      (begin_of l.walk == l.by) && restores i l.walk l.state l.set && nat_le (length l.walk) most_calls
      && (length l.set == length i.facts.fields) && list_all (leads_to_lines l) i.moves

  abbrev pub are_declared : ℕ × ℕ → Bool
  are_declared p = declares i p.0 && declares i p.1

  abbrev pub is_of : List (ℕ × ℕ) → ℕ × ℕ → Bool
  is_of pairs p = has_pair pairs p.0 p.1

  -- the lines pass the check, and so do the transitions, the recover steps and the functions
  pub record IsChecked : Type 0 where
    pub declared : i.declared ≡ 2 ^ count - 1
    pub few : nat_le count (length i.facts.funs) ≡ true
    pub moves_of : list_all (is_of i.facts.moves) i.moves ≡ true
    pub steps_of : list_all (is_of i.facts.steps) i.steps ≡ true
    pub moves : list_all are_declared i.moves ≡ true
    pub steps : list_all are_declared i.steps ≡ true
    pub leaves : UpTo (λ f. LeavesDeclared i (fun_at i.facts.funs f).leaves) count
    pub creation : (declares i 1 && (fun_at i.facts.funs 1).creation) ≡ true
    pub reached : UpTo (λ f. needs_reach i f ≡ true → IsReached i f) count
    pub made : UpTo (λ f. makes_lines f ≡ true) count
    pub good : list_all is_good lines ≡ true

  module _ (checked : IsChecked) where
    of_count : (fun : ℕ) → declares i fun ≡ true → (1 ≤ fun) × (fun ≤ count)
    of_count fun is = declared_within count fun (subst (λ d. (nat_le 1 fun && (bit_at d (fun - 1) == 1)) ≡ true) checked.declared is)

    of_fun : (P : ℕ → Type 0) → UpTo P count → (fun : ℕ) → declares i fun ≡ true → P fun
    of_fun P all fun declared = let is = of_count fun declared in one_of P count fun all is.0 is.1

    pair_declared : (ps : List (ℕ × ℕ)) → list_all are_declared ps ≡ true → (a b : ℕ) → has_pair ps a b ≡ true
        → (declares i a ≡ true) × (declares i b ≡ true)
    pair_declared ps all a b is = and_parts (declares i a) (declares i b) (pair_passes are_declared ps a b is all)

    -- what is made is a line
    made_known : (fun : ℕ) (set : List Bool) → declares i fun ≡ true → (fun_at i.facts.funs fun).creation ≡ true
        → may_lead (fun_at i.facts.funs fun).effects 0 (none_set i.facts.fields) set ≡ true → length (none_set i.facts.fields) ≡ length i.facts.fields
        → knows lines fun (state_after i.facts fun fun) set ≡ true
    made_known fun set declared creates leads many =
        let test : List Bool → Bool = λ s. implies (may_lead (fun_at i.facts.funs fun).effects 0 (none_set i.facts.fields) s) (knows lines fun (state_after i.facts fun fun) s) in
        let all = follows (fun_at i.facts.funs fun).creation (every (length i.facts.fields) test) (of_fun (λ f. makes_lines f ≡ true) checked.made fun declared) creates in
        follows _ _ (passes (length i.facts.fields) test set (as_many (fun_at i.facts.funs fun).effects 0 (none_set i.facts.fields) set leads ∙ many) all) leads

    -- what comes of a line is a line
    moved_known : (by fun state : ℕ) (old new : List Bool) → knows lines by state old ≡ true → moves_on i state fun ≡ true
        → (fun_at i.facts.funs fun).terminal ≡ false → may_lead (fun_at i.facts.funs fun).effects 0 old new ≡ true → knows lines by (state_after i.facts fun state) new ≡ true
    moved_known by fun state old new known moves goes_on leads =
        let it = line_passes is_good lines by state old known checked.good in
        let l : Line = line by state old it.0 in
        let parts = and_parts _ (list_all (leads_to_lines l) i.moves) it.1 in
        let many = same_number (length old) (length i.facts.fields) (and_parts _ (length old == length i.facts.fields) parts.0).1 in
        let test : List Bool → Bool = λ s. implies (may_lead (fun_at i.facts.funs fun).effects 0 old s) (knows lines by (state_after i.facts fun state) s) in
        let here = pair_passes (leads_to_lines l) i.moves state fun moves parts.1 in
        let going = follows (state == state) (implies (not (fun_at i.facts.funs fun).terminal) (every (length i.facts.fields) test)) here (equal_number state) in
        let all = follows (not (fun_at i.facts.funs fun).terminal) (every (length i.facts.fields) test) going (not_true (fun_at i.facts.funs fun).terminal goes_on) in
        follows _ _ (passes (length i.facts.fields) test new (as_many (fun_at i.facts.funs fun).effects 0 old new leads ∙ many) all) leads

    none_many : (fields : List _) → length (none_set fields) ≡ length fields
    none_many [] = refl
    none_many (f ∷ fields) = ap suc (none_many fields)

    known : (by state : ℕ) (set : List Bool) → IsReachable i by state set → knows lines by state set ≡ true
    known by state set (made fun set' declared creates leads) = made_known fun set' declared creates leads (none_many i.facts.fields)
    known by state set (moved by' fun state' old new reached moves goes_on leads) =
        moved_known by' fun state' old new (known by' state' old reached) moves goes_on leads

    walk_for : (by state : ℕ) (set : List Bool) → knows lines by state set ≡ true
        → (walk : List ℕ) × (begin_of walk ≡ by) × (restores i walk state set ≡ true) × (length walk ≤ most_calls)
    walk_for by state set is =
        let it = line_passes is_good lines by state set is checked.good in
        let first = (and_parts _ _ (and_parts _ _ it.1).0).0 in
        let short = and_parts _ (nat_le (length it.0) most_calls) first in
        let both = and_parts (begin_of it.0 == by) (restores i it.0 state set) short.0 in
        (it.0, same_number (begin_of it.0) by both.0, both.1, within (length it.0) most_calls short.1)

    pub fits : Fits i
    fits = record {
      funs = λ fun declared. let some = (of_count fun declared).1 in let few = within count (length i.facts.funs) checked.few in omega (arith, some, few);
      moves = λ state fun is. pair_passes (is_of i.facts.moves) i.moves state fun is checked.moves_of;
      steps = λ state fun is. pair_passes (is_of i.facts.steps) i.steps state fun is checked.steps_of;
      moves_declared = pair_declared i.moves checked.moves;
      steps_declared = pair_declared i.steps checked.steps;
      leaves_declared = of_fun (λ f. LeavesDeclared i (fun_at i.facts.funs f).leaves) checked.leaves;
      creation = let both = and_parts (declares i 1) (fun_at i.facts.funs 1).creation checked.creation in (1, both.0, both.1);
      reached = λ fun declared. of_fun (λ f. needs_reach i f ≡ true → IsReached i f) checked.reached fun declared;
      walks = λ by state set reached. walk_for by state set (known by state set reached);
    }
