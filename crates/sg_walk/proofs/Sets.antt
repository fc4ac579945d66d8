-- Sets of fields and their numbers.
use Rattle.std.proofs.Common.{◌≡◌, ℕ, ◌+◌, ◌*◌, ◌/◌, ◌%◌, Bool, true, false, List, [], ◌∷◌, None, Some, refl, sym, ◌∙◌, ap, inl, inr, arith}
use Rattle.std.specs.Prelude.{◌==◌, ◌↔◌, if◌then◌else◌, IsTrue}
use Rattle.std.specs.Cmp.Derive.{both_true}
use Rattle.std.specs.declared.option.Option.{Option}
use Rattle.std.proofs.lemmas.Bool.{cases_Bool, and_parts}
use Rattle.std.proofs.lemmas.Bool.Decides.{nat_tests}
use Rattle.sg_facts.specs.Fields.{number_of}
use Rattle.sg_facts.specs.Interface.{Declared}
use Rattle.sg_facts.specs.Walks.{FieldMark as Known, Spot as Place, spot_of, restores_fields}
use Rattle.sg_facts.specs.Inside.Walking.{restores_field, restores_at, Restores}
use Rattle.sg_walk.specs.declared.spot.Goal.{Goal}
use Rattle.sg_walk.specs.Inside.Spots.{restores_number, is_goal_at, reaches}

-- the number of a set with one field before
number_from : (n rest : ℕ) → rest ≡ n / 2 → (if (n % 2 == 1) then 1 else 0) + 2 * rest ≡ n
number_from n rest is = elim (cases_Bool (n % 2 == 1)) [
  | inl odd ↦ let one : n % 2 ≡ 1 = grind (arith, nat_tests) in rw odd (omega arith)
  | inr even ↦ let none : n % 2 ≡ 0 = grind (arith, nat_tests) in rw even (omega arith)
]

first_bit : (b : Bool) (rest : ℕ) → (((if b then 1 else 0) + 2 * rest) % 2 == 1) ≡ b
first_bit true rest = let one : (1 + 2 * rest) % 2 ≡ 1 = omega arith in rw one
first_bit false rest = let none : (0 + 2 * rest) % 2 ≡ 0 = omega arith in rw none

other_bits : (b : Bool) (rest : ℕ) → ((if b then 1 else 0) + 2 * rest) / 2 ≡ rest
other_bits true rest = omega arith
other_bits false rest = omega arith

-- marks that restore a number restore a set that has it
set_from : (marks : List Known) (n : ℕ) → restores_number marks n ≡ true → (set : List Bool) × (number_of set ≡ n) × (restores_fields marks set ≡ true)
set_from [] n is = ([], grind (arith, nat_tests, is), refl)
set_from (m ∷ marks) n is =
    let parts = and_parts (restores_field m (n % 2 == 1)) (restores_number marks (n / 2)) is in
    let rest = set_from marks (n / 2) parts.1 in
    ((n % 2 == 1) ∷ rest.0, number_from n (number_of rest.0) rest.1, both_true parts.0 rest.2)

-- and the other way round
number_restored : (marks : List Known) (set : List Bool) → restores_fields marks set ≡ true → restores_number marks (number_of set) ≡ true
number_restored [] [] is = refl
number_restored [] (b ∷ set) is = absurd (cc is)
number_restored (m ∷ marks) [] is = absurd (cc is)
number_restored (m ∷ marks) (b ∷ set) is =
    let parts = and_parts (restores_field m b) (restores_fields marks set) is in
    rw (first_bit b (number_of set), other_bits b (number_of set), parts.0) (number_restored marks set parts.1)

-- where a spot is what is sought, some set is restored there that has the number
pub goal_restores : (s : Option Place) (goal : Goal) → is_goal_at s goal ≡ true → (set : List Bool) × (number_of set ≡ goal.mask) × (restores_at s goal.state set ≡ true)
goal_restores None goal is = absurd (cc is)
goal_restores (Some s) goal is =
    let parts = and_parts (s.state == goal.state) (restores_number s.marks goal.mask) is in
    let found = set_from s.marks goal.mask parts.1 in
    (found.0, found.1, both_true parts.0 found.2)

pub goal_reached : (s : Option Place) (goal : Goal) (set : List Bool) → number_of set ≡ goal.mask → restores_at s goal.state set ≡ true → is_goal_at s goal ≡ true
goal_reached None goal set number is = absurd (cc is)
goal_reached (Some s) goal set number is =
    let parts = and_parts (s.state == goal.state) (restores_fields s.marks set) is in
    rw (parts.0, ← number) (number_restored s.marks set parts.1)

-- a walk leads to what is sought where it restores some set that has the number
pub restored : (i : Declared) (walk lent : List ℕ) (goal : Goal) (r : Bool) → lent ≡ walk → r ≡ reaches i lent goal
    → IsTrue r ↔ ((set : List Bool) × (number_of set ≡ goal.mask) × Restores i walk goal.state set)
restored i walk lent goal r same is =
    let it : r ≡ reaches i walk goal = is ∙ ap (λ w. reaches i w goal) same in (
      λ t. goal_restores (spot_of i walk) goal (sym it ∙ t),
      λ h. it ∙ goal_reached (spot_of i walk) goal h.0 h.1 h.2,
    )
