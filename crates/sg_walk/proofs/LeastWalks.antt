-- The least walk that leads to what is sought, with sets for their numbers.
use Rattle.std.proofs.Common.{◌≡◌, ℕ, ◌≤◌, Bool, true, false, List, length, inl, inr}
use Rattle.std.proofs.lemmas.Bool.{cases_Bool}
use Rattle.sg_facts.specs.Fields.{number_of}
use Rattle.sg_facts.specs.Interface.{Declared}
use Rattle.sg_facts.specs.Walks.{IsWalkOf, begin_of, most_calls, restores, spot_of}
use Rattle.sg_walk.specs.declared.spot.Goal.{Goal}
use Rattle.sg_walk.specs.Inside.Spots.{reaches}
use Rattle.sg_walk.specs.Inside.Search.{IsLeast, NoWalkLeads}
use Rattle.sg_walk.proofs.Sets.{goal_restores, goal_reached}

pub with_set : (i : Declared) (made state mask : ℕ) (walk : List ℕ) → IsLeast i made (record { state = state; mask = mask }) walk
    → (set : List Bool) × (number_of set ≡ mask) × IsWalkOf i walk made state set
with_set i made state mask walk least =
    let goal : Goal = record { state = state; mask = mask } in
    let set = goal_restores (spot_of i walk) goal least.reached in (
      set.0,
      set.1,
      record {
        begins = least.begins;
        restored = set.2;
        short = least.short;
        least = λ other begin is. least.least other begin (goal_reached (spot_of i other) goal set.0 set.1 is);
      },
    )

pub without_set : (i : Declared) (made state mask : ℕ) → NoWalkLeads i made (record { state = state; mask = mask })
    → (walk : List ℕ) (set : List Bool) → begin_of walk ≡ made → length walk ≤ most_calls → number_of set ≡ mask → restores i walk state set ≡ false
without_set i made state mask unreached walk set begin short number = elim (cases_Bool (restores i walk state set)) [
  | inl is ↦
      let reached : reaches i walk (record { state = state; mask = mask }) ≡ true = goal_reached (spot_of i walk) (record { state = state; mask = mask }) set number is in
      let not_reached : reaches i walk (record { state = state; mask = mask }) ≡ false = unreached walk begin short in
      absurd (cc (reached, not_reached))
  | inr is ↦ is
]
