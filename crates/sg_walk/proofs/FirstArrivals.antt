-- The first arrival that restores something has the least walk that does.
use Rattle.std.proofs.Common.{◌≡◌, ℕ, zero, suc, ◌<◌, ◌≤◌, ◌^◌, true, false, List, [], ◌∷◌, length, None, Some, refl, sym, ◌∙◌, ap, subst, inl, inr, arith}
use Rattle.std.specs.List.{AllPairs, Contains}
use Rattle.std.specs.declared.option.Option.{Option}
use Rattle.std.proofs.lemmas.Bool.{cases_Bool, cases_lt}
use Rattle.std.proofs.lemmas.List.Elements.{Contains-append_right}
use Rattle.sg_facts.specs.Interface.{Declared, declares}
use Rattle.sg_facts.specs.Walks.{Spot as Place, begin_of, spot_of}
use Rattle.sg_facts.specs.Inside.Walking.{no_worse}
use Rattle.sg_walk.specs.LeastWalks.{IsTheWalk}
use Rattle.sg_walk.specs.declared.spot.Goal.{Goal}
use Rattle.sg_walk.specs.declared.spot.Spot.{Spot}
use Rattle.sg_walk.specs.Inside.Spots.{is_goal, is_goal_at, reaches, shown}
use Rattle.sg_walk.specs.Inside.Search.{IsLeast, NoWalkLeads}
use Rattle.sg_walk.specs.Inside.Arrivals.{AreArrivals, Arrives, IsBefore, first_walk, order_of}
use Rattle.sg_walk.proofs.GoingOn.{none_found}
use Rattle.sg_walk.proofs.LeastWalks.{with_set, without_set}
use Rattle.sg_walk.proofs.Orders.{funs_of, no_begin, no_worse_long, no_worse_of}
use Rattle.sg_walk.proofs.ReachedStates.Closure.{one_value}

-- ---- the first arrival

-- a walk is that of an arrival where the goal is met, and no arrival before is such
record IsFirst (i : Declared) (goal : Goal) (found : List (Spot × List ℕ)) (walk : List ℕ) : Type 0 where
  pub spot : Spot
  pub among : Contains found (spot, walk)
  pub meets : is_goal (shown i spot) goal ≡ true
  pub first : (other : Spot × List ℕ) → Contains found other → is_goal (shown i other.0) goal ≡ true → order_of walk ≤ order_of other.1

later : (a : Spot × List ℕ) (found : List (Spot × List ℕ)) → AllPairs IsBefore (a ∷ found) → AllPairs IsBefore found
later a found ordered x y d less within = ordered (suc x) (suc y) d (omega (arith, less)) (omega (arith, within))

-- the first of all comes first
ahead : (a : Spot × List ℕ) (found : List (Spot × List ℕ)) → AllPairs IsBefore (a ∷ found) → (other : Spot × List ℕ) → Contains (a ∷ found) other → order_of a.1 ≤ order_of other.1
ahead a found ordered other (zero, within, is) = subst (λ o. order_of a.1 ≤ order_of o.1) is (omega arith)
ahead a found ordered other (suc k, within, is) =
    let b = ordered 0 (suc k) other (omega arith) within in
    let up : order_of a.1 ≤ order_of other.1 = subst (λ o. order_of a.1 ≤ order_of o.1) is (omega (arith, b.0)) in
    up

-- where the first of all isn't such
first_rest : (i : Declared) (goal : Goal) (a : Spot × List ℕ) (found : List (Spot × List ℕ)) (walk : List ℕ) → is_goal (shown i a.0) goal ≡ false → IsFirst i goal found walk
    → (other : Spot × List ℕ) → Contains (a ∷ found) other → is_goal (shown i other.0) goal ≡ true → order_of walk ≤ order_of other.1
first_rest i goal a found walk elsewhere r other (zero, within, at) meets =
    let here : is_goal (shown i a.0) goal ≡ true = subst (λ o. is_goal (shown i o.0) goal ≡ true) (sym at) meets in
    absurd (cc (here, elsewhere))
first_rest i goal a found walk elsewhere r other (suc k, within, at) meets = r.first other (k, omega (arith, within), at) meets

first_is : (i : Declared) (goal : Goal) (found : List (Spot × List ℕ)) (walk : List ℕ) → AllPairs IsBefore found → first_walk i goal found ≡ Some walk → IsFirst i goal found walk
first_is i goal [] walk ordered is = let nothing : None ≡ Some walk = is in absurd (cc nothing)
first_is i goal (a ∷ found) walk ordered is = elim (cases_Bool (is_goal (shown i a.0) goal)) [
  | inl here ↦
      let same : Some a.1 ≡ Some walk = rw here at is in
      let one : a.1 ≡ walk = one_value a.1 walk same in
      record {
        spot = a.0;
        among = subst (λ w. Contains (a ∷ found) (a.0, w)) one (0, omega arith, refl);
        meets = here;
        first = λ other has meets. subst (λ w. order_of w ≤ order_of other.1) one (ahead a found ordered other has);
      }
  | inr elsewhere ↦
      let rest : first_walk i goal found ≡ Some walk = rw elsewhere at is in
      let r : IsFirst i goal found walk = first_is i goal found walk (later a found ordered) rest in
      record {
        spot = r.spot;
        among = Contains-append_right (a ∷ []) found (r.spot, walk) r.among;
        meets = r.meets;
        first = first_rest i goal a found walk elsewhere r;
      }
]

-- no arrival is such
none_rest : (i : Declared) (goal : Goal) (a : Spot × List ℕ) (found : List (Spot × List ℕ)) → is_goal (shown i a.0) goal ≡ false
    → ((other : Spot × List ℕ) → Contains found other → is_goal (shown i other.0) goal ≡ true → ⊥)
    → (other : Spot × List ℕ) → Contains (a ∷ found) other → is_goal (shown i other.0) goal ≡ true → ⊥
none_rest i goal a found elsewhere rest other (zero, within, at) meets =
    let here : is_goal (shown i a.0) goal ≡ true = subst (λ o. is_goal (shown i o.0) goal ≡ true) (sym at) meets in
    cc (here, elsewhere)
none_rest i goal a found elsewhere rest other (suc k, within, at) meets = rest other (k, omega (arith, within), at) meets

none_is : (i : Declared) (goal : Goal) (found : List (Spot × List ℕ)) → first_walk i goal found ≡ None → (other : Spot × List ℕ) → Contains found other
    → is_goal (shown i other.0) goal ≡ true → ⊥
none_is i goal [] is = λ other (k, within, at) meets. omega (arith, within)
none_is i goal (a ∷ found) is = elim (cases_Bool (is_goal (shown i a.0) goal)) [
  | inl here ↦ λ other has meets. let something : Some a.1 ≡ None = rw here at is in cc something
  | inr elsewhere ↦
      let rest : first_walk i goal found ≡ None = rw elsewhere at is in
      none_rest i goal a found elsewhere (none_is i goal found rest)
]

-- ---- the least walk

-- a walk leads to where the goal is met
record IsReached (i : Declared) (goal : Goal) (walk : List ℕ) : Type 0 where
  pub place : Place
  pub leads : spot_of i walk ≡ Some place
  pub meets : is_goal place goal ≡ true

-- a walk that leads to the goal came to an arrival that is no later
module _ (i : Declared) (made : ℕ) (goal : Goal) (found : List (Spot × List ℕ)) (are : AreArrivals i made found) where
  place_of : (walk : List ℕ) → reaches i walk goal ≡ true → IsReached i goal walk
  place_of walk reached = by (spot_of i walk) refl
    where
      by : (o : Option Place) → spot_of i walk ≡ o → IsReached i goal walk
      by None is = let not_so : false ≡ true = sym (ap (λ o. is_goal_at o goal) is) ∙ reached in absurd (cc not_so)
      by (Some s) is = record { place = s; leads = is; meets = sym (ap (λ o. is_goal_at o goal) is) ∙ reached }

  met : (walk : List ℕ) (r : IsReached i goal walk) (a : Arrives i found r.place (length walk) (order_of walk)) → is_goal (shown i a.spot) goal ≡ true
  met walk r a = subst (λ s. is_goal s goal ≡ true) (sym a.is) r.meets

  is_least : (walk : List ℕ) → i.declared < 2 ^ 32 → IsFirst i goal found walk → IsLeast i made goal walk
  is_least walk small f =
      let led = are.led f.spot walk f.among in
      record {
        begins = led.begins;
        reached = ap (λ o. is_goal_at o goal) led.leads ∙ f.meets;
        short = led.short;
        least = least;
      }
    where
      least : (other : List ℕ) → begin_of other ≡ made → reaches i other goal ≡ true → no_worse walk other ≡ true
      least other begin reached = elim (cases_lt 8 (length other)) [
        | inl long ↦ no_worse_long walk other (are.led f.spot walk f.among).short long
        | inr few ↦
            let r : IsReached i goal other = place_of other reached in
            let a : Arrives i found r.place (length other) (order_of other) = are.all other r.place begin few r.leads in
            let up : order_of walk ≤ order_of a.walk = f.first (a.spot, a.walk) a.among (met other r a) in
            let early : order_of a.walk ≤ order_of other = a.early in
            no_worse_of walk other (funs_of i (shown i f.spot) walk small (are.led f.spot walk f.among).leads) (funs_of i r.place other small r.leads) (omega (arith, up, early))
      ]

  none_leads : first_walk i goal found ≡ None → NoWalkLeads i made goal
  none_leads none walk begin few = elim (cases_Bool (reaches i walk goal)) [
    | inl reached ↦
        let r : IsReached i goal walk = place_of walk reached in
        let a : Arrives i found r.place (length walk) (order_of walk) = are.all walk r.place begin few r.leads in
        absurd (none_is i goal found none (a.spot, a.walk) a.among (met walk r a))
    | inr is ↦ is
  ]

-- ---- as callers know it

pub the_walk : (i : Declared) (made state mask : ℕ) (found : List (Spot × List ℕ)) → i.declared < 2 ^ 32 → AreArrivals i made found
    → IsTheWalk i made state mask (first_walk i (record { state = state; mask = mask }) found)
the_walk i made state mask found small are = by (first_walk i (record { state = state; mask = mask }) found) refl
  where
    by : (o : Option (List ℕ)) → first_walk i (record { state = state; mask = mask }) found ≡ o → IsTheWalk i made state mask (first_walk i (record { state = state; mask = mask }) found)
    by (Some walk) is =
        let goal : Goal = record { state = state; mask = mask } in
        let it : IsTheWalk i made state mask (Some walk) = with_set i made state mask walk (is_least i made goal found are walk small (first_is i goal found walk are.ordered is)) in
        subst (IsTheWalk i made state mask) (sym is) it
    by None is =
        let goal : Goal = record { state = state; mask = mask } in
        let it : IsTheWalk i made state mask None = without_set i made state mask (none_leads i made goal found are is) in
        subst (IsTheWalk i made state mask) (sym is) it

-- what isn't declared begins no walk
pub no_walk_of : (i : Declared) (made state mask : ℕ) → i.declared < 2 ^ 32 → declares i made ≡ false → IsTheWalk i made state mask None
no_walk_of i made state mask small is = the_walk i made state mask [] small (none_found i made [] refl (no_begin i made is))
