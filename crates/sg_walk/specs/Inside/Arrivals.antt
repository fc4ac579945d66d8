-- Where walks that begin with a creation have come to.
use Rattle.std.specs.Prelude.{ℕ, ◌≡◌, ◌+◌, ◌*◌, ◌<◌, ◌≤◌, ◌==◌, ◌⊎◌, true, false, ◌&&◌, if◌then◌else◌, List, [], ◌∷◌, ◌++◌, None, Some, length, slice_get}
use Rattle.std.specs.List.{AllPairs, Contains}
use Rattle.std.specs.declared.option.Option.{Option}
use Rattle.sg_facts.specs.Interface.{Declared}
use Rattle.sg_facts.specs.Limits.{most_funs}
use Rattle.sg_facts.specs.Walks.{Spot as Place, begin_of, first_spot, most_calls, next_spot, spot_of}
use Rattle.sg_facts.specs.Inside.Walking.{may_go_on}
use Rattle.sg_walk.specs.declared.spot.Goal.{Goal}
use Rattle.sg_walk.specs.declared.spot.Spot.{Spot}
use Rattle.sg_walk.specs.Inside.Spots.{shown, is_goal}

-- ---- walks in order

-- the place in order of a walk that goes on from one of a place
abbrev pub order_after : ℕ → List ℕ → ℕ
order_after first [] = first
order_after first (fun ∷ walk) = order_after ((most_funs + 1) * first + fun) walk

-- the place in order of a walk: shorter walks come first, and those as long by function numbers
abbrev pub order_of : List ℕ → ℕ
order_of walk = order_after 0 walk

-- ---- arrivals: a spot, and the walk that came to it

-- a walk that begins with a creation leads to its spot
pub record IsLedBy (i : Declared) (made : ℕ) (spot : Spot) (walk : List ℕ) : Type 0 where
  pub leads : spot_of i walk ≡ Some (shown i spot)
  pub begins : begin_of walk ≡ made
  pub short : length walk ≤ most_calls

-- some walk came to a spot that has so many calls at most, and a place in order up to this
pub record Arrives (i : Declared) (found : List (Spot × List ℕ)) (s : Place) (calls last : ℕ) : Type 0 where
  pub spot : Spot
  pub walk : List ℕ
  pub among : Contains found (spot, walk)
  pub is : shown i spot ≡ s
  pub short : length walk ≤ calls
  pub early : order_of walk ≤ last

-- of two arrivals the first has the walk that comes first in order, and no more calls
abbrev pub IsBefore : Spot × List ℕ → Spot × List ℕ → Type 0
IsBefore a b = (order_of a.1 < order_of b.1) × (length a.1 ≤ length b.1)

-- where a function may be called next, a walk that is no later came to where it leads
abbrev pub IsFollowed : Declared → List (Spot × List ℕ) → Spot → List ℕ → ℕ → Type 0
IsFollowed i found spot walk fun = may_go_on i (shown i spot) fun ≡ true
    → Arrives i found (next_spot i.facts fun (shown i spot)) (length walk + 1) ((most_funs + 1) * order_of walk + fun)

-- the arrivals that the first of them lead to were found, and those that the next of them leads to by the first functions
pub record AreFound (i : Declared) (made done fun : ℕ) (found : List (Spot × List ℕ)) : Type 0 where
  pub led : (spot : Spot) (walk : List ℕ) → Contains found (spot, walk) → IsLedBy i made spot walk
  pub ordered : AllPairs IsBefore found
  pub begun : Arrives i found (first_spot i.facts made) 1 (order_of (made ∷ []))
  pub followed : (at : ℕ) (spot : Spot) (walk : List ℕ) → at < done → slice_get found at ≡ Some (spot, walk) → length walk < most_calls
      → (f : ℕ) → IsFollowed i found spot walk f
  pub tried : (spot : Spot) (walk : List ℕ) → slice_get found done ≡ Some (spot, walk) → (f : ℕ) → f < fun → IsFollowed i found spot walk f
  pub bound : (spot : Spot) (walk : List ℕ) → slice_get found done ≡ Some (spot, walk) → (other : Spot × List ℕ) → Contains found other
      → (order_of other.1 < (most_funs + 1) * order_of walk + fun) × (length other.1 ≤ length walk + 1)

-- to each spot that a walk of a creation leads to came a walk that is no later
pub record AreArrivals (i : Declared) (made : ℕ) (found : List (Spot × List ℕ)) : Type 0 where
  pub led : (spot : Spot) (walk : List ℕ) → Contains found (spot, walk) → IsLedBy i made spot walk
  pub ordered : AllPairs IsBefore found
  pub all : (walk : List ℕ) (s : Place) → begin_of walk ≡ made → length walk ≤ most_calls → spot_of i walk ≡ Some s
      → Arrives i found s (length walk) (order_of walk)

-- a walk came to a spot: one had come there, or it goes last
abbrev pub AddsArrival : List (Spot × List ℕ) → List (Spot × List ℕ) → Spot → List ℕ → Type 0
AddsArrival old new spot walk = ((w : List ℕ) × Contains old (spot, w) × (new ≡ old)) ⊎ (new ≡ old ++ (spot, walk) ∷ [])

-- a walk went on by a function, where it may, and came to where that leads
abbrev pub AddsBy : Declared → Spot → List ℕ → ℕ → List (Spot × List ℕ) → List (Spot × List ℕ) → Type 0
AddsBy i spot walk fun old new =
    ((may_go_on i (shown i spot) fun ≡ false) × (new ≡ old))
    ⊎ ((next : Spot) × (may_go_on i (shown i spot) fun ≡ true) × (shown i next ≡ next_spot i.facts fun (shown i spot)) × AddsArrival old new next (walk ++ fun ∷ []))

-- all that an arrival leads to was found after all that those before it lead to
abbrev pub GoesOn : Declared → Spot → List ℕ → ℕ → List (Spot × List ℕ) → List (Spot × List ℕ) → Type 0
GoesOn i spot walk fun old new = (made done : ℕ) → slice_get old done ≡ Some (spot, walk) → AreFound i made done 1 old
    → AreFound i made done fun new × (slice_get new done ≡ Some (spot, walk))

-- ---- what arrivals restore

-- the walk of the first arrival where the sought state and fields are restored
abbrev pub first_walk : Declared → Goal → List (Spot × List ℕ) → Option (List ℕ)
first_walk i goal [] = None
first_walk i goal (a ∷ found) = if is_goal (shown i a.0) goal then Some a.1 else first_walk i goal found

-- the walk of a creation that an arrival gives for a goal of the same creation
abbrev pub walk_by : Declared → ℕ → Spot → List ℕ → ℕ → Goal → Option (List ℕ)
walk_by i made spot walk m goal = if (made == m) && is_goal (shown i spot) goal then Some walk else None
