-- How walks are found.
use Rattle.std.specs.Prelude.{ℕ, ◌↔◌, ◌≡◌, ◌≤◌, Bool, true, not, if◌then◌else◌, List, Some, IsTrue, filter, length, map, take}
use Rattle.std.specs.List.{Contains, flat_map, list_all, list_any}
use Rattle.sg_known.specs.sg_facts.Interface.{has_pair}
use Rattle.sg_known.specs.sg_facts.Facts.{Fun}
use Rattle.sg_known.specs.sg_facts.Walks.{Spot, first_spot, next_spot}
use Rattle.sg_known.specs.sg_described.Described.{Described}
use Rattle.sg_known.specs.sg_described.Walking.{add_spot, is_lost, is_step, nexts, same_spot}
use Rattle.sg_known.specs.sg_walk.declared.spot.Spot.{Spot as CodeSpot}
use Rattle.sg_safe.specs.declared.spots.Found.{Found}
use Rattle.sg_safe.specs.declared.spots.Reached.{Reached}
use Rattle.sg_safe.specs.Reasons.{led_by}
use Rattle.sg_safe.specs.Inside.Keys.{keyed}
use Rattle.sg_safe.specs.Inside.Seen.{shown}

-- the greatest number of calls after which a walk may still go on
abbrev pub most_before : ℕ
most_before = 7

-- where a walk has come to
abbrev pub place_in : Described → Reached → Spot
place_in d r = shown d r.spot

-- a walk of at most so many calls leads where it is said to
pub record IsReached (d : Described) (calls : ℕ) (r : Reached) : Type 0 where
  pub led : led_by d r.walk ≡ Some (place_in d r)
  pub most : length r.walk ≤ calls

-- spots with one more, unless it is listed or a field is lost for good there
abbrev pub add_unlost : Described → List Spot → Spot → List Spot
add_unlost d spots s = if is_lost d s then spots else add_spot spots s

-- with where the walk of one call leads to, by a function that makes a descriptor
abbrev pub add_begin : Described → List Spot → ℕ → Fun → List Spot
add_begin d spots fun f = if f.creation then add_unlost d spots (first_spot d.facts fun) else spots

-- with where one more call leads to from a spot, by a pair that is a recover step from there
abbrev pub add_step : Described → List Spot → Spot → ℕ × ℕ → List Spot
add_step d spots s p = if is_step d s p then add_unlost d spots (next_spot d.facts p.1 s) else spots

-- pairs are recover steps of a description
abbrev pub are_steps : Described → List (ℕ × ℕ) → Bool
are_steps d pairs = list_all (λ p. has_pair d.facts.steps p.0 p.1) pairs

-- where these pairs lead to from a spot, but where a field is lost for good
abbrev pub nexts_by : Described → Spot → List (ℕ × ℕ) → List Spot
nexts_by d s pairs = filter (λ t. not (is_lost d t)) (map (λ p. next_spot d.facts p.1 s) (filter (is_step d s) pairs))

-- just the spots that were found are looked up
pub record HasKeys (d : Described) (f : Found) : Type 0 where
  pub same : (s : CodeSpot) → Contains f.keys (keyed (length d.facts.fields) s) ↔ IsTrue (list_any (same_spot (shown d s)) (map (place_in d) f.list))

-- spots are among others
abbrev pub are_among : List Spot → List Spot → Bool
are_among spots more = list_all (λ t. list_any (same_spot t) spots) more

-- of the first spots, those to which one call more leads are listed too
pub record IsDone (d : Described) (done : ℕ) (spots : List Spot) : Type 0 where
  pub within : done ≤ length spots
  pub listed : are_among spots (flat_map (nexts d) (take done spots)) ≡ true
