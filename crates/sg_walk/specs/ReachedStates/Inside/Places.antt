-- What descriptors can come to, by a state and the number of the set of fields.
use Rattle.std.specs.Prelude.{ℕ, ◌≡◌, ◌==◌, ◌+◌, ◌*◌, ◌%◌, ◌^◌, ◌<◌, ◌⊎◌, Bool, true, false, if◌then◌else◌, List, [], ◌∷◌, ◌++◌, length}
use Rattle.std.specs.List.{Contains}
use Rattle.sg_facts.specs.declared.shape.Effect.{Effect}
use Rattle.sg_facts.specs.Facts.{fun_at, state_after}
use Rattle.sg_facts.specs.Interface.{Declared, declares, moves_on}
use Rattle.sg_facts.specs.Walks.{IsReachable, may_lead}
use Rattle.sg_walk.specs.declared.place.Place.{Place}
use Rattle.sg_walk.specs.declared.place.Triple.{Triple}
use Rattle.sg_walk.specs.ReachedStates.Triples.{AreDistinct}
use Rattle.sg_walk.specs.ReachedStates.Inside.Bits.{bits, set_numbered}

-- effects lead from one set of so many fields to a place in a state
abbrev pub IsLed : List (ℕ × Effect) → ℕ → ℕ → ℕ → Place → Type 0
IsLed effects count old state q =
    (q.state ≡ state) × (q.mask < 2 ^ count) × (may_lead effects 0 (bits count old) (bits count q.mask) ≡ true)

-- effects lead on to a place, where the fields before one are settled, as another place has them, and so many are left from there on
pub record IsLedOn (effects : List (ℕ × Effect)) (field count old : ℕ) (settled q : Place) : Type 0 where
  pub rest : ℕ
  pub state : q.state ≡ settled.state
  pub mask : q.mask ≡ settled.mask + 2 ^ field * rest
  pub few : rest < 2 ^ count
  pub leads : may_lead effects field (bits count old) (bits count rest) ≡ true

-- and so they do, where the next field is set, or not
pub record IsLedWith (effects : List (ℕ × Effect)) (field count old : ℕ) (settled : Place) (is_set : Bool) (q : Place) : Type 0 where
  pub led : IsLedOn effects field count old settled q
  pub next : (led.rest % 2 == 1) ≡ is_set

-- a place in which the field of a number is set, or not, where no field from there on was
abbrev pub place_with : Place → ℕ → Bool → Place
place_with settled field is_set = record { state = settled.state; mask = settled.mask + (if is_set then 2 ^ field else 0) }

-- a place that a creation leads to
pub record IsMadeAt (i : Declared) (fun : ℕ) (q : Place) : Type 0 where
  pub declared : declares i fun ≡ true
  pub creation : (fun_at i.facts.funs fun).creation ≡ true
  pub led : IsLed (fun_at i.facts.funs fun).effects (length i.facts.fields) 0 (state_after i.facts fun fun) q

-- a place that one call of a function leads to from another
pub record LeadsBy (i : Declared) (fun : ℕ) (p q : Place) : Type 0 where
  pub moves : moves_on i p.state fun ≡ true
  pub goes_on : (fun_at i.facts.funs fun).terminal ≡ false
  pub led : IsLed (fun_at i.facts.funs fun).effects (length i.facts.fields) p.mask (state_after i.facts fun p.state) q

-- a place was found already, or is found now and goes last
abbrev pub AddsOnce : List Place → List Place → Place → Type 0
AddsOnce old new p = (Contains old p × (new ≡ old)) ⊎ ((Contains old p → ⊥) × (new ≡ old ++ p ∷ []))

-- places were added after others: all that have a property, and no other
pub record AddsJust (P : Place → Type 0) (old new : List Place) : Type 0 where
  pub more : List Place
  pub behind : new ≡ old ++ more
  pub all : (q : Place) → P q → Contains new q
  pub only : (q : Place) → Contains new q → Contains old q ⊎ P q

-- a place that one call leads to from another
abbrev pub LeadsTo : Declared → Place → Place → Type 0
LeadsTo i p q = (fun : ℕ) × LeadsBy i fun p q

-- the places that descriptors which a function made can come to
abbrev pub IsPlace : Declared → ℕ → Place → Type 0
IsPlace i made p = (p.mask < 2 ^ length i.facts.fields) × IsReachable i made p.state (set_numbered i p.mask)

-- each is a place that descriptors which a function made can come to
abbrev pub AreReached : Declared → ℕ → List Place → Type 0
AreReached i made places = (p : Place) → Contains places p → IsPlace i made p

-- all that one call leads to from a place was found, whichever was found
abbrev pub IsClosed : Declared → List Place → Type 0
IsClosed i places = (p q : Place) → Contains places p → LeadsTo i p q → Contains places q

-- the triples of a function are those of the places, and the others are as before; none stands twice, where all before are of
-- functions before
pub record AddsTriples (made : ℕ) (places : List Place) (old new : List Triple) : Type 0 where
  pub all : (p : Place) → Contains places p → Contains new (record { made = made; state = p.state; mask = p.mask })
  pub kept : (t : Triple) → Contains old t → Contains new t
  pub only : (t : Triple) → Contains new t → Contains old t ⊎ ((t.made ≡ made) × Contains places (record { state = t.state; mask = t.mask }))
  pub once : ((t : Triple) → Contains old t → t.made < made) → AreDistinct old → AreDistinct places → AreDistinct new
