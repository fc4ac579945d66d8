-- The states in which some descriptor has no walk.
use Rattle.std.specs.Prelude.{ℕ, ◌≡◌, ◌≤◌, ◌⊎◌, Bool, true, false, List, length}
use Rattle.std.specs.List.{Contains}
use Rattle.sg_check_statements.specs.sg_facts.Fields.{number_of}
use Rattle.sg_check_statements.specs.sg_facts.Interface.{Declared}
use Rattle.sg_check_statements.specs.sg_facts.Walks.{IsReachable, begin_of, most_calls, restores}
use Rattle.sg_walk.specs.declared.place.Triple.{Triple}
use Rattle.sg_check_statements.specs.Flaws.{HasNoWalk}
use Rattle.sg_check.specs.Inside.Numbers.{has_number}

-- some walk restores a state with a set of fields of what a function made
abbrev pub HasWalk : Declared → ℕ → ℕ → List Bool → Type 0
HasWalk i made state set = (walk : List ℕ) × (begin_of walk ≡ made) × (restores i walk state set ≡ true) × (length walk ≤ most_calls)

-- these are the states in which some descriptor has no walk; in all others each that descriptors can come to has one
pub record AreStuck (i : Declared) (states : List ℕ) : Type 0 where
  pub only : (state : ℕ) → has_number states state ≡ true → HasNoWalk i state
  pub others : (made state : ℕ) (set : List Bool) → IsReachable i made state set → (has_number states state ≡ true) ⊎ HasWalk i made state set

-- some walk restores a triple
abbrev pub TripleWalk : Declared → Triple → Type 0
TripleWalk i t = (set : List Bool) × (number_of set ≡ t.mask) × HasWalk i t.made t.state set

-- whether some walk restores a triple, as a test tells it
abbrev pub TellsWalk : Declared → Triple → Bool → Type 0
TellsWalk i t true = TripleWalk i t
TellsWalk i t false =
    (walk : List ℕ) (set : List Bool) → begin_of walk ≡ t.made → length walk ≤ most_calls → number_of set ≡ t.mask → restores i walk t.state set ≡ false

-- of these triples it is known which have a walk
pub record HasSought (i : Declared) (triples : List Triple) (states : List ℕ) : Type 0 where
  pub only : (state : ℕ) → has_number states state ≡ true → HasNoWalk i state
  pub others : (t : Triple) → Contains triples t → (has_number states t.state ≡ true) ⊎ TripleWalk i t
