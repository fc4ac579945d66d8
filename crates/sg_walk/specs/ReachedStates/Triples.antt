-- What descriptors can come to, as a list.
use Rattle.std.specs.Prelude.{◌≡◌, ◌≢◌, Bool, List}
use Rattle.std.specs.List.{AllPairs}
use Rattle.sg_facts.specs.Fields.{number_of}
use Rattle.sg_facts.specs.Interface.{Declared}
use Rattle.sg_facts.specs.Walks.{IsReachable}
use Rattle.sg_walk.specs.declared.place.Triple.{Triple}

-- a descriptor that a function made can be in a state with the set of fields that has a number
abbrev pub IsReachedTriple : Declared → Triple → Type 0
IsReachedTriple i t = (set : List Bool) × (number_of set ≡ t.mask) × IsReachable i t.made t.state set

-- no element stands twice in a list
abbrev pub AreDistinct : {X : Type 0} → List X → Type 0
AreDistinct xs = AllPairs (λ x y. x ≢ y) xs
