-- The search for what descriptors can come to and no walk restores.
use Rattle.std.specs.Prelude.{ℕ, ◌≡◌, ◌<◌, ◌≤◌, ◌==◌, ◌⊎◌, Bool, true, false, ◌&&◌, ◌||◌, nat_le, nat_lt, if◌then◌else◌, List, None, Some, MatchOption, unwrap_or}
use Rattle.std.specs.declared.option.Option.{Option}
use Rattle.std.specs.List.{Contains}
use Rattle.sg_input.specs.sg_facts.Facts.{Facts}
use Rattle.sg_input.specs.sg_facts.Interface.{Declared}
use Rattle.sg_input.specs.sg_check_statements.Flaws.{HasNoWalk, IsProtoWhere}
use Rattle.sg_input.specs.sg_check_statements.Says.{fun_number}
use Rattle.sg_input.specs.sg_parse.declared.tree.Statement.{Statement}
use Rattle.sg_input.specs.sg_parse.declared.tree.Statement.TheVariants.{Proto}
use Rattle.sg_input.specs.sg_walk.declared.place.Triple.{Triple}
use Rattle.sg_explain.specs.Stuck.{IsFirstStuck, IsStuck}

-- a descriptor can come to this in a state, and no walk restores it
abbrev pub IsStuckIn : Declared → ℕ → Triple → Type 0
IsStuckIn i state t = (t.state ≡ state) × IsStuck i t

-- whether a triple is stuck, as a test tells it
abbrev pub TellsStuck : Declared → Triple → Bool → Type 0
TellsStuck i t true = IsStuck i t
TellsStuck i t false = IsStuck i t → ⊥

-- whether it is in a state
abbrev pub TellsStuckIn : Declared → ℕ → Triple → Bool → Type 0
TellsStuckIn i state t true = IsStuckIn i state t
TellsStuckIn i state t false = IsStuckIn i state t → ⊥

-- the first of two, by the function that made it and then by the number of the set
abbrev pub earlier : Option Triple → Triple → Triple
earlier None t = t
earlier (Some first) t = if nat_lt first.made t.made || ((first.made == t.made) && nat_le first.mask t.mask) then first else t

-- one is no later than another
abbrev pub IsNoLater : Triple → Triple → Type 0
IsNoLater t other = (t.made < other.made) ⊎ ((t.made ≡ other.made) × (t.mask ≤ other.mask))

-- of these triples this is the first that is stuck in a state
abbrev pub IsFirstOf : Declared → ℕ → List Triple → Option Triple → Type 0
IsFirstOf i state triples first =
    MatchOption first ((t : Triple) → Contains triples t → IsStuckIn i state t → ⊥)
    (λ f. IsStuckIn i state f × ((t : Triple) → Contains triples t → IsStuckIn i state t → IsNoLater f t))

-- what is the first so far becomes the first with one more
abbrev pub GoesOn : Declared → ℕ → Option Triple → Triple → Option Triple → Type 0
GoesOn i state first t next = ((next ≡ first) × (IsStuckIn i state t → ⊥)) ⊎ ((next ≡ Some (earlier first t)) × IsStuckIn i state t)

-- the number of the function whose prototype stands at a place; 0 where the service hasn't the function
abbrev pub proto_at : Facts → Statement → ℕ → Option ℕ
proto_at facts (Proto ret name params) at = if name.at == at then Some (unwrap_or (fun_number facts.funs name.bytes) 0) else None
proto_at facts _ at = None

-- what was found for a state: the first that is stuck there, or that all there has a walk
abbrev pub IsFoundAt : Declared → ℕ → Option Triple → Type 0
IsFoundAt i state found = MatchOption found (HasNoWalk i state → ⊥) (IsFirstStuck i state)

-- what was found for the state of a statement, where this is a prototype at a place
abbrev pub IsFoundIn : Declared → Statement → ℕ → Option Triple → Type 0
IsFoundIn i s at found = MatchOption found (IsProtoWhere i.facts (HasNoWalk i) s at → ⊥) (λ t. IsProtoWhere i.facts (λ n. IsFirstStuck i n t) s at)
