-- What descriptors can come to and no walk restores, and the line that tells it.
use Rattle.std.specs.Prelude.{ℕ, ◌≡◌, ◌<◌, ◌≤◌, ◌⊎◌, Bool, false, List, [], ◌∷◌, Some, codes, length}
use Rattle.std.specs.List.{Contains, concat}
use Rattle.sg_input.specs.sg_facts.Facts.{Facts}
use Rattle.sg_input.specs.sg_facts.Fields.{number_of}
use Rattle.sg_input.specs.sg_facts.Interface.{Declared}
use Rattle.sg_input.specs.sg_facts.Walks.{IsReachable, begin_of, most_calls, restores}
use Rattle.sg_input.specs.sg_facts.Words.{line_end}
use Rattle.sg_input.specs.sg_walk.declared.place.Triple.{Triple}
use Rattle.sg_input.specs.sg_check_statements.Faults.{interface_of}
use Rattle.sg_input.specs.sg_check_statements.Flaws.{IsProtoWhere}
use Rattle.sg_input.specs.sg_check_statements.Says.{service_of}
use Rattle.sg_input.specs.sg_parse.declared.tree.Statement.{Statement}
use Rattle.sg_input.specs.sg_parse.declared.tree.Tree.{Tree}
use Rattle.sg_explain.specs.Rebuilt.{come_to_words}

-- a descriptor that a function made can come to a state with a set of fields, by its number, and no walk of at most 8 calls restores that
pub record IsStuck (i : Declared) (t : Triple) : Type 0 where
  pub set : List Bool
  pub number : number_of set ≡ t.mask
  pub reached : IsReachable i t.made t.state set
  pub none : (walk : List ℕ) → begin_of walk ≡ t.made → length walk ≤ most_calls → restores i walk t.state set ≡ false

-- of all such in one state this is the first: by the function that made it, and then by the number of the set
pub record IsFirstStuck (i : Declared) (state : ℕ) (t : Triple) : Type 0 where
  pub there : t.state ≡ state
  pub stuck : IsStuck i t
  pub first : (other : Triple) → other.state ≡ state → IsStuck i other → (t.made < other.made) ⊎ ((t.made ≡ other.made) × (t.mask ≤ other.mask))

-- of a state without a walk, by the place of its prototype: the first of what a descriptor can come to there that no walk restores
pub record IsStuckLine (services : List Facts) (tree : Tree) (at : ℕ) (line : List ℕ) : Type 0 where
  pub facts : Facts
  pub service : service_of services tree.facts.service.bytes ≡ Some facts
  pub proto : Statement
  pub there : Contains tree.statements proto
  pub t : Triple
  pub its : IsProtoWhere facts (λ n. IsFirstStuck (interface_of facts tree) n t) proto at
  pub is : line ≡ concat (come_to_words facts t.made t.state t.mask ∷ codes "no walk of at most 8 calls rebuilds it" ∷ line_end ∷ [])
