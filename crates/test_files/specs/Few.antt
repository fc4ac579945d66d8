-- Descriptors that were asked little.
use Rattle.std.specs.Prelude.{ℕ, ◌+◌, ◌≤◌, ◌==◌, ◌||◌, Bool, List, [], ◌∷◌, ◌≡◌}
use Rattle.test_asking.specs.sg_facts.sg_base.declared.value.Value.TheVariants.{Text}
use Rattle.test_asking.specs.sg_facts.sg_base.declared.call.Call.{Call}
use Rattle.test_asking.specs.sg_facts.Counted.{most_counted}
use Rattle.test_asking.specs.sg_facts.Laws.{slow}
use Rattle.test_asking.specs.sg_facts.Object.{Object}
use Rattle.test_asking.specs.sg_facts.Track.{is_live}
use Rattle.sg_ramfs.specs.RamfsFacts.{ramfs_facts}

-- after so few calls the places and the ids are far from their ends
pub record AreFew (calls : ℕ) (o : Object) : Type 0 where
  pub counted : most_counted ramfs_facts o.rows ≤ slow + calls
  pub given : o.given ≤ calls

-- whether a descriptor may be made below this one: it is there, or it is 0, for a root
abbrev pub may_be_below : Object → ℕ → Bool
may_be_below o parent = (parent == 0) || is_live o.rows parent

-- the first client's call that makes a descriptor of a name below another, or as a root
abbrev pub making_of : ℕ → List ℕ → Call
making_of parent name = record { client = 1; seq = 1; fun = 1; desc = parent; args = Text name ∷ [] }

-- a call is one that makes a descriptor, of some name
pub record IsMaking (parent : ℕ) (call : Call) : Type 0 where
  pub name : List ℕ
  pub its : call ≡ making_of parent name
