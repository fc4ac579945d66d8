-- An object of the file service with one descriptor.
use Rattle.std.specs.Prelude.{ℕ, ◌≡◌, List, [], ◌∷◌}
use Rattle.test_asking.specs.sg_facts.sg_base.declared.value.Value.TheVariants.{Word, Text}
use Rattle.test_asking.specs.sg_facts.sg_base.declared.reply.Reply.TheVariants.{Ok}
use Rattle.test_asking.specs.sg_facts.declared.outcome.Outcome.{Outcome}
use Rattle.test_asking.specs.sg_facts.declared.outcome.Outcome.TheVariants.{Replied}
use Rattle.test_asking.specs.sg_facts.Object.{Object}

-- one root of the first client, of a name, at a place
pub record IsOneFile (name : List ℕ) (place : ℕ) (o : Object) : Type 0 where
  pub rows : o.rows ≡ record { id = 1; made = 1; creator = 1; parent = 0; state = 1; fields = Text name ∷ Word place ∷ [] } ∷ []
  pub given : o.given ≡ 1

-- an Ok has made such a root
abbrev pub IsMade : List ℕ → Outcome → Object → Type 0
IsMade name (Replied (Ok good) patch) o = IsOneFile name 0 o
IsMade name _ o = Unit {0}
