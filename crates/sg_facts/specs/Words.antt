-- The words of the interface language that stand for facts of a service, and the end of a printed line.
use Rattle.std.specs.Prelude.{ℕ, Bool, List, [], ◌∷◌, codes, unwrap_or, slice_get, if◌then◌else◌}
use Rattle.std.specs.Option.{option_map}
use Rattle.sg_facts.specs.declared.shape.Parents.{Parents}
use Rattle.sg_facts.specs.declared.shape.Parents.TheVariants.{Never, Same as SameClient, Cross}
use Rattle.sg_facts.specs.Facts.{Field}

-- which parents descriptors may have
abbrev pub parents_word : Parents → List ℕ
parents_word parents = elim parents [ Never ↦ codes "none" | SameClient ↦ codes "same" | Cross ↦ codes "cross" ]

-- whether the end of a descriptor takes its descendants along
abbrev pub close_word : Bool → List ℕ
close_word subtree = if subtree then codes "subtree" else codes "refuse"

-- whether a fact holds
abbrev pub flag_word : Bool → List ℕ
flag_word flag = if flag then codes "true" else codes "false"

-- the name of the field of a number, from 0; empty where there is none
abbrev pub field_name : List Field → ℕ → List ℕ
field_name fields x = unwrap_or (option_map (λ f. f.name) (slice_get fields x)) []

-- the byte that ends a line of what is printed
abbrev pub line_end : List ℕ
line_end = 10 ∷ []
