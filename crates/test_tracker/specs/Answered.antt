-- Calls and their replies, and what stands in a row.
use Rattle.std.specs.Prelude.{ℕ, ◌≡◌, List, Some}
use Rattle.std.specs.Option.{option_map}
use Rattle.test_tables.specs.sg_facts.sg_base.declared.value.Value.{Value}
use Rattle.test_tables.specs.sg_facts.sg_base.declared.value.Value.TheVariants.{Word}
use Rattle.test_tables.specs.sg_facts.sg_base.declared.call.Call.{Call}
use Rattle.test_tables.specs.sg_facts.declared.row.Row.{Row}
use Rattle.test_tables.specs.sg_facts.Track.{field_at, row_at}

-- a client's call
abbrev pub asked : ℕ → ℕ → ℕ → List Value → Call
asked client fun desc args = record { client = client; seq = 1; fun = fun; desc = desc; args = args }

-- there is a row of an id, whose first field is a number
abbrev pub HasOwner : List Row → ℕ → ℕ → Type 0
HasOwner rows id owner = option_map (λ r. field_at r.fields 0) (row_at rows id) ≡ Some (Word owner)
