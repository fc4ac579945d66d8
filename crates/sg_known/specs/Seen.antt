-- What the code holds of what is known, as the definitions see it.
use Rattle.std.specs.Prelude.{ℕ, List, None, Some, map, slice_get, unwrap_or}
use Rattle.std.specs.declared.option.Option.{Option}
use Rattle.sg_described.specs.sg_facts.declared.shape.Effect.{Effect}
use Rattle.sg_described.specs.declared.bounds.Bounds.{Bounds}
use Rattle.sg_described.specs.Known.{Known, between}
use Rattle.sg_described.specs.Meaning.{last_word, most_at}
use Rattle.sg_described.specs.Walking.{carrier}
use Rattle.sg_known.specs.declared.known.ArgsKnown.{ArgsKnown}
use Rattle.sg_known.specs.declared.known.ArgsKnown.TheVariants.{Any, Carried}
use Rattle.sg_known.specs.declared.known.Seen.{Seen}

-- effects as plain data
abbrev pub pairs_of : List (ℕ × Effect) → List (ℕ × Effect)
pairs_of effects = map (λ p. (p.0, p.1)) effects

-- a field that carries an argument, or none
abbrev pub carried_in : List ℕ → Option ℕ → Bounds
carried_in most None = between 0 0
carried_in most (Some x) = between 0 (most_at most x)

abbrev pub args_in : ArgsKnown → ℕ → Bounds
args_in Any k = between 0 last_word
args_in (Carried effects most) k = carried_in most.now (carrier (pairs_of effects.now) k)

-- listed fields; one that isn't listed is 0
abbrev pub fields_in : List Bounds → ℕ → Bounds
fields_in fields x = unwrap_or (slice_get fields x) (between 0 0)

abbrev pub known_in : Seen → Known
known_in s = record { args = args_in s.args; state = s.state; fields = fields_in s.fields.items }

-- each field is up to a number
abbrev pub up_to : List ℕ → ℕ → Bounds
up_to most x = between 0 (most_at most x)
