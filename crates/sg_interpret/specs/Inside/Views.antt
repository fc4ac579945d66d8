-- What rules see of a call, as the definitions have it.
use Rattle.std.specs.Prelude.{ℕ, List, map}
use Rattle.sg_described.specs.sg_facts.sg_base.declared.value.Value.TheVariants.{Word}
use Rattle.sg_described.specs.sg_facts.sg_base.declared.call.Call.{Call}
use Rattle.sg_described.specs.Meaning.{Env}
use Rattle.sg_interpret.specs.declared.view.View.{View}

-- of a call on a row of a state with these fields
abbrev pub env_at : Call → ℕ → List ℕ → Env
env_at call state fields = record { client = call.client; args = call.args; state = state; fields = map Word fields }

abbrev pub env_in : View → Env
env_in v = env_at v.call.now v.state v.fields.now
