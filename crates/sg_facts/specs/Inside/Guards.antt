-- The causes for which the guard refuses a call, one by one, as the proofs name them.
use Rattle.std.specs.Prelude.{ℕ, ◌==◌, Bool, false, ◌&&◌, ◌||◌, not, nat_le, if◌then◌else◌, None, Some, length}
use Rattle.std.specs.Option.{is_some, option_map_or}
use Rattle.std.specs.declared.option.Option.{Option}
use Rattle.sg_base.specs.declared.call.Call.{Call}
use Rattle.sg_base.specs.declared.reply.Code.{Code}
use Rattle.sg_base.specs.declared.reply.Code.TheVariants.{NoDesc, NoParent, BadState, HasChildren, Full}
use Rattle.sg_facts.specs.declared.row.Row.{Row}
use Rattle.sg_facts.specs.declared.shape.Parents.{Parents}
use Rattle.sg_facts.specs.declared.shape.Parents.TheVariants.{Never, Same, Cross}
use Rattle.sg_facts.specs.Facts.{Facts, Fun, takes_desc, takes_parent}
use Rattle.sg_facts.specs.Interface.{Declared, moves_on}
use Rattle.sg_facts.specs.Track.{row_at}
use Rattle.sg_facts.specs.Limits.{most_live}
use Rattle.sg_facts.specs.Object.{Object}
use Rattle.sg_facts.specs.Inside.Rows.{has_child}

-- whether a row is live, and made by the client
abbrev pub is_own : Option Row → ℕ → Bool
is_own row client = option_map_or (λ r. r.creator == client) row false

-- whether there is a live row
abbrev pub is_there : Option Row → Bool
is_there row = is_some row

-- whether a client may name a row as a parent: a live one, or under same one of its own, or none at all
abbrev pub may_be_parent : Parents → Option Row → ℕ → ℕ → Bool
may_be_parent parents row parent client = elim parents [ Never ↦ is_there row | Same ↦ (parent == 0) || is_own row client | Cross ↦ is_there row ]

-- whether a client may name a row as its descriptor: a live one, and in a private service one of its own
abbrev pub may_use : Facts → Option Row → ℕ → Bool
may_use facts row client = if facts.global then is_there row else is_own row client

-- whether a function may be called in a row's state
abbrev pub in_state : Declared → Option Row → ℕ → Bool
in_state i row fun = option_map_or (λ r. moves_on i r.state fun) row false

-- the first cause that applies
abbrev pub refusal : Declared → Fun → Object → Call → Option Code
refusal i f o call =
    if takes_parent f && not (may_be_parent i.facts.parents (row_at o.rows call.desc) call.desc call.client) then Some NoParent
    else if f.creation && nat_le most_live (length o.rows) then Some Full
    else if takes_desc f && not (may_use i.facts (row_at o.rows call.desc) call.client) then Some NoDesc
    else if takes_desc f && not (in_state i (row_at o.rows call.desc) call.fun) then Some BadState
    else if f.terminal && not i.facts.subtree && has_child o.rows call.desc then Some HasChildren
    else None
