-- What is refused by the rows alone, before a service is asked.
use Rattle.std.specs.Prelude.{◌≡◌, ◌==◌, Bool, true, false, ◌&&◌, ◌||◌, not, nat_le, if◌then◌else◌, None, Some, length}
use Rattle.std.specs.List.{list_any}
use Rattle.std.specs.Option.{is_some, option_map_or}
use Rattle.std.specs.declared.option.Option.{Option}
use Rattle.sg_base.specs.declared.call.Call.{Call}
use Rattle.sg_base.specs.declared.reply.Code.{Code}
use Rattle.sg_base.specs.declared.reply.Code.TheVariants.{NoDesc, NoParent, BadState, HasChildren, Full}
use Rattle.sg_base.specs.declared.reply.Reply.{Reply}
use Rattle.sg_base.specs.declared.reply.Reply.TheVariants.{Ok, Refused}
use Rattle.sg_facts.specs.declared.row.Row.{Row}
use Rattle.sg_facts.specs.declared.shape.Parents.TheVariants.{Never, Same, Cross}
use Rattle.sg_facts.specs.Facts.{Fun, fun_at, takes_desc, takes_parent}
use Rattle.sg_facts.specs.Interface.{Declared, moves_on}
use Rattle.sg_facts.specs.Track.{row_at}
use Rattle.sg_facts.specs.Limits.{most_live}
use Rattle.sg_facts.specs.Object.{Object}

-- the guard: a query passes; of any other call the first cause that applies
abbrev pub guard : Declared → Object → Call → Option Code
guard i o call =
    let f : Fun = fun_at i.facts.funs call.fun in
    let row : Option Row = row_at o.rows call.desc in
    let own : Bool = option_map_or (λ r. r.creator == call.client) row false in
    if f.query then None
    -- a parent is a live row; under same it is one of the client's own, or none is named
    else if takes_parent f && not (elim i.facts.parents [ Never ↦ is_some row | Same ↦ (call.desc == 0) || own | Cross ↦ is_some row ]) then Some NoParent
    -- only so many rows live at a time
    else if f.creation && nat_le most_live (length o.rows) then Some Full
    -- a descriptor is a live row, and in a private service one of the client's own
    else if takes_desc f && not (if i.facts.global then is_some row else own) then Some NoDesc
    -- its function may be called in its state
    else if takes_desc f && not (option_map_or (λ r. moves_on i r.state call.fun) row false) then Some BadState
    -- who ends has no children, where these don't end with it
    else if f.terminal && not i.facts.subtree && list_any (λ r. r.parent == call.desc) o.rows then Some HasChildren
    else None

-- whether a code is one of the guard's
abbrev pub is_guards : Code → Bool
is_guards code = elim code [ NoDesc ↦ true | NoParent ↦ true | BadState ↦ true | HasChildren ↦ true | Full ↦ true | _ ↦ false ]

-- a reply is a refusal by the guard
abbrev pub IsGuardRefusal : Reply → Type 0
IsGuardRefusal (Refused code) = is_guards code ≡ true
IsGuardRefusal (Ok good) = ⊥
