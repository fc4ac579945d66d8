-- What a call needs to be as tracked when it reaches the service.
use Rattle.std.specs.Prelude.{ℕ, ◌==◌, Bool, ◌||◌, if◌then◌else◌, List, None, Some, map, filter}
use Rattle.std.specs.declared.option.Option.{Option}
use Rattle.sg_base.specs.declared.call.Call.{Call}
use Rattle.sg_facts.specs.declared.row.Row.{Row}
use Rattle.sg_facts.specs.Facts.{Facts, fun_at}
use Rattle.sg_facts.specs.Interface.{Declared}
use Rattle.sg_facts.specs.Track.{is_ancestor}
use Rattle.sg_facts.specs.Object.{Object, path_of}

-- the ids of the rows that are needed, ascending where the rows' do, and the path of the file that is needed
pub record Needs : Type 0 where
  pub ids : List ℕ
  pub file : Option (List ℕ)

-- whether a call needs a live row: that of its descriptor or parent and each ancestor of it, or all rows
abbrev pub is_needed : Facts → List Row → Call → Row → Bool
is_needed facts rows call r = (fun_at facts.funs call.fun).all || (r.id == call.desc) || is_ancestor rows r.id call.desc

-- what a call needs
abbrev pub needs : Facts → Object → Call → Needs
needs facts o call = record {
  ids = map (λ r. r.id) (filter (is_needed facts o.rows call) o.rows);
  file = if (fun_at facts.funs call.fun).uses_file then Some (path_of o.rows call.desc) else None;
}

-- whether a live row has to be whole before a call is served: the call needs it, or the interface rebuilds every live row first
abbrev pub is_wanted : Declared → List Row → Call → Row → Bool
is_wanted i rows call r = i.eager || is_needed i.facts rows call r

-- what has to be there before a call is served
abbrev pub wanted : Declared → Object → Call → Needs
wanted i o call = record (needs i.facts o call) { ids = map (λ r. r.id) (filter (is_wanted i o.rows call) o.rows) }
