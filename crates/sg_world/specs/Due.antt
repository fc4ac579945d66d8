-- What is still to be done before a client's call may be served, as the trace tells it.
use Rattle.std.specs.Prelude.{ℕ, ◌+◌, ◌||◌, Bool, not, if◌then◌else◌, List, [], None, Some, filter, find, length}
use Rattle.std.specs.List.{list_any}
use Rattle.std.specs.Option.{option_map}
use Rattle.std.specs.declared.option.Option.{Option}
use Rattle.sg_facts.specs.sg_base.declared.call.Call.{Call}
use Rattle.sg_facts.specs.Needs.{Needs, wanted}
use Rattle.sg_facts.specs.Object.{Object, file_at, object_of}
use Rattle.sg_replay.specs.sg_hist.Inside.Parts.{is_patch_at, is_walk_of}
use Rattle.sg_replay.specs.sg_hist.Reading.{last_items, older_items}
use Rattle.sg_replay.specs.declared.todo.Todo.{Todo}
use Rattle.sg_replay.specs.declared.todo.Todo.TheVariants.{Walk, Load}
use Rattle.sg_replay.specs.Missing.{is_empty, or_else}
use Rattle.sg_clients.specs.WorldView.{WorldView}
use Rattle.sg_world_laws.specs.sg_recovery_laws.LastItem.Told.{whole_after}
use Rattle.sg_world_laws.specs.Setting.{Setting}

-- what is wanted for a call, at the object of the history
abbrev pub needs_in : Setting → WorldView → Call → Needs
needs_in z w call = wanted z.iface (object_of z.iface.facts w.history) call

-- whether an id is whole in the running boot
abbrev pub is_whole_in : Setting → WorldView → ℕ → Bool
is_whole_in z w id = whole_after z.iface.facts z.walks w.history (older_items [] w.run.boots) (last_items w.run.boots) id

-- how many calls of the walk of an id were replayed in the running boot
abbrev pub replayed_in : WorldView → ℕ → ℕ
replayed_in w id = length (filter (λ item. is_walk_of id item.tag) (last_items w.run.boots))

-- whether a file was loaded or written in the running boot
abbrev pub is_present_in : WorldView → List ℕ → Bool
is_present_in w path = list_any (λ item. is_patch_at path item.outcome) (last_items w.run.boots)

-- the next call of the walk of the least wanted id that isn't whole
abbrev pub next_walk : Setting → WorldView → List ℕ → Option Todo
next_walk z w ids = option_map (λ id. Walk id (replayed_in w id + 1)) (find (λ id. not (is_whole_in z w id)) ids)

-- the load of the needed file, where that has bytes and isn't present
abbrev pub next_load : Object → WorldView → Option (List ℕ) → Option Todo
next_load o w None = None
next_load o w (Some path) = if is_empty (file_at o.files path) || is_present_in w path then None else Some Load

-- rows come first, in ascending ids, and then the file
abbrev pub due : Setting → WorldView → Call → Option Todo
due z w call = or_else (next_walk z w (needs_in z w call).ids) (next_load (object_of z.iface.facts w.history) w (needs_in z w call).file)
