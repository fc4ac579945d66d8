-- What is still to be done before a call may be served.
use Rattle.std.specs.Prelude.{ℕ, ◌+◌, Bool, true, false, ◌||◌, not, if◌then◌else◌, List, [], ◌∷◌, None, Some, find}
use Rattle.std.specs.declared.option.Option.{Option}
use Rattle.sg_facts.specs.Needs.{Needs}
use Rattle.sg_name.specs.Names.{named_at}
use Rattle.sg_name.specs.declared.named.Named.{Named}
use Rattle.sg_name.specs.declared.named.Named.TheVariants.{Unnamed, Partial, Live}
use Rattle.sg_name.specs.declared.named.Standing.{Standing}
use Rattle.sg_store.specs.Stored.{bytes_of}
use Rattle.sg_replay.specs.declared.todo.Todo.{Todo}
use Rattle.sg_replay.specs.declared.todo.Todo.TheVariants.{Walk, Load}
use Rattle.sg_replay.specs.Engined.{Engined}
use Rattle.sg_replay.specs.Present.{is_present}

-- whether a descriptor is whole in the running service
abbrev pub is_whole : Named → Bool
is_whole (Live real) = true
is_whole _ = false

-- the number of the next call of a descriptor's walk, from 1
abbrev pub next_number : Named → ℕ
next_number Unnamed = 1
next_number (Partial real done) = done + 1
next_number (Live real) = 1

-- the next call of the walk of an id; None where there is no id
abbrev pub todo_of : List (ℕ × Standing) → Option ℕ → Option Todo
todo_of known None = None
todo_of known (Some id) = Some (Walk id (next_number (named_at known id)))

-- the first of some ids that isn't whole; None where all are
abbrev pub first_hole : List (ℕ × Standing) → List ℕ → Option ℕ
first_hole known ids = find (λ id. not (is_whole (named_at known id))) ids

-- the next call of its walk
abbrev pub missing_row : List (ℕ × Standing) → List ℕ → Option Todo
missing_row known ids = todo_of known (first_hole known ids)

-- whether a file has no bytes
abbrev pub is_empty : List ℕ → Bool
is_empty [] = true
is_empty (b ∷ bytes) = false

-- a needed file is to be loaded where it has bytes and isn't present
abbrev pub missing_file : Engined → Option (List ℕ) → Option Todo
missing_file e None = None
missing_file e (Some key) = if is_empty (bytes_of e.stored key) || is_present e.present key then None else Some Load

-- what the first says is to be done, or the second where the first says nothing
abbrev pub or_else : Option Todo → Option Todo → Option Todo
or_else None other = other
or_else (Some todo) other = Some todo

-- rows come first, in ascending ids, and then the file
abbrev pub missing : Engined → Needs → Option Todo
missing e needs = or_else (missing_row e.names.known needs.ids) (missing_file e needs.file)
