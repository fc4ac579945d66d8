-- What a script stands for, where nothing is wrong with it: one for an interface, or one for several, its members.
use Rattle.std.specs.Prelude.{ℕ, ◌+◌, ◌==◌, ◌&&◌, Bool, false, nat_lt, if◌then◌else◌, List, [], ◌∷◌, filter, length, map, None, Some, unwrap_or}
use Rattle.std.specs.declared.option.Option.{Option}
use Rattle.std.specs.List.{flat_map, fold, position_from, range_with_len}
use Rattle.std.specs.Option.{option_map_or}
use Rattle.std.specs.Str.{bytes_eq}
use Rattle.sg_facts.specs.Facts.{Fun, fun_at}
use Rattle.sg_facts.specs.Interface.{Declared, declares}
use Rattle.sg_script_parse.specs.sg_lex.Lexeme.{Spelling}
use Rattle.sg_script_parse.specs.declared.tree.WrittenArg.{WrittenArg}
use Rattle.sg_script_parse.specs.declared.tree.WrittenArg.TheVariants.{Number as number, Text as text, Back as back}
use Rattle.sg_script_parse.specs.declared.tree.WrittenCall.{WrittenCall}
use Rattle.sg_script_parse.specs.declared.tree.Part.{Part}
use Rattle.sg_script_parse.specs.declared.tree.Part.TheVariants.{Setup, Client, Schedule, Stop}
use Rattle.sg_script.specs.declared.multi.MultiCall.{MultiCall}
use Rattle.sg_script.specs.declared.multi.MultiScript.{MultiScript}
use Rattle.sg_script.specs.declared.script.Arg.{Arg}
use Rattle.sg_script.specs.declared.script.Arg.TheVariants.{Number, Text, Back}
use Rattle.sg_script.specs.declared.script.ScriptCall.{ScriptCall}
use Rattle.sg_script.specs.declared.script.Script.{Script}
use Rattle.sg_script.specs.Numbers.{counts_as, unquoted}

-- ---- functions by name

-- the number of the declared function that has a name, where functions are numbered from n on
abbrev pub declared_from : Declared → List ℕ → ℕ → List Fun → Option ℕ
declared_from i name n [] = None
declared_from i name n (f ∷ funs) = if bytes_eq f.name name && declares i n then Some n else declared_from i name (n + 1) funs

-- the number of the declared function of a name; None where there is none
abbrev pub declared_fun : Declared → List ℕ → Option ℕ
declared_fun i name = declared_from i name 1 i.facts.funs

-- the function of a name that the first member declares which declares one; None where none does
abbrev pub function_named : List Declared → List ℕ → Option Fun
function_named [] name = None
function_named (i ∷ members) name = option_map_or (λ f. Some (fun_at i.facts.funs f)) (declared_fun i name) (function_named members name)

-- the number of that member, where members are numbered from n on, and the function's number there
abbrev pub found_from : ℕ → List Declared → List ℕ → Option (ℕ × ℕ)
found_from n [] name = None
found_from n (i ∷ members) name = option_map_or (λ f. Some (n, f)) (declared_fun i name) (found_from (n + 1) members name)

-- ---- calls

-- what written arguments stand for
abbrev pub script_args : List WrittenArg → List Arg
script_args args = map (λ (a : WrittenArg). elim a [ number n ↦ Number (counts_as n.bytes) | text t ↦ Text (unquoted t.bytes) | back n ↦ Back (counts_as n.bytes) ]) args

-- what a written call stands for; the function is 0 where the interface declares none of its name
abbrev pub script_call_of : Declared → WrittenCall → ScriptCall
script_call_of i c = record { fun = unwrap_or (declared_fun i c.name.bytes) 0; args = script_args c.args }

-- what a written call stands for among members; its member and its function are 0 where none declares one of its name
abbrev pub multi_call_of : List Declared → WrittenCall → MultiCall
multi_call_of members c =
    let found = unwrap_or (found_from 1 members c.name.bytes) (0, 0) in
    record { member = found.0; call = record { fun = found.1; args = script_args c.args } }

-- ---- parts

-- the calls of a part that is a setup
abbrev pub calls_of_setup : Part → List WrittenCall
calls_of_setup part = elim part [ Setup at calls ↦ calls | _ ↦ [] ]

-- a client with its calls, in its place among others in ascending numbers
abbrev pub placed : {C : Type 0} → ℕ → List C → List (ℕ × List C) → List (ℕ × List C)
placed n calls [] = (n, calls) ∷ []
placed n calls (c ∷ clients) = if nat_lt c.0 n then c ∷ placed n calls clients else (n, calls) ∷ c ∷ clients

-- the clients of parts, in ascending numbers, with their calls made of the written ones
abbrev pub clients_of : {C : Type 0} → (WrittenCall → C) → List Part → List (ℕ × List C)
clients_of make parts = fold (λ clients (p : Part). elim p [
  | Client _ n calls ↦ placed (counts_as n.bytes) (map make calls) clients
  | _ ↦ clients
]) [] parts

-- the turns that parts give
abbrev pub schedule_of : List Part → List ℕ
schedule_of parts = map (λ n. counts_as n.bytes) (flat_map (λ (p : Part). elim p [ Schedule _ numbers ↦ numbers | _ ↦ [] ]) parts)

-- the stops that parts give
abbrev pub stops_of : List Part → List ℕ
stops_of parts = map (λ n. counts_as n.bytes) (flat_map (λ (p : Part). elim p [ Stop _ _ numbers ↦ numbers | _ ↦ [] ]) parts)

-- the script of parts for an interface
abbrev pub script_of : Declared → List Part → Script
script_of i parts = record {
  setup = map (script_call_of i) (flat_map calls_of_setup parts);
  clients = clients_of (script_call_of i) parts;
  schedule = schedule_of parts;
  stops = stops_of parts;
}

-- ---- several interfaces

-- the greatest number of members
abbrev pub most_members : ℕ
most_members = 64

-- the member, from 0, that a `stop` is for: the one of the service that it names, or the first where it names none; None where there is
-- no member of that service
abbrev pub stop_member : List Declared → Option Spelling → Option ℕ
stop_member members service = option_map_or (λ s. position_from (λ i. bytes_eq i.facts.name s.bytes) 0 members) service (Some 0)

-- whether a part is a `stop` for a member, from 0
abbrev pub is_stop_of : List Declared → ℕ → Part → Bool
is_stop_of members m part = elim part [ Stop _ service _ ↦ option_map_or (λ n. n == m) (stop_member members service) false | _ ↦ false ]

-- the script of parts for members; it has the stops of each of them
abbrev pub multi_script_of : List Declared → List Part → MultiScript
multi_script_of members parts = record {
  setup = map (multi_call_of members) (flat_map calls_of_setup parts);
  clients = clients_of (multi_call_of members) parts;
  schedule = schedule_of parts;
  stops = map (λ m. stops_of (filter (is_stop_of members m) parts)) (range_with_len 0 (length members));
}
