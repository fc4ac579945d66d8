-- What the parts of a script are, piece by piece.
use Rattle.std.specs.Prelude.{ℕ, ◌+◌, ◌==◌, ◌&&◌, Bool, true, false, not, is_none, List, [], ◌++◌, map, None, Some}
use Rattle.std.specs.declared.option.Option.{Option}
use Rattle.std.specs.List.{flat_map, list_any}
use Rattle.std.specs.Option.{option_map_or}
use Rattle.sg_facts.specs.Facts.{Fun}
use Rattle.sg_facts.specs.Interface.{Declared}
use Rattle.sg_script_parse.specs.sg_lex.Lexeme.{Spelling}
use Rattle.sg_script_parse.specs.declared.tree.WrittenArg.{WrittenArg}
use Rattle.sg_script_parse.specs.declared.tree.WrittenArg.TheVariants.{Number as number, Text as text, Back as back}
use Rattle.sg_script_parse.specs.declared.tree.WrittenCall.{WrittenCall}
use Rattle.sg_script_parse.specs.declared.tree.Part.{Part}
use Rattle.sg_script_parse.specs.declared.tree.Part.TheVariants.{Setup, Client, Schedule, Stop}
use Rattle.sg_script.specs.declared.fault.ScriptKind.TheVariants.{UnknownFunction, UnknownService, BadArgs, Blocking, Limit}
use Rattle.sg_script.specs.declared.fault.ScriptFault.{ScriptFault}
use Rattle.sg_script.specs.declared.script.Arg.{Arg}
use Rattle.sg_script.specs.declared.script.Arg.TheVariants.{Number, Text, Back}
use Rattle.sg_script.specs.Flaws.{calls_before, calls_flaws, client_flaws, number_flaws, script_flaw_if, stops_flaws, written_args_fit}
use Rattle.sg_script.specs.Numbers.{counts_as, is_known_client, is_text, unquoted}
use Rattle.sg_script.specs.Scripts.{is_stop_of, placed, stop_member}

-- ---- what they stand for

-- what a written argument stands for
abbrev pub arg_of : WrittenArg → Arg
arg_of (number n) = Number (counts_as n.bytes)
arg_of (text t) = Text (unquoted t.bytes)
arg_of (back n) = Back (counts_as n.bytes)

-- the turns that a part gives: the clients of a schedule
abbrev pub turns_of : Part → List Spelling
turns_of (Schedule at numbers) = numbers
turns_of _ = []

-- the stops that a part gives
abbrev pub stops_in : Part → List Spelling
stops_in (Stop at service numbers) = numbers
stops_in _ = []

-- with the client of a part among others in ascending numbers, its calls made of the written ones
abbrev pub with_client : {C : Type 0} → (WrittenCall → C) → Part → List (ℕ × List C) → List (ℕ × List C)
with_client make p clients = elim p [ Client _ n calls ↦ placed (counts_as n.bytes) (map make calls) clients | _ ↦ clients ]

-- ---- flaws of calls

-- an argument by itself
abbrev pub arg_flaws : WrittenArg → List ScriptFault
arg_flaws (number n) = number_flaws n
arg_flaws (text t) = script_flaw_if (not (is_text (unquoted t.bytes))) Limit t.at
arg_flaws (back n) = number_flaws n

-- a call by its function, where a member declares one of its name
abbrev pub fun_flaws : Bool → ℕ → WrittenCall → Option Fun → List ScriptFault
fun_flaws in_setup own c None = script_flaw_if true UnknownFunction c.name.at
fun_flaws in_setup own c (Some f) =
    script_flaw_if (not (written_args_fit own f.kinds c.args)) BadArgs c.name.at ++ script_flaw_if (in_setup && f.block) Blocking c.name.at

-- ---- flaws of stops

-- the name of a service, where no member is of it
abbrev pub service_flaws : List Declared → Option Spelling → List ScriptFault
service_flaws members service = option_map_or (λ (s : Spelling). script_flaw_if (is_none (stop_member members service)) UnknownService s.at) service []

-- ---- parts

-- whether a part is a setup
abbrev pub is_setup : Part → Bool
is_setup (Setup at calls) = true
is_setup _ = false

-- a part of the client of a number
abbrev pub is_of_client : ℕ → Part → Bool
is_of_client k (Client at n calls) = counts_as n.bytes == k
is_of_client k _ = false

-- whether a part is a schedule
abbrev pub is_schedule : Part → Bool
is_schedule (Schedule at numbers) = true
is_schedule _ = false

-- whether a part has the stops
abbrev pub is_stop : Part → Bool
is_stop (Stop at service numbers) = true
is_stop _ = false

-- whether a part is a second `setup` or `schedule`, a second `stop` for one member, or a second part of one client, after others
abbrev pub comes_again : List Declared → List Part → Part → Bool
comes_again members front (Setup at calls) = list_any is_setup front
comes_again members front (Client at n calls) = is_known_client (counts_as n.bytes) && list_any (is_of_client (counts_as n.bytes)) front
comes_again members front (Schedule at numbers) = list_any is_schedule front
comes_again members front (Stop at service numbers) = option_map_or (λ m. list_any (is_stop_of members m) front) (stop_member members service) false

-- the place of its first word
abbrev pub part_place : Part → ℕ
part_place (Setup at calls) = at
part_place (Client at n calls) = at
part_place (Schedule at numbers) = at
part_place (Stop at service numbers) = at

-- what is wrong within a part, after so many calls of the text, in a script whose setup has so many calls
abbrev pub inner_flaws : List Declared → ℕ → ℕ → Part → List ScriptFault
inner_flaws members setup before (Setup at calls) = calls_flaws members true (before + 1) 1 calls
inner_flaws members setup before (Client at n calls) =
    client_flaws n ++ calls_flaws members false (before + 1) (calls_before setup (counts_as n.bytes) + 1) calls
inner_flaws members setup before (Schedule at numbers) = flat_map client_flaws numbers
inner_flaws members setup before (Stop at service numbers) = service_flaws members service ++ stops_flaws 1 0 numbers
