-- Parts whose numbers and texts have room in the types of a script.
use Rattle.std.specs.Prelude.{◌&&◌, ◌^◌, Bool, true, nat_lt}
use Rattle.std.specs.List.{list_all}
use Rattle.sg_script_parse.specs.sg_lex.Lexeme.{Spelling}
use Rattle.sg_script_parse.specs.declared.tree.WrittenArg.{WrittenArg}
use Rattle.sg_script_parse.specs.declared.tree.WrittenArg.TheVariants.{Number, Text, Back}
use Rattle.sg_script_parse.specs.declared.tree.WrittenCall.{WrittenCall}
use Rattle.sg_script_parse.specs.declared.tree.Part.{Part}
use Rattle.sg_script_parse.specs.declared.tree.Part.TheVariants.{Setup, Client, Schedule, Stop}
use Rattle.sg_script.specs.Numbers.{counts_as, is_known_client, is_text, unquoted}

-- whether digits count as a client's number
abbrev pub is_client_number : Spelling → Bool
is_client_number n = is_known_client (counts_as n.bytes)

-- whether a text is one that calls take, and a `$` number has 32 bits at most
abbrev pub is_held_arg : WrittenArg → Bool
is_held_arg (Number n) = true
is_held_arg (Text t) = is_text (unquoted t.bytes)
is_held_arg (Back n) = nat_lt (counts_as n.bytes) (2 ^ 32)

-- whether the types of a script have room for each argument of a call
abbrev pub is_held_call : WrittenCall → Bool
is_held_call c = list_all is_held_arg c.args

-- whether the types of a script have room for a part: for its clients' numbers and the arguments of its calls
abbrev pub is_held : Part → Bool
is_held (Setup at calls) = list_all is_held_call calls
is_held (Client at n calls) = is_client_number n && list_all is_held_call calls
is_held (Schedule at numbers) = list_all is_client_number numbers
is_held (Stop at service numbers) = true
