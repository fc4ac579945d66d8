-- How far a script has been read: an automaton over tokens, whose states carry the parts so far. Nothing public rests on
-- the automaton, which is proved to read exactly the scripts, and says in what steps the parser goes.
use Rattle.std.specs.Prelude.{ℕ, Bool, false, if◌then◌else◌, List, [], ◌∷◌, ◌++◌, None, Some, codes}
use Rattle.std.specs.declared.option.Option.{Option}
use Rattle.sg_lex.specs.declared.token.TokenKind.TheVariants.{Word, Number, Text}
use Rattle.sg_lex.specs.Lexeme.{Lexeme, Spelling}
use Rattle.sg_lex.specs.Inside.Automata.{Automaton}
use Rattle.sg_lex.specs.Inside.Tests.{has_kind, is_this_mark, is_fixed}
use Rattle.sg_script_parse.specs.declared.error.ScriptSyntax.{ScriptSyntax}
use Rattle.sg_script_parse.specs.declared.error.ScriptSyntax.TheVariants.{NoMemory, Syntax}
use Rattle.sg_script_parse.specs.declared.tree.WrittenArg.{WrittenArg}
use Rattle.sg_script_parse.specs.declared.tree.WrittenArg.TheVariants.{Number as number_arg, Text as text_arg, Back as back_arg}
use Rattle.sg_script_parse.specs.declared.tree.WrittenCall.{WrittenCall}
use Rattle.sg_script_parse.specs.declared.tree.Part.{Part}
use Rattle.sg_script_parse.specs.declared.tree.Part.TheVariants.{Setup, Client, Schedule, Stop}
use Rattle.sg_lex.specs.Inside.Marks.{dollar_byte, open_bracket_byte, semicolon_byte, open_brace_byte, close_bracket_byte, comma_byte, close_brace_byte}

-- what a token spells
abbrev pub spelt_by : Lexeme → Spelling
spelt_by token = record { bytes = token.bytes; at = token.at }

-- ---- states

-- how far a script has been read: what may come next, with the parts so far
pub data ScriptState : Type 0 where
  -- no token may come
  dead : ScriptState
  -- this mark, and then the state
  due : ℕ → ScriptState → ScriptState
  -- a number, and then the state of it
  want : (Spelling → ScriptState) → ScriptState
  -- a word, and then the state of it
  want_word : (Spelling → ScriptState) → ScriptState
  -- an argument, and then the state of it
  argument : (WrittenArg → ScriptState) → ScriptState
  -- after `(`: arguments or none, `)`, and then the state of them
  bracketed : (List WrittenArg → ScriptState) → ScriptState
  -- after an argument: a comma and a further one, or `)` and then the state of them all
  listed : List WrittenArg → (List WrittenArg → ScriptState) → ScriptState
  -- after `{` and calls: a further one, or `}` and then the state of them all
  body : List WrittenCall → (List WrittenCall → ScriptState) → ScriptState
  -- after numbers: a further one, or `;` and then the state of them all
  counts : List Spelling → (List Spelling → ScriptState) → ScriptState
  -- before a part or the end, of a script for several services or for one
  script : Bool → List Part → ScriptState

-- after the first token of an argument
abbrev pub argument_after : (WrittenArg → ScriptState) → Lexeme → Option ScriptState
argument_after k token =
    if is_this_mark dollar_byte token then Some (want (λ n. k (back_arg n)))
    else (if has_kind Text token then Some (k (text_arg (spelt_by token)))
    else (if has_kind Number token then Some (k (number_arg (spelt_by token)))
    else None))

-- after a call's name
abbrev pub call_rest : (WrittenCall → ScriptState) → Spelling → ScriptState
call_rest k name = due open_bracket_byte (bracketed (λ args. due semicolon_byte (k (record { name = name; args = args }))))

-- calls in braces
abbrev pub braced : (List WrittenCall → ScriptState) → ScriptState
braced k = due open_brace_byte (body [] k)

-- after the first word of a part

-- after `setup`: calls in braces
abbrev pub setup_rest : (Part → ScriptState) → ℕ → ScriptState
setup_rest go at = braced (λ calls. go (Setup at calls))

-- after `client`: a number, and then calls in braces
abbrev pub client_rest : (Part → ScriptState) → ℕ → ScriptState
client_rest go at = want (λ n. braced (λ calls. go (Client at n calls)))

-- after `schedule`: numbers up to a semicolon
abbrev pub schedule_rest : (Part → ScriptState) → ℕ → ScriptState
schedule_rest go at = counts [] (λ numbers. go (Schedule at numbers))

-- the name of a service, in a script for several
abbrev pub named : Bool → (Option Spelling → ScriptState) → ScriptState
named several k = if several then want_word (λ s. k (Some s)) else k None

-- after `stop`: the name of a service, in a script for several, and numbers up to a semicolon
abbrev pub stop_rest : Bool → (Part → ScriptState) → ℕ → ScriptState
stop_rest several go at = named several (λ service. counts [] (λ numbers. go (Stop at service numbers)))

-- after the first token of a part
abbrev pub part_after : Bool → (Part → ScriptState) → Lexeme → Option ScriptState
part_after several go token =
    if is_fixed (codes "setup") token then Some (setup_rest go token.at)
    else (if is_fixed (codes "client") token then Some (client_rest go token.at)
    else (if is_fixed (codes "schedule") token then Some (schedule_rest go token.at)
    else (if is_fixed (codes "stop") token then Some (stop_rest several go token.at)
    else None)))

-- with one part more
abbrev pub with_part : Bool → List Part → Part → ScriptState
with_part several parts part = script several (parts ++ part ∷ [])

-- before the first token
abbrev pub script_start : Bool → ScriptState
script_start several = script several []

-- ---- steps

-- the state after a token; None where the token may not come
unfoldable pub step : ScriptState → Lexeme → Option ScriptState
step dead token = None
step (due byte s) token = if is_this_mark byte token then Some s else None
step (want k) token = if has_kind Number token then Some (k (spelt_by token)) else None
step (want_word k) token = if has_kind Word token then Some (k (spelt_by token)) else None
step (argument k) token = argument_after k token
step (bracketed k) token =
    if is_this_mark close_bracket_byte token then Some (k []) else argument_after (λ a. listed (a ∷ []) k) token
step (listed args k) token =
    if is_this_mark comma_byte token then Some (argument (λ a. listed (args ++ a ∷ []) k))
    else (if is_this_mark close_bracket_byte token then Some (k args)
    else None)
step (body calls k) token =
    if has_kind Word token then Some (call_rest (λ c. body (calls ++ c ∷ []) k) (spelt_by token))
    else (if is_this_mark close_brace_byte token then Some (k calls)
    else None)
step (counts numbers k) token =
    if has_kind Number token then Some (counts (numbers ++ spelt_by token ∷ []) k)
    else (if is_this_mark semicolon_byte token then Some (k numbers)
    else None)
step (script several parts) token = part_after several (with_part several parts) token

-- the parts, where the text may end here
unfoldable pub parts_at : ScriptState → Option (List Part)
parts_at (script several parts) = Some parts
parts_at s = None

-- how the automaton reads a text, which is to be a script for several services or for one
abbrev pub scripts_for : Bool → Automaton ScriptState (List Part) ScriptSyntax
scripts_for several = record { start = script_start several; step = step; value_at = parts_at; no_token = Syntax; no_sentence = Syntax; no_memory = NoMemory }

-- the same from any state on: how it goes on doesn't depend on its start
abbrev pub scripts : Automaton ScriptState (List Part) ScriptSyntax
scripts = scripts_for false
