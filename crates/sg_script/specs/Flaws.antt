-- What can be wrong with a script for one interface or for several, its members, and at which place.
use Rattle.std.specs.Prelude.{ℕ, ◌≡◌, ◌<◌, ◌≤◌, ◌+◌, ◌==◌, ◌&&◌, ◌⊎◌, Bool, true, false, not, is_none, nat_le, nat_lt, if◌then◌else◌, List, [], ◌∷◌, ◌++◌, length, None, Some, codes}
use Rattle.std.specs.List.{Contains, flat_map, list_any, position_or_len}
use Rattle.std.specs.Option.{option_map_or}
use Rattle.std.specs.Cmp.Lexicographic.{pointwise}
use Rattle.sg_facts.specs.declared.shape.Kind.{Kind}
use Rattle.sg_facts.specs.declared.shape.Kind.TheVariants.{Text as IsText}
use Rattle.sg_facts.specs.Interface.{Declared}
use Rattle.sg_facts.specs.Limits.{most_script_calls}
use Rattle.sg_facts.specs.sg_base.Counts.{last_count}
use Rattle.sg_script_parse.specs.sg_lex.Lexeme.{Spelling}
use Rattle.sg_script_parse.specs.declared.tree.WrittenArg.{WrittenArg}
use Rattle.sg_script_parse.specs.declared.tree.WrittenArg.TheVariants.{Number, Text, Back}
use Rattle.sg_script_parse.specs.declared.tree.WrittenCall.{WrittenCall}
use Rattle.sg_script_parse.specs.declared.tree.Part.{Part}
use Rattle.sg_script_parse.specs.declared.tree.Part.TheVariants.{Setup, Client, Schedule, Stop}
use Rattle.sg_script.specs.declared.fault.ScriptKind.{ScriptKind}
use Rattle.sg_script.specs.declared.fault.ScriptKind.TheVariants.{Syntax, UnknownFunction, UnknownService, BadArgs, BadClient, Twice, NotAscending, Blocking, Limit}
use Rattle.sg_script.specs.declared.fault.ScriptFault.{ScriptFault}
use Rattle.sg_script.specs.Numbers.{counts_as, is_known_client, is_text, unquoted}
use Rattle.sg_script_parse.specs.sg_lex.Numbers.{value_of_digits}
use Rattle.sg_script.specs.Scripts.{calls_of_setup, function_named, is_stop_of, stop_member}
use Rattle.sg_script.specs.contracts.fault.ScriptKindPartialEq.TheImpl.{eq-value as same_kind}

-- a flaw of a kind at a place, where there is one
abbrev pub script_flaw_if : Bool → ScriptKind → ℕ → List ScriptFault
script_flaw_if flawed kind at = if flawed then record { at = at; kind = kind } ∷ [] else []

-- ---- numbers and texts

-- a number above the greatest of 64 bits
abbrev pub number_flaws : Spelling → List ScriptFault
number_flaws n = script_flaw_if (nat_lt last_count (value_of_digits n.bytes)) Limit n.at

-- a client's number
abbrev pub client_flaws : Spelling → List ScriptFault
client_flaws n = script_flaw_if (not (is_known_client (counts_as n.bytes))) BadClient n.at ++ number_flaws n

-- ---- calls

-- whether an argument may stand for a parameter, in the call that is its client's call of this number: a text for a text, and
-- a number for anything else, or a `$` number from 1 to below the call's own
abbrev pub written_arg_fits : ℕ → Kind → WrittenArg → Bool
written_arg_fits own IsText (Text t) = true
written_arg_fits own IsText _ = false
written_arg_fits own _ (Text t) = false
written_arg_fits own _ (Number n) = true
written_arg_fits own _ (Back n) = nat_le 1 (counts_as n.bytes) && nat_lt (counts_as n.bytes) own

-- whether arguments may stand for parameters, one for each
abbrev pub written_args_fit : ℕ → List Kind → List WrittenArg → Bool
written_args_fit own kinds args = pointwise (written_arg_fits own) kinds args

-- a call: whether it stands in a setup, its number among all calls of the text, and its number among its client's. It is judged by its
-- function, where a member declares one of its name; as one call too many; and by each argument by itself
abbrev pub call_flaws : List Declared → Bool → ℕ → ℕ → WrittenCall → List ScriptFault
call_flaws members in_setup nth own c =
    (elim (function_named members c.name.bytes) [
      | None ↦ script_flaw_if true UnknownFunction c.name.at
      | Some f ↦ script_flaw_if (not (written_args_fit own f.kinds c.args)) BadArgs c.name.at ++ script_flaw_if (in_setup && f.block) Blocking c.name.at
    ])
    ++ script_flaw_if (nth == most_script_calls + 1) Limit c.name.at
    ++ flat_map (λ (a : WrittenArg). elim a [ Text t ↦ script_flaw_if (not (is_text (unquoted t.bytes))) Limit t.at | Number n ↦ number_flaws n | Back n ↦ number_flaws n ]) c.args

-- calls that follow one another, the first of which has these numbers
abbrev pub calls_flaws : List Declared → Bool → ℕ → ℕ → List WrittenCall → List ScriptFault
calls_flaws members in_setup nth own [] = []
calls_flaws members in_setup nth own (c ∷ calls) = call_flaws members in_setup nth own c ++ calls_flaws members in_setup (nth + 1) (own + 1) calls

-- ---- stops

-- stops that follow one another, the first of which has a number among them, after a number that it has to be above; the 65th is one too
-- many
abbrev pub stops_flaws : ℕ → ℕ → List Spelling → List ScriptFault
stops_flaws nth before [] = []
stops_flaws nth before (n ∷ numbers) =
    script_flaw_if (nat_le (counts_as n.bytes) before) NotAscending n.at ++ script_flaw_if (nth == 65) Limit n.at ++ number_flaws n
    ++ stops_flaws (nth + 1) (counts_as n.bytes) numbers

-- ---- parts

-- the calls of a part, whosever they are
abbrev pub calls_in : Part → List WrittenCall
calls_in part = elim part [ Setup at calls ↦ calls | Client at n calls ↦ calls | _ ↦ [] ]

-- how many calls of client 1 come before the calls of its own part: those of the setup; none for any other client
abbrev pub calls_before : ℕ → ℕ → ℕ
calls_before setup client = if client == 1 then setup else 0

-- a part after others, in a script whose setup has so many calls: `Twice` at its first word, where it is a second `setup` or `schedule`,
-- a second `stop` for one member, or a second part of one client; and what is wrong within it
abbrev pub part_flaws : List Declared → ℕ → List Part → Part → List ScriptFault
part_flaws members setup front (Setup at calls) =
    script_flaw_if (list_any (λ (p : Part). elim p [ Setup _ _ ↦ true | _ ↦ false ]) front) Twice at
    ++ calls_flaws members true (length (flat_map calls_in front) + 1) 1 calls
part_flaws members setup front (Client at n calls) =
    let client = counts_as n.bytes in
    let again = list_any (λ (p : Part). elim p [ Client _ m _ ↦ counts_as m.bytes == client | _ ↦ false ]) front in
    script_flaw_if (is_known_client client && again) Twice at
    ++ (client_flaws n ++ calls_flaws members false (length (flat_map calls_in front) + 1) (calls_before setup client + 1) calls)
part_flaws members setup front (Schedule at numbers) =
    script_flaw_if (list_any (λ (p : Part). elim p [ Schedule _ _ ↦ true | _ ↦ false ]) front) Twice at ++ flat_map client_flaws numbers
part_flaws members setup front (Stop at service numbers) =
    let again = option_map_or (λ m. list_any (is_stop_of members m) front) (stop_member members service) false in
    script_flaw_if again Twice at
    ++ (option_map_or (λ (s : Spelling). script_flaw_if (is_none (stop_member members service)) UnknownService s.at) service [] ++ stops_flaws 1 0 numbers)

-- parts after others
abbrev pub flaws_after : List Declared → ℕ → List Part → List Part → List ScriptFault
flaws_after members setup front [] = []
flaws_after members setup front (p ∷ parts) = part_flaws members setup front p ++ flaws_after members setup (front ++ p ∷ []) parts

-- all that is wrong with a script; all calls of its setups count, wherever these stand
abbrev pub flaws_of : List Declared → List Part → List ScriptFault
flaws_of members parts = flaws_after members (length (flat_map calls_of_setup parts)) [] parts

-- ---- the first of them

-- the kinds in their order at one place, each with its name
abbrev pub script_kinds : List (ScriptKind × List ℕ)
script_kinds =
    (Syntax, codes "Syntax") ∷ (UnknownFunction, codes "UnknownFunction") ∷ (UnknownService, codes "UnknownService") ∷ (BadArgs, codes "BadArgs")
    ∷ (BadClient, codes "BadClient") ∷ (Twice, codes "Twice") ∷ (NotAscending, codes "NotAscending") ∷ (Blocking, codes "Blocking") ∷ (Limit, codes "Limit") ∷ []

-- the place of a kind in that order
abbrev pub script_kind_rank : ScriptKind → ℕ
script_kind_rank kind = position_or_len (λ p. same_kind.it p.0 kind) script_kinds

-- a flaw is the first of some: none stands at an earlier place, and none of an earlier kind at its own
pub record IsFirstFlaw (flaws : List ScriptFault) (f : ScriptFault) : Type 0 where
  pub there : Contains flaws f
  pub first : (g : ScriptFault) → Contains flaws g → (f.at < g.at) ⊎ ((f.at ≡ g.at) × (script_kind_rank f.kind ≤ script_kind_rank g.kind))
