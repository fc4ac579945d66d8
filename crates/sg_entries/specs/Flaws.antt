-- What can be wrong with written entries for an interface, and at which place.
use Rattle.std.specs.Prelude.{ℕ, ◌+◌, ◌-◌, ◌^◌, ◌==◌, Bool, true, false, not, nat_le, if◌then◌else◌, List, [], ◌∷◌, ◌++◌, None, Some, map}
use Rattle.std.specs.Option.{option_map_or}
use Rattle.std.specs.List.{flat_map}
use Rattle.sg_entries.specs.sg_lex.Lexeme.{Spelling}
use Rattle.sg_entries.specs.declared.tree.WrittenAnswer.TheVariants.{Refused, Ok}
use Rattle.sg_entries.specs.declared.tree.WrittenArg.{WrittenArg}
use Rattle.sg_entries.specs.declared.tree.WrittenArg.TheVariants.{Number, Text as text}
use Rattle.sg_entries.specs.declared.tree.WrittenEntry.{WrittenEntry}
use Rattle.sg_entries.specs.Standing.{number_of, value_of}
use Rattle.sg_entries.specs.declared.error.EntriesKind.{EntriesKind}
use Rattle.sg_entries.specs.declared.error.EntriesKind.TheVariants.{UnknownFunction, BadArgs, BadClient, Limit}
use Rattle.sg_facts.specs.Facts.{fun_at}
use Rattle.sg_facts.specs.Interface.{Declared}
use Rattle.sg_facts.specs.Kinds.{kinds_fit}
use Rattle.sg_facts.specs.Limits.{most_script_calls}
use Rattle.sg_facts.specs.declared.shape.Kind.{Kind}
use Rattle.sg_facts.specs.sg_base.declared.value.Value.{Value}
use Rattle.sg_facts.specs.sg_base.declared.value.Value.TheVariants.{Word}
use Rattle.sg_report.specs.Report.{takes_id}
use Rattle.sg_script.specs.Numbers.{is_known_client, is_text}
use Rattle.sg_script.specs.Scripts.{declared_fun}

-- what is wrong, and where
pub record Flaw : Type 0 where
  pub kind : EntriesKind
  pub at : ℕ

-- a flaw of a kind at a place, where there is one
abbrev pub flaw_if : Bool → EntriesKind → ℕ → List Flaw
flaw_if flawed kind at = if flawed then record { kind = kind; at = at } ∷ [] else []

-- ---- numbers and texts

-- a number above the greatest of so many bits
abbrev pub number_flaws : ℕ → Spelling → List Flaw
number_flaws bits n = flaw_if (nat_le (2 ^ bits) (number_of n)) Limit n.at

-- a text; its place is that of its first quote
abbrev pub text_flaws : Spelling → List Flaw
text_flaws t = flaw_if (not (is_text t.bytes)) Limit (t.at - 1)

-- ---- entries

-- whether the values in a call's brackets may be given to a function with these parameters: a number before the others, where the
-- function takes a descriptor or a parent, and for each other parameter a value of its kind
abbrev pub values_fit : Bool → List Kind → List Value → Bool
values_fit false kinds values = kinds_fit kinds values
values_fit true kinds (Word n ∷ values) = kinds_fit kinds values
values_fit true kinds _ = false

-- an entry of this number among those of its text, in the order of places, and at one place in the order of kinds: its client; its number;
-- its function, where the interface declares one of its name; whether it is one too many; its arguments, each by itself; its answer
abbrev pub entry_flaws : Declared → ℕ → WrittenEntry → List Flaw
entry_flaws i nth e =
    flaw_if (not (is_known_client (number_of e.client))) BadClient e.client.at
    ++ number_flaws 32 e.seq
    ++ (elim (declared_fun i e.name.bytes) [
      | None ↦ flaw_if true UnknownFunction e.name.at
      | Some fun ↦ flaw_if (not (values_fit (takes_id i.facts fun) (fun_at i.facts.funs fun).kinds (map value_of e.args))) BadArgs e.name.at
    ])
    ++ flaw_if (nth == most_script_calls + 1) Limit e.name.at
    ++ flat_map (λ (a : WrittenArg). elim a [ Number n ↦ number_flaws 64 n | text t ↦ text_flaws t ]) e.args
    ++ (elim e.answer [
      | Refused code ↦ []
      | Ok desc words bytes ↦
          option_map_or (number_flaws 64) desc [] ++ flat_map (number_flaws 64) words ++ option_map_or text_flaws bytes []
    ])

-- entries that follow one another, each in its line, the first of which has this number, in the order of places in the text
abbrev pub flaws_from : Declared → ℕ → List Spelling → List WrittenEntry → List Flaw
flaws_from i nth (l ∷ lines) (e ∷ entries) =
    map (λ (f : Flaw). record f { at = l.at + f.at }) (entry_flaws i nth e) ++ flaws_from i (nth + 1) lines entries
flaws_from i nth _ _ = []
