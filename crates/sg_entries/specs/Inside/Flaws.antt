-- What can be wrong with the pieces of an entry.
use Rattle.std.specs.Prelude.{ℕ, ◌+◌, true, not, List, [], ◌++◌, None, Some, map}
use Rattle.std.specs.Option.{option_map_or}
use Rattle.std.specs.declared.option.Option.{Option}
use Rattle.std.specs.List.{flat_map}
use Rattle.sg_entries.specs.sg_lex.Lexeme.{Spelling}
use Rattle.sg_entries.specs.declared.tree.WrittenAnswer.{WrittenAnswer}
use Rattle.sg_entries.specs.declared.tree.WrittenAnswer.TheVariants.{Refused, Ok}
use Rattle.sg_entries.specs.declared.tree.WrittenArg.{WrittenArg}
use Rattle.sg_entries.specs.declared.tree.WrittenArg.TheVariants.{Number, Text as text}
use Rattle.sg_entries.specs.declared.tree.WrittenEntry.{WrittenEntry}
use Rattle.sg_entries.specs.Flaws.{Flaw, flaw_if, number_flaws, text_flaws, values_fit}
use Rattle.sg_entries.specs.Standing.{number_of, value_of}
use Rattle.sg_entries.specs.declared.error.EntriesKind.TheVariants.{UnknownFunction, BadArgs, BadClient}
use Rattle.sg_facts.specs.Facts.{fun_at}
use Rattle.sg_facts.specs.Interface.{Declared}
use Rattle.sg_facts.specs.Limits.{most_script_calls}
use Rattle.sg_report.specs.Report.{takes_id}
use Rattle.sg_script.specs.Numbers.{is_known_client}

-- a number of 64 bits
abbrev pub word_flaws : Spelling → List Flaw
word_flaws n = number_flaws 64 n

-- a client's number
abbrev pub client_flaws : Spelling → List Flaw
client_flaws n = flaw_if (not (is_known_client (number_of n))) BadClient n.at

-- a call by its function, where the interface declares one of its name
abbrev pub fun_flaws : Declared → WrittenEntry → Option ℕ → List Flaw
fun_flaws i e None = flaw_if true UnknownFunction e.name.at
fun_flaws i e (Some fun) = flaw_if (not (values_fit (takes_id i.facts fun) (fun_at i.facts.funs fun).kinds (map value_of e.args))) BadArgs e.name.at

-- an argument by itself
abbrev pub arg_flaws : WrittenArg → List Flaw
arg_flaws (Number n) = word_flaws n
arg_flaws (text t) = text_flaws t

-- a piece that needn't be there, by what is wrong with one that is
abbrev pub optional_flaws : (Spelling → List Flaw) → Option Spelling → List Flaw
optional_flaws flaws piece = option_map_or flaws piece []

-- an answer
abbrev pub answer_flaws : WrittenAnswer → List Flaw
answer_flaws (Refused code) = []
answer_flaws (Ok desc words bytes) = optional_flaws word_flaws desc ++ flat_map word_flaws words ++ optional_flaws text_flaws bytes

-- the number of the first entry that is one too many
abbrev pub too_many_entries : ℕ
too_many_entries = most_script_calls + 1

-- a flaw in a line, by its place in the text of the line
abbrev pub in_line : Spelling → Flaw → Flaw
in_line line f = record { kind = f.kind; at = line.at + f.at }
