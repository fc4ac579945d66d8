-- What a written entry stands for.
use Rattle.std.specs.Prelude.{ℕ, Bool, true, List, [], ◌∷◌, map, unwrap_or}
use Rattle.std.specs.Option.{option_map_or}
use Rattle.sg_entries.specs.sg_lex.Lexeme.{Spelling}
use Rattle.sg_entries.specs.declared.tree.WrittenAnswer.TheVariants.{Refused as refused, Ok as ok}
use Rattle.sg_entries.specs.declared.tree.WrittenArg.{WrittenArg}
use Rattle.sg_entries.specs.declared.tree.WrittenArg.TheVariants.{Number, Text as text}
use Rattle.sg_entries.specs.declared.tree.WrittenEntry.{WrittenEntry}
use Rattle.sg_facts.specs.Interface.{Declared}
use Rattle.sg_facts.specs.declared.entry.Entry.{Entry}
use Rattle.sg_facts.specs.sg_base.declared.reply.Reply.TheVariants.{Refused, Ok}
use Rattle.sg_facts.specs.sg_base.declared.value.Value.{Value}
use Rattle.sg_facts.specs.sg_base.declared.value.Value.TheVariants.{Word, Text}
use Rattle.sg_report.specs.Report.{takes_id}
use Rattle.sg_lex.specs.Numbers.{value_of_digits}
use Rattle.sg_script.specs.Scripts.{declared_fun}

-- the number that is written
abbrev pub number_of : Spelling → ℕ
number_of n = value_of_digits n.bytes

-- what an argument stands for
abbrev pub value_of : WrittenArg → Value
value_of (Number n) = Word (number_of n)
value_of (text t) = Text t.bytes

-- what a call's brackets name as its descriptor or parent: their first number, where the function takes one; else 0
abbrev pub id_in : Bool → List Value → ℕ
id_in true (Word n ∷ values) = n
id_in _ _ = 0

-- a call's other arguments: what stands after its descriptor or parent, where the function takes one; else all
abbrev pub args_in : Bool → List Value → List Value
args_in true (Word n ∷ values) = values
args_in _ values = values

-- what an entry stands for; its function is 0 where the interface declares none of its name, as is a descriptor that isn't there
abbrev pub entry_of : Declared → WrittenEntry → Entry
entry_of i e =
    let fun = unwrap_or (declared_fun i e.name.bytes) 0 in
    let takes = takes_id i.facts fun in
    let values = map value_of e.args in
    record {
      call = record { client = number_of e.client; seq = number_of e.seq; fun = fun; desc = id_in takes values; args = args_in takes values };
      reply = elim e.answer [
        | refused code ↦ Refused code
        | ok desc words bytes ↦
            let shown = option_map_or (λ (t : Spelling). t.bytes) bytes [] in
            Ok (record { desc = option_map_or number_of desc 0; words = map number_of words; bytes = shown })
      ];
    }
