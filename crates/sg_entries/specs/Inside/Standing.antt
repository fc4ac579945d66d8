-- What the pieces of an entry stand for.
use Rattle.std.specs.Prelude.{ℕ, List, [], map, unwrap_or}
use Rattle.std.specs.Option.{option_map_or}
use Rattle.std.specs.declared.option.Option.{Option}
use Rattle.sg_entries.specs.Standing.{number_of}
use Rattle.sg_entries.specs.sg_lex.Lexeme.{Spelling}
use Rattle.sg_entries.specs.declared.tree.WrittenAnswer.{WrittenAnswer}
use Rattle.sg_entries.specs.declared.tree.WrittenAnswer.TheVariants.{Refused as refused, Ok as ok}
use Rattle.sg_entries.specs.declared.tree.WrittenEntry.{WrittenEntry}
use Rattle.sg_facts.specs.Interface.{Declared}
use Rattle.sg_facts.specs.sg_base.declared.reply.Reply.{Reply}
use Rattle.sg_facts.specs.sg_base.declared.reply.Reply.TheVariants.{Refused, Ok}
use Rattle.sg_script.specs.Scripts.{declared_fun}

-- the number of a descriptor; 0 where there is none
abbrev pub desc_of : Option Spelling → ℕ
desc_of desc = option_map_or number_of desc 0

-- the bytes that are shown; none where none are
abbrev pub bytes_of : Option Spelling → List ℕ
bytes_of bytes = option_map_or (λ (t : Spelling). t.bytes) bytes []

-- what an answer stands for
abbrev pub reply_of : WrittenAnswer → Reply
reply_of (refused code) = Refused code
reply_of (ok desc words bytes) = Ok (record { desc = desc_of desc; words = map number_of words; bytes = bytes_of bytes })

-- the number of an entry's function; 0 where the interface declares none of its name
abbrev pub fun_of : Declared → WrittenEntry → ℕ
fun_of i e = unwrap_or (declared_fun i e.name.bytes) 0
