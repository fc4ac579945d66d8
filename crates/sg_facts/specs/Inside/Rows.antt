-- The steps by which rows and files are tracked, one by one, as the proofs name them.
use Rattle.std.specs.Prelude.{ℕ, ◌+◌, ◌==◌, Bool, if◌then◌else◌, List, [], ◌∷◌, None, Some, map, true, false}
use Rattle.std.specs.Option.{option_map_or}
use Rattle.std.specs.declared.option.Option.{Option}
use Rattle.std.specs.List.{list_any, fold}
use Rattle.sg_base.specs.declared.value.Value.{Value}
use Rattle.sg_base.specs.declared.value.Value.TheVariants.{Word, Text}
use Rattle.sg_base.specs.declared.call.Call.{Call}
use Rattle.sg_base.specs.declared.reply.Good.{Good}
use Rattle.sg_base.specs.declared.reply.Reply.{Reply}
use Rattle.sg_base.specs.declared.reply.Reply.TheVariants.{Ok, Refused}
use Rattle.sg_facts.specs.declared.row.Row.{Row}
use Rattle.sg_facts.specs.declared.shape.Effect.{Effect}
use Rattle.sg_facts.specs.declared.shape.Effect.TheVariants.{AddRet}
use Rattle.sg_facts.specs.declared.entry.Entry.{Entry}
use Rattle.sg_facts.specs.declared.outcome.Patch.{Patch}
use Rattle.sg_facts.specs.declared.shape.Kind.TheVariants.{Desc, Parent}
use Rattle.sg_base.specs.declared.reply.Code.{Code}
use Rattle.sg_facts.specs.declared.trace.BootLog.{BootLog}
use Rattle.sg_facts.specs.declared.shape.Kind.{Kind}
use Rattle.sg_facts.specs.declared.shape.Leaves.{Leaves}
use Rattle.sg_facts.specs.declared.shape.Leaves.TheVariants.{Own, Same, Of}
use Rattle.sg_facts.specs.Facts.{Facts, fun_at, state_after}
use Rattle.sg_facts.specs.Track.{fields_after, rows_after}
use Rattle.sg_facts.specs.Object.{Object, after, file_at, first_text, over, set_file}
use Rattle.sg_facts.specs.Trace.{Boot}
use Rattle.sg_facts.specs.Fields.{is_set, number_of}

-- ---- functions

-- whether a parameter is the descriptor that its function is called on
abbrev pub is_desc : Kind → Bool
is_desc kind = elim kind [ Desc ↦ true | _ ↦ false ]

-- whether a parameter is the parent of the descriptor that its function makes
abbrev pub is_parent : Kind → Bool
is_parent kind = elim kind [ Parent ↦ true | _ ↦ false ]

-- whether an effect adds the returned word
abbrev pub adds_word : Effect → Bool
adds_word effect = elim effect [ AddRet ↦ true | _ ↦ false ]

-- the state after a function that is called in a state
abbrev pub left_by : Leaves → ℕ → ℕ → ℕ
left_by leaves fun state = elim leaves [ Own ↦ fun | Same ↦ state | Of other ↦ other ]

-- ---- rows

-- whether a live row has the id as its parent
abbrev pub has_child : List Row → ℕ → Bool
has_child rows id = list_any (λ r. r.parent == id) rows

-- the parent of a row, 0 where there is no row
abbrev pub parent_in : Option Row → ℕ
parent_in row = option_map_or (λ r. r.parent) row 0

-- the fields that are set, as a number
abbrev pub mask_of : List Value → ℕ
mask_of fields = number_of (map is_set fields)

-- 0, or the empty text
abbrev pub cleared : Value → Value
cleared value = elim value [ Word n ↦ Word 0 | Text bytes ↦ Text [] ]

-- a row after a call on it of a function that neither makes nor ends it
abbrev pub row_after : Facts → Call → Good → Row → Row
row_after facts call good r = record r {
  state = state_after facts call.fun r.state;
  fields = fields_after call good (fun_at facts.funs call.fun).effects r.fields;
}

-- the rows after an answered call; a refusal leaves them
abbrev pub track : Facts → List Row → Call → Reply → List Row
track facts rows call reply = elim reply [ Ok good ↦ rows_after facts rows call good | Refused code ↦ rows ]

-- ---- files

-- a slash and the name of a live row
abbrev pub step_to : Option Row → List ℕ
step_to row = option_map_or (λ r. 47 ∷ first_text r.fields) row []

-- bytes to write are a patch where there are any
abbrev pub patch_at : List ℕ → ℕ → List ℕ → Option Patch
patch_at path from bytes = elim bytes [ [] ↦ None | b ∷ bs ↦ Some (record { key = path; from = from; bytes = b ∷ bs }) ]

-- the files after a patch
abbrev pub patched : List (List ℕ × List ℕ) → Option Patch → List (List ℕ × List ℕ)
patched files patch = option_map_or (λ p. set_file files p.key (over (file_at files p.key) p.from p.bytes)) patch files

-- ---- objects

-- the number of ids given: one more after an Ok of a creation
abbrev pub given_after : Facts → ℕ → Call → Reply → ℕ
given_after facts given call reply = elim reply [ Ok good ↦ if (fun_at facts.funs call.fun).creation then given + 1 else given | Refused code ↦ given ]

-- the object after a history, from one that stood before
abbrev pub object_from : Facts → Object → List Entry → Object
object_from facts o history = fold (λ o e. after facts o e.call e.reply) o history

-- a refusal where there is one, else an answer
abbrev pub refused_or : Option Code → Option Reply → Option Reply
refused_or refused asked = option_map_or (λ code. Some (Refused code)) refused asked

-- a boot of a trace as plain data
abbrev pub boot_of : BootLog → Boot
boot_of log = record { items = log.items.items; stop = log.stop }
