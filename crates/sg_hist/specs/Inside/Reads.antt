-- The steps of reading a trace, one by one, as the proofs name them.
use Rattle.std.specs.Prelude.{ℕ, ◌==◌, Bool, false, ◌&&◌, if◌then◌else◌, List, [], ◌++◌, length, filter}
use Rattle.std.specs.declared.option.Option.{Option}
use Rattle.std.specs.Option.{option_map_or}
use Rattle.sg_facts.specs.sg_base.declared.reply.Reply.{Reply}
use Rattle.sg_facts.specs.sg_base.declared.reply.Reply.TheVariants.{Ok, Refused}
use Rattle.sg_facts.specs.declared.entry.Entry.{Entry}
use Rattle.sg_facts.specs.declared.outcome.Outcome.{Outcome}
use Rattle.sg_facts.specs.declared.outcome.Patch.{Patch}
use Rattle.sg_facts.specs.declared.tables.WalkLine.{WalkLine}
use Rattle.sg_facts.specs.declared.trace.Item.{Item}
use Rattle.sg_facts.specs.declared.trace.Tag.{Tag}
use Rattle.sg_facts.specs.declared.trace.Tag.TheVariants.{Walk, Load, Client}
use Rattle.sg_facts.specs.Facts.{Facts, fun_at}
use Rattle.sg_facts.specs.Object.{Object, set_file}
use Rattle.sg_facts.specs.Track.{row_at}
use Rattle.sg_hist.specs.Reading.{Position, given_by, id_given, is_ok, object_before, pair_of, service_call, stands_before, walk_in}

-- all items before a place: of the boots before, and the earlier ones of its boot
abbrev pub past : Position → List Item
past p = p.older ++ p.front

-- the entries whose items stand before a place, in the order of the history
abbrev pub entries_before : List Entry → Position → List Entry
entries_before history p = filter (stands_before p) history

-- a loaded file is set whole
abbrev pub with_file : Object → Option Patch → Object
with_file o patch = option_map_or (λ p. record o { files = set_file o.files p.key p.bytes }) patch o

-- what the service holds after an item, from what it held before the item
abbrev pub after_item : Facts → Object → Item → Object
after_item facts o item = given_by facts o item.tag (service_call item) item.outcome

-- the descriptor of a reply, 0 for none
abbrev pub desc_of : Reply → ℕ
desc_of reply = elim reply [ Ok good ↦ good.desc | Refused code ↦ 0 ]

-- the pair that an item gives: the first call of a walk, and a creation
abbrev pub names_in : Facts → List Entry → ℕ → Tag → Outcome → List (ℕ × ℕ)
names_in facts history fun tag outcome = elim tag [
  | Walk id k client ↦ if k == 1 then pair_of id outcome else []
  | Load key client ↦ []
  | Client client seq ↦ if (fun_at facts.funs fun).creation then pair_of (id_given history client seq) outcome else []
]

-- whether an item made an id for an entry
abbrev pub made_by : Facts → List Entry → ℕ → ℕ → Tag → Bool
made_by facts history id fun tag = elim tag [
  | Client client seq ↦ (fun_at facts.funs fun).creation && (id_given history client seq == id)
  | _ ↦ false
]

-- whether there is a walk, and the walk has so many calls
abbrev pub has_length : ℕ → Option (List ℕ) → Bool
has_length n walk = option_map_or (λ w. length w == n) walk false

-- whether an item is the last call of the walk of an id
abbrev pub ends_walk : Facts → List WalkLine → List Entry → ℕ → Position → Tag → Bool
ends_walk facts walks history id p tag = elim tag [
  | Walk i k client ↦ (i == id) && has_length k (walk_in walks (row_at (object_before facts history p).rows id))
  | _ ↦ false
]

-- whether the item at a place is an Ok of the last call of the walk of an id
abbrev pub is_rebuilt_at : Facts → List WalkLine → List Entry → ℕ → Position → Bool
is_rebuilt_at facts walks history id p = is_ok p.item.outcome && ends_walk facts walks history id p p.item.tag
