-- The tracked rows, and what an answered call makes of them.
use Rattle.std.specs.Prelude.{ℕ, zero, suc, ◌+◌, ◌-◌, ◌==◌, Bool, ◌&&◌, ◌||◌, not, if◌then◌else◌, List, [], ◌∷◌, ◌++◌, map, filter, find, unwrap_or, slice_get, slice_set}
use Rattle.std.specs.Option.{option_map_or}
use Rattle.std.specs.declared.option.Option.{Option}
use Rattle.std.specs.List.{list_any}
use Rattle.sg_base.specs.declared.value.Value.{Value}
use Rattle.sg_base.specs.declared.value.Value.TheVariants.{Word, Text}
use Rattle.sg_base.specs.declared.call.Call.{Call}
use Rattle.sg_base.specs.declared.reply.Good.{Good}
use Rattle.sg_facts.specs.declared.row.Row.{Row}
use Rattle.sg_facts.specs.declared.shape.Effect.{Effect}
use Rattle.sg_facts.specs.declared.shape.Effect.TheVariants.{SetCaller, SetArg, AddArg, SetRet, AddRet, Clear, SubOne, SubRet}
use Rattle.sg_facts.specs.Facts.{Facts, fun_at, takes_parent, state_after}

-- ---- look-ups

-- the row of an id
abbrev pub row_at : List Row → ℕ → Option Row
row_at rows id = find (λ r. r.id == id) rows

-- whether a row with the id is live
abbrev pub is_live : List Row → ℕ → Bool
is_live rows id = list_any (λ r. r.id == id) rows

-- the nearest ancestors of an id, at most so many, nearest first
abbrev pub nearest : List Row → ℕ → ℕ → List ℕ
nearest rows zero id = []
nearest rows (suc most) id =
    let parent = option_map_or (λ r. r.parent) (row_at rows id) 0 in
    if parent == 0 then [] else parent ∷ nearest rows most parent

-- the ancestors of an id, nearest first. A parent has a smaller id than its child, so there are fewer than the id
abbrev pub ancestors : List Row → ℕ → List ℕ
ancestors rows id = nearest rows id id

-- whether one id is an ancestor of another
abbrev pub is_ancestor : List Row → ℕ → ℕ → Bool
is_ancestor rows above below = list_any (λ id. id == above) (ancestors rows below)

-- ---- effects

-- the number in a value
abbrev pub word_of : Value → ℕ
word_of value = elim value [ Word n ↦ n | Text bytes ↦ 0 ]

-- the argument of a number, from 0
abbrev pub arg_at : Call → ℕ → Value
arg_at call k = unwrap_or (slice_get call.args k) (Word 0)

-- the first word of a reply
abbrev pub first_word : Good → ℕ
first_word good = unwrap_or (slice_get good.words 0) 0

-- a field after an effect
abbrev pub effect_of : Call → Good → Effect → Value → Value
effect_of call good SetCaller old = Word call.client
effect_of call good (SetArg k) old = arg_at call k
effect_of call good (AddArg k) old = Word (word_of old + word_of (arg_at call k))
effect_of call good SetRet old = Word (first_word good)
effect_of call good AddRet old = Word (word_of old + first_word good)
effect_of call good Clear old = elim old [ Word n ↦ Word 0 | Text bytes ↦ Text [] ]
effect_of call good SubOne old = Word (word_of old - 1)
effect_of call good SubRet old = Word (word_of old - first_word good)

-- the field of a number, from 0
abbrev pub field_at : List Value → ℕ → Value
field_at fields x = unwrap_or (slice_get fields x) (Word 0)

-- the fields after a function's effects, one after the other
abbrev pub fields_after : Call → Good → List (ℕ × Effect) → List Value → List Value
fields_after call good [] fields = fields
fields_after call good (e ∷ es) fields =
    fields_after call good es (slice_set fields e.0 (effect_of call good e.1 (field_at fields e.0)))

-- ---- rows

-- the row that a creation makes; a field is 0 or the empty text before the effects
abbrev pub new_row : Facts → Call → Good → Row
new_row facts call good = record {
  id = good.desc;
  made = call.fun;
  creator = call.client;
  parent = if takes_parent (fun_at facts.funs call.fun) then call.desc else 0;
  state = state_after facts call.fun call.fun;
  fields = fields_after call good (fun_at facts.funs call.fun).effects (map (λ f. if f.text then Text [] else Word 0) facts.fields);
}

-- whether the end of a descriptor ends another: its own, and under subtree those below it
abbrev pub ends_with : Facts → List Row → ℕ → ℕ → Bool
ends_with facts rows id other = (other == id) || (facts.subtree && is_ancestor rows id other)

-- the rows after an Ok: a query leaves them, a creation adds one, a terminal function removes its own (and under
-- subtree all below it), any other function changes its own
abbrev pub rows_after : Facts → List Row → Call → Good → List Row
rows_after facts rows call good =
    let f = fun_at facts.funs call.fun in
    if f.query then rows
    else if f.creation then rows ++ new_row facts call good ∷ []
    else if f.terminal then filter (λ r. not (ends_with facts rows call.desc r.id)) rows
    else map {A = Row} {B = Row} (λ r. if r.id == call.desc then record r { state = state_after facts call.fun r.state; fields = fields_after call good f.effects r.fields } else r) rows
