-- The calls of a script: which of them fit an interface, and what they come to when they are made.
use Rattle.std.specs.Prelude.{ℕ, zero, suc, ◌+◌, ◌&&◌, Bool, true, false, nat_le, nat_lt, List, [], ◌∷◌, slice_get, filter, map, find, not}
use Rattle.std.specs.Option.{option_map_or}
use Rattle.std.specs.List.{zip}
use Rattle.sg_facts.specs.sg_base.declared.value.Value.{Value}
use Rattle.sg_facts.specs.sg_base.declared.value.Value.TheVariants.{Word as word, Text as text}
use Rattle.sg_facts.specs.declared.entry.Entry.{Entry}
use Rattle.sg_facts.specs.declared.shape.Kind.{Kind}
use Rattle.sg_facts.specs.declared.shape.Kind.TheVariants.{Text as IsText}
use Rattle.sg_facts.specs.Facts.{fun_at, is_id}
use Rattle.sg_facts.specs.Interface.{Declared, declares}
use Rattle.sg_facts.specs.Track.{word_of}
use Rattle.sg_clients.specs.sg_hist.Reading.{desc_in}
use Rattle.sg_script.specs.declared.script.Arg.{Arg}
use Rattle.sg_script.specs.declared.script.Arg.TheVariants.{Number, Text, Back}
use Rattle.sg_script.specs.declared.script.ScriptCall.{ScriptCall}

-- ---- which calls fit

-- whether an argument may stand for a parameter, in the call that is its client's call of this number: a text for a text, and
-- a number for anything else, or `$k` of a call from 1 to below the own
abbrev pub arg_fits : ℕ → Kind → Arg → Bool
arg_fits own IsText (Text t) = true
arg_fits own IsText (Number n) = false
arg_fits own IsText (Back k) = false
arg_fits own _ (Text t) = false
arg_fits own _ (Number n) = true
arg_fits own _ (Back k) = nat_le 1 k && nat_lt k own

-- whether arguments may stand for parameters, one for each
abbrev pub args_fit : ℕ → List Kind → List Arg → Bool
args_fit own [] [] = true
args_fit own [] (a ∷ args) = false
args_fit own (k ∷ kinds) [] = false
args_fit own (k ∷ kinds) (a ∷ args) = arg_fits own k a && args_fit own kinds args

-- whether a call fits an interface: its function is declared, and its arguments stand for the function's parameters
abbrev pub call_fits : Declared → ℕ → ScriptCall → Bool
call_fits i own c = declares i c.fun && args_fit own (fun_at i.facts.funs c.fun).kinds c.args

-- whether calls fit, numbered from a number on
abbrev pub calls_fit : Declared → ℕ → List ScriptCall → Bool
calls_fit i own [] = true
calls_fit i own (c ∷ calls) = call_fits i own c && calls_fit i (own + 1) calls

-- ---- what they come to

-- the descriptor that the call of a number, from 1, was given
abbrev pub id_of_call : List Entry → ℕ → ℕ
id_of_call history zero = 0
id_of_call history (suc k) = desc_in (slice_get history k)

-- an argument as a value
abbrev pub value_of : List Entry → Arg → Value
value_of history arg = elim arg [ Number n ↦ word n | Text t ↦ text t | Back k ↦ word (id_of_call history k) ]

-- an argument as a number, 0 for a text: `$k` is the descriptor that the k-th call was given
abbrev pub arg_value : List Entry → Arg → ℕ
arg_value history arg = word_of (value_of history arg)

-- the descriptor or parent among arguments, 0 where no parameter is one
abbrev pub desc_among : List Entry → List Kind → List Arg → ℕ
desc_among history kinds args = option_map_or (λ p. arg_value history p.1) (find (λ p. is_id p.0) (zip kinds args)) 0

-- the other arguments, in their order
abbrev pub values_of : List Entry → List Kind → List Arg → List Value
values_of history kinds args = map (λ p. value_of history p.1) (filter (λ p. not (is_id p.0)) (zip kinds args))
