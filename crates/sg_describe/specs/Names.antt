-- What names and numbers in rules stand for.
use Rattle.std.specs.Prelude.{ℕ, ◌-◌, Bool, true, false, if◌then◌else◌, nat_le, List, [], ◌∷◌, None, Some, find, position, slice_get, take}
use Rattle.std.specs.Option.{option_and_then, option_map, option_map_or, option_or}
use Rattle.std.specs.Str.{bytes_eq}
use Rattle.std.specs.declared.option.Option.{Option}
use Rattle.sg_shape.specs.sg_facts.Allowed.{count_args}
use Rattle.sg_shape.specs.sg_facts.Facts.{Facts}
use Rattle.sg_shape.specs.sg_facts.declared.shape.Kind.{Kind}
use Rattle.sg_shape.specs.sg_facts.declared.shape.Kind.TheVariants.{Word}
use Rattle.sg_shape.specs.sg_facts.sg_base.Codes.{code_name}
use Rattle.sg_shape.specs.sg_facts.sg_base.declared.reply.Code.{Code}
use Rattle.sg_shape.specs.sg_facts.sg_base.declared.reply.Code.TheVariants.{NoDesc, NoParent, BadState, HasChildren, Full, NotOwner, Held, Occupied, NotFound, Overflow, Gap, TooBig, BadName}
use Rattle.sg_shape.specs.sg_check_statements.Says.{fun_number}
use Rattle.sg_shape.specs.sg_check_statements.sg_parse.sg_lex.Numbers.{number_of_digits}
use Rattle.sg_described.specs.declared.description.Operand.{Operand}
use Rattle.sg_described.specs.declared.description.Operand.TheVariants.{Number, Own}

-- ---- codes

-- all codes of refusals
abbrev pub all_codes : List Code
all_codes =
    NoDesc ∷ NoParent ∷ BadState ∷ HasChildren ∷ Full ∷ NotOwner ∷ Held ∷ Occupied ∷ NotFound ∷ Overflow ∷ Gap ∷ TooBig ∷ BadName ∷ []

-- the code of a name
abbrev pub code_named : List ℕ → Option Code
code_named name = find (λ code. bytes_eq name (code_name code)) all_codes

-- ---- fields and functions

-- the number of the field of a name, from 0
abbrev pub field_number : Facts → List ℕ → Option ℕ
field_number facts name = position (λ f. bytes_eq f.name name) facts.fields

-- what a name in a rule stands for: the field of the name, else the state that the function of the name leaves, as its number
abbrev pub named : Facts → List ℕ → Option Operand
named facts name = option_or (option_map Own (field_number facts name)) (option_map Number (fun_number facts.funs name))

-- ---- arguments

-- the place, from 0, of the parameter after the caller that digits number from 1
abbrev pub param_place : List ℕ → Option ℕ
param_place digits = option_and_then (λ k. if nat_le 1 k then Some (k - 1) else None) (number_of_digits digits)

-- whether a parameter is a number
abbrev pub is_word_kind : Kind → Bool
is_word_kind kind = elim kind [ Word ↦ true | _ ↦ false ]

-- the number, from 0, of the argument at a place; None where there is no such parameter, or it is no number
abbrev pub argument_at : List Kind → ℕ → Option ℕ
argument_at kinds place = if option_map_or is_word_kind (slice_get kinds place) false then Some (count_args (take place kinds)) else None

-- the number of the argument that digits name
abbrev pub argument_named : List Kind → List ℕ → Option ℕ
argument_named kinds digits = option_and_then (argument_at kinds) (param_place digits)
