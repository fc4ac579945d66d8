-- The fields that a text names.
use Rattle.std.specs.Prelude.{◌==◌, Bool, false, ◌||◌, not, if◌then◌else◌, List, [], ◌∷◌, ◌++◌, None, Some, codes, filter, map, unwrap_or}
use Rattle.std.specs.List.{filter_map, flat_map}
use Rattle.std.specs.Str.{bytes_eq}
use Rattle.std.specs.declared.option.Option.{Option}
use Rattle.sg_check_statements.specs.sg_facts.Facts.{Field}
use Rattle.sg_check_statements.specs.Params.{has_word}
use Rattle.sg_check_statements.specs.sg_parse.declared.tree.Param.{Param}
use Rattle.sg_check_statements.specs.sg_parse.declared.tree.Ret.{Ret}
use Rattle.sg_check_statements.specs.sg_parse.declared.tree.Ret.TheVariants.{Plain, Set, Add, Sub}
use Rattle.sg_check_statements.specs.sg_parse.declared.tree.Statement.{Statement}
use Rattle.sg_check_statements.specs.sg_parse.declared.tree.Statement.TheVariants.{Two}
use Rattle.sg_check_statements.specs.sg_parse.sg_lex.Lexeme.{Spelling}
use Rattle.sg_shape.specs.Prototypes.{protos_of}

-- a use of a field: its name there, and whether it is a text there, where the use tells that
pub record Use : Type 0 where
  pub name : Spelling
  pub text : Option Bool

-- a parameter that is set into a field, or added to one: that is a text where the parameter's type has a star
abbrev pub param_use : Param → Option Use
param_use p =
    if has_word p.form (codes "desc_data") || has_word p.form (codes "desc_data_add")
    then Some (record { name = p.name; text = Some (not (p.ty.stars == 0)) }) else None

-- a returned word that is set into a field, added to one or subtracted from one: that is a number
abbrev pub ret_use : Ret → Option Use
ret_use (Plain ty) = None
ret_use (Set ty field) = Some (record { name = field; text = Some false })
ret_use (Add ty field) = Some (record { name = field; text = Some false })
ret_use (Sub ty field) = Some (record { name = field; text = Some false })

-- a statement that clears a field, which may be a number or a text, or that subtracts one from a field, which is a number
abbrev pub word_use : Statement → Option Use
word_use s = elim s [
  | Two word first second ↦
      if bytes_eq word.bytes (codes "desc_data_clear") then Some (record { name = second; text = None })
      else (if bytes_eq word.bytes (codes "desc_data_sub") then Some (record { name = second; text = Some false }) else None)
  | _ ↦ None
]

-- the uses of fields in a text: those in the parameters of prototypes, then those in what prototypes return, then those in other statements
abbrev pub uses_of : List Statement → List Use
uses_of statements =
    flat_map (λ p. filter_map param_use p.params) (protos_of statements)
    ++ filter_map (λ p. ret_use p.ret) (protos_of statements)
    ++ filter_map word_use statements

-- whether the second of two uses is of another field than the first
abbrev pub is_of_another : Use → Use → Bool
is_of_another one other = not (bytes_eq other.name.bytes one.name.bytes)

-- the first use of each field
abbrev pub first_uses : List Use → List Use
first_uses [] = []
first_uses (u ∷ uses) = u ∷ filter (is_of_another u) (first_uses uses)

-- a field as a use has it: a number where the use doesn't tell
abbrev pub field_at : Use → Field
field_at u = record { name = u.name.bytes; text = unwrap_or u.text false }

-- the fields of a text, as the first use of each has it
abbrev pub fields_of_text : List Statement → List Field
fields_of_text statements = map field_at (first_uses (uses_of statements))
