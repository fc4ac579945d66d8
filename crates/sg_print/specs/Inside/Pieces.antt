-- The parts of a printed tree, and of the text of tables, by themselves.
use Rattle.std.specs.Prelude.{ℕ, ◌==◌, Bool, if◌then◌else◌, List, [], ◌∷◌, ◌++◌, codes, replicate, None, Some}
use Rattle.std.specs.Fmt.{decimal}
use Rattle.std.specs.List.{concat, flat_map, join_by}
use Rattle.std.specs.declared.option.Option.{Option}
use Rattle.sg_facts.specs.declared.shape.Effect.{Effect}
use Rattle.sg_facts.specs.declared.shape.Kind.{Kind}
use Rattle.sg_facts.specs.Facts.{Facts, Field, Fun, fun_at}
use Rattle.sg_facts.specs.Interface.{has_pair}
use Rattle.sg_facts.specs.Words.{field_name, line_end}
use Rattle.sg_parse.specs.declared.tree.Facts.{Facts as Head}
use Rattle.sg_parse.specs.declared.tree.Param.{Param}
use Rattle.sg_parse.specs.declared.tree.TypeName.{TypeName}
use Rattle.sg_parse.specs.sg_lex.Lexeme.{Spelling as Named}
use Rattle.sg_parse.specs.Grammar.Sentence.{recovery_word}
use Rattle.sg_print.specs.Printed.{param_text, shared_text}
use Rattle.sg_print.specs.TablesText.{effect_word, flag_pieces, kind_word, numbers, state_word}

-- ---- trees

-- names, with a space between two
abbrev pub names_text : List Named → List ℕ
names_text names = join_by (λ n. n.bytes) (codes " ") names

-- a space, and then stars
abbrev pub stars_text : ℕ → List ℕ
stars_text n = 0x20 ∷ replicate n 0x2A

-- a type before a comma: no space stands after its names where it has no stars
abbrev pub type_before_comma : TypeName → List ℕ
type_before_comma ty = names_text ty.names ++ (if ty.stars == 0 then [] else stars_text ty.stars)

-- parameters, with a comma and a space between two
abbrev pub params_text : List Param → List ℕ
params_text params = join_by param_text (codes ", ") params

-- fields, with a comma and a space between two
abbrev pub fields_text : List Named → List ℕ
fields_text fields = join_by (λ n. n.bytes) (codes ", ") fields

-- the line of the version, which a text of a version after the first has
abbrev pub version_line : ℕ → List ℕ
version_line version =
    if version == 2 then codes "    version = 2," ++ line_end
    else (if version == 3 then codes "    version = 3," ++ line_end
    else [])

-- after the last fact that texts of all versions have, one of a version after the first says when descriptors are rebuilt
abbrev pub recovery_text : (version : ℕ) (eager : Bool) → List ℕ
recovery_text version eager =
    if version == 1 then [] else codes "," ++ (line_end ++ (codes "    desc_recover = " ++ recovery_word eager))

-- the lines of the facts
abbrev pub facts_text : Head → List ℕ
facts_text f = concat (
    codes "service_global_info = {" ∷ line_end ∷ version_line f.version ∷ shared_text f ∷ recovery_text f.version f.eager ∷ line_end
    ∷ codes "};" ∷ line_end ∷ [])

-- ---- tables

-- a name, in the brackets of its form where it has one
abbrev pub form_text : Option Named → Named → List ℕ
form_text form n = elim form [ None ↦ n.bytes | Some f ↦ concat (f.bytes ∷ codes "(" ∷ n.bytes ∷ codes ")" ∷ []) ]

-- what parameters are, each after a space
abbrev pub kinds_text : List Kind → List ℕ
kinds_text kinds = flat_map (λ kind. codes " " ++ kind_word kind) kinds

-- a word after a space, where a function has a flag
abbrev pub flag_piece : Bool → List ℕ → List ℕ
flag_piece has word = if has then codes " " ++ word else []

-- what is done to one field, after a space
abbrev pub effect_piece : List Field → List Kind → ℕ × Effect → List ℕ
effect_piece fields kinds e = concat (codes " " ∷ field_name fields e.0 ∷ effect_word kinds e.1 ∷ [])

-- what a function does to fields, each after a space
abbrev pub effects_text : List Field → Fun → List ℕ
effects_text fields f = flat_map (λ e. concat (codes " " ∷ field_name fields e.0 ∷ effect_word f.kinds e.1 ∷ [])) f.effects

-- what a function of a number is called with, and its flags
abbrev pub called_text : ℕ → Fun → List ℕ
called_text n f = concat (codes "fun " ∷ decimal n ∷ codes " " ∷ f.name ∷ kinds_text f.kinds ∷ flag_pieces f ∷ [])

-- what a function leaves: its state, and what it does to fields
abbrev pub left_text : Facts → Fun → List ℕ
left_text facts f = concat (codes " -> " ∷ state_word facts.funs f ∷ effects_text facts.fields f ∷ line_end ∷ [])

-- the line of a pair of functions after a word
abbrev pub pair_line : List ℕ → List Fun → ℕ → ℕ → List ℕ
pair_line word funs a b = concat (word ∷ codes " " ∷ (fun_at funs a).name ∷ codes " " ∷ (fun_at funs b).name ∷ line_end ∷ [])

-- the lines of the listed pairs with this first function, by the second number
abbrev pub pairs_from : List ℕ → List Fun → List (ℕ × ℕ) → ℕ → List ℕ
pairs_from word funs pairs a = flat_map (λ b. if has_pair pairs a b then pair_line word funs a b else []) numbers
