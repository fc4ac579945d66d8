-- The canonical text of a tree.
use Rattle.std.specs.Prelude.{ℕ, ◌==◌, if◌then◌else◌, List, [], ◌∷◌, ◌++◌, None, Some, codes, replicate}
use Rattle.std.specs.List.{concat, flat_map, join_by}
use Rattle.sg_parse.specs.declared.tree.Facts.{Facts}
use Rattle.sg_parse.specs.declared.tree.Statement.{Statement}
use Rattle.sg_parse.specs.declared.tree.Statement.TheVariants.{One, Two, Proto, External, Most, Unique, Answer}
use Rattle.sg_parse.specs.declared.tree.Ret.{Ret}
use Rattle.sg_parse.specs.declared.tree.Ret.TheVariants.{Plain, Set, Add, Sub}
use Rattle.sg_parse.specs.declared.tree.TypeName.{TypeName}
use Rattle.sg_parse.specs.declared.tree.Param.{Param}
use Rattle.sg_parse.specs.declared.tree.Tree.{Tree}
use Rattle.sg_parse.specs.sg_lex.Lexeme.{Spelling as Named}
use Rattle.sg_parse.specs.Grammar.Sentence.{recovery_word}
use Rattle.sg_facts.specs.Words.{line_end}
use Rattle.sg_print.specs.RulesText.{rule_line}

-- a type before a name or a form: a space stands after its names, and its stars directly before what follows
abbrev pub type_text : TypeName → List ℕ
type_text ty = join_by (λ n. n.bytes) (codes " ") ty.names ++ 0x20 ∷ replicate ty.stars 0x2A

-- a parameter: its type, and its name with or without a form
abbrev pub param_text : Param → List ℕ
param_text p =
    type_text p.ty ++ (elim p.form [ None ↦ p.name.bytes | Some form ↦ concat (form.bytes ∷ codes "(" ∷ p.name.bytes ∷ codes ")" ∷ []) ])

-- what becomes of a returned word, with its type and its field, and a space after it: none stands after the names of a type without
-- stars
abbrev pub returned_text : List ℕ → TypeName → Named → List ℕ
returned_text what ty field =
    let type_before_comma = join_by (λ n. n.bytes) (codes " ") ty.names ++ (if ty.stars == 0 then [] else 0x20 ∷ replicate ty.stars 0x2A) in
    concat (what ∷ codes "(" ∷ type_before_comma ∷ codes ", " ∷ field.bytes ∷ codes ") " ∷ [])

-- what stands before a prototype's name: a type, or what becomes of the returned word
abbrev pub ret_text : Ret → List ℕ
ret_text (Plain ty) = type_text ty
ret_text (Set ty field) = returned_text (codes "desc_data_retval") ty field
ret_text (Add ty field) = returned_text (codes "desc_data_retval_add") ty field
ret_text (Sub ty field) = returned_text (codes "desc_data_retval_sub") ty field

-- the line of a statement; of one that has rules, its first line, a line of each rule, and a brace on the last
abbrev pub statement_text : Statement → List ℕ
statement_text (One word fun) = concat (word.bytes ∷ codes "(" ∷ fun.bytes ∷ codes ");" ∷ line_end ∷ [])
statement_text (Two word first second) =
    concat (word.bytes ∷ codes "(" ∷ first.bytes ∷ codes ", " ∷ second.bytes ∷ codes ");" ∷ line_end ∷ [])
statement_text (Proto ret n params) =
    concat (ret_text ret ∷ n.bytes ∷ codes "(" ∷ join_by param_text (codes ", ") params ∷ codes ");" ∷ line_end ∷ [])
statement_text (External fun) = concat (codes "sm_external(" ∷ fun.bytes ∷ codes ");" ∷ line_end ∷ [])
statement_text (Most field most) = concat (codes "desc_data_most(" ∷ field.bytes ∷ codes ", " ∷ most.bytes ∷ codes ");" ∷ line_end ∷ [])
statement_text (Unique fields) = concat (codes "desc_data_unique(" ∷ join_by (λ n. n.bytes) (codes ", ") fields ∷ codes ");" ∷ line_end ∷ [])
statement_text (Answer fun rules) =
    concat (codes "sm_answer(" ∷ fun.bytes ∷ codes ") {" ∷ line_end ∷ flat_map rule_line rules ∷ codes "}" ∷ line_end ∷ [])

-- the facts that texts of all versions have, up to the value of the last: each stands after four spaces
unfoldable pub shared_text : Facts → List ℕ
shared_text f = concat (
    codes "    service = " ∷ f.service.bytes ∷ codes "," ∷ line_end
    ∷ codes "    desc_has_parent = " ∷ f.parent.bytes ∷ codes "," ∷ line_end
    ∷ codes "    desc_close = " ∷ f.close.bytes ∷ codes "," ∷ line_end
    ∷ codes "    desc_is_global = " ∷ f.global.bytes ∷ codes "," ∷ line_end
    ∷ codes "    desc_block = " ∷ f.block.bytes ∷ codes "," ∷ line_end
    ∷ codes "    desc_has_data = " ∷ f.has_data.bytes ∷ codes "," ∷ line_end
    ∷ codes "    resc_has_data = " ∷ f.resc_data.bytes ∷ [])

-- the facts, of which a text of a version after the first has the version first, and says last when descriptors are rebuilt; and then each
-- statement on a line of its own, in order
abbrev pub printed : Tree → List ℕ
printed tree =
    concat (
    codes "service_global_info = {" ∷ line_end
    ∷ (if tree.facts.version == 2 then codes "    version = 2," ++ line_end
    else (if tree.facts.version == 3 then codes "    version = 3," ++ line_end
    else []))
    ∷ shared_text tree.facts
    ∷ (if tree.facts.version == 1 then [] else codes "," ++ (line_end ++ (codes "    desc_recover = " ++ recovery_word tree.facts.eager)))
    ∷ line_end ∷ codes "};" ∷ line_end ∷ [])
    ++ flat_map statement_text tree.statements
