-- The places of names are not printed.
use Rattle.std.proofs.Common.{ℕ, ◌≡◌, List, [], ◌∷◌, ◌++◌, Option, None, Some, map, codes, refl, sym, ap, ◌∙◌}
use Rattle.sg_facts.specs.Words.{line_end}
use Rattle.std.specs.Prelude.{◌==◌, if◌then◌else◌}
use Rattle.std.specs.List.{flat_map, concat, join_by}
use Rattle.std.specs.Option.{option_map}
use Rattle.sg_parse.specs.declared.tree.Statement.{Statement}
use Rattle.sg_parse.specs.declared.tree.Statement.TheVariants.{One, Two, Proto, External, Most, Unique, Answer}
use Rattle.sg_parse.specs.declared.tree.Ret.{Ret}
use Rattle.sg_parse.specs.declared.tree.Ret.TheVariants.{Plain, Set, Add, Sub}
use Rattle.sg_parse.specs.declared.tree.TypeName.{TypeName}
use Rattle.sg_parse.specs.declared.tree.Param.{Param}
use Rattle.sg_parse.specs.declared.tree.Tree.{Tree}
use Rattle.sg_parse.specs.sg_lex.Lexeme.{Spelling as Named}
use Rattle.sg_parse.specs.sg_rules.declared.tree.Operand.{Operand}
use Rattle.sg_parse.specs.sg_rules.declared.tree.Operand.TheVariants.{Number, Caller, State, Argument, GreatestOf, Named as named_operand}
use Rattle.sg_parse.specs.sg_rules.declared.tree.Operator.{Operator}
use Rattle.sg_parse.specs.sg_rules.declared.tree.Term.{Term}
use Rattle.sg_parse.specs.sg_rules.declared.tree.Test.{Test}
use Rattle.sg_parse.specs.sg_rules.declared.tree.RowTest.{RowTest}
use Rattle.sg_parse.specs.sg_rules.declared.tree.Pick.{Pick}
use Rattle.sg_parse.specs.sg_rules.declared.tree.What.{What}
use Rattle.sg_parse.specs.sg_rules.declared.tree.What.TheVariants.{State as row_state, Field}
use Rattle.sg_parse.specs.sg_rules.declared.tree.Rule.{Rule}
use Rattle.sg_parse.specs.sg_rules.declared.tree.Rule.TheVariants.{Refuse, Wait, Give, GiveRow, GiveFirst}
use Rattle.sg_parse.specs.sg_rules.Grammar.Sentence.{operator_word}
use Rattle.sg_parse.specs.sg_rules.Grammar.Words.{word_of}
use Rattle.sg_parse.specs.sg_rules.Grammar.Plain.{plain_name, plain_operand, plain_term, plain_test, plain_what, plain_pick, plain_rows, plain_rule}
use Rattle.sg_parse.specs.Grammar.Plain.{plain_type, plain_param, plain_ret, plain_statement, plain}
use Rattle.sg_print.specs.Printed.{type_text, ret_text, statement_text, shared_text, printed, param_text, returned_text}
use Rattle.sg_print.specs.RulesText.{operand_text, term_text, relation_text, test_text, what_text, pick_text, rows_text, tests_text, if_text, where_text, rule_text, rule_line}
use Rattle.sg_print.proofs.RuleBack.{plain_more}
use Rattle.sg_print.specs.Inside.Pieces.{names_text, stars_text, type_before_comma, params_text, facts_text, form_text}

-- a list of parts has one text where each part has
same_flat : {X : Type 0} (text : X → List ℕ) (change : X → X) → ((x : X) → text (change x) ≡ text x) → (xs : List X)
    → flat_map text (map change xs) ≡ flat_map text xs
same_flat text change h [] = refl
same_flat text change h (x ∷ xs) = rw (h x, same_flat text change h xs) refl

-- and so has one with something between each two
same_join : {X : Type 0} (text : X → List ℕ) (between : List ℕ) (change : X → X) → ((x : X) → text (change x) ≡ text x) → (xs : List X)
    → join_by text between (map change xs) ≡ join_by text between xs
same_join text between change h [] = refl
same_join text between change h (x ∷ xs) =
    ap (λ v. v ++ flat_map (λ y. between ++ text y) (map change xs)) (h x)
    ∙ ap (λ v. text x ++ v) (same_flat (λ y. between ++ text y) change (λ y. ap (λ v. between ++ v) (h y)) xs)

same_names : (ns : List Named) → names_text (map plain_name ns) ≡ names_text ns
same_names [] = refl
same_names (n ∷ ns) = ap (λ rest. n.bytes ++ rest) (same_flat (λ m. codes " " ++ m.bytes) plain_name (λ m. refl) ns)

same_type : (ty : TypeName) → type_text (plain_type ty) ≡ type_text ty
same_type ty = ap (λ xs. xs ++ stars_text ty.stars) (same_names ty.names)

same_before_comma : (ty : TypeName) → type_before_comma (plain_type ty) ≡ type_before_comma ty
same_before_comma ty = ap (λ xs. xs ++ (if ty.stars == 0 then [] else stars_text ty.stars)) (same_names ty.names)

same_form : (form : Option Named) (n : Named) → form_text (option_map plain_name form) (plain_name n) ≡ form_text form n
same_form None n = refl
same_form (Some form) n = refl

same_param : (p : Param) → param_text (plain_param p) ≡ param_text p
same_param p =
    ap (λ xs. xs ++ form_text (option_map plain_name p.form) (plain_name p.name)) (same_type p.ty)
    ∙ ap (λ xs. type_text p.ty ++ xs) (same_form p.form p.name)

same_params : (ps : List Param) → params_text (map plain_param ps) ≡ params_text ps
same_params [] = refl
same_params (p ∷ ps) =
    ap (λ xs. xs ++ flat_map (λ q. codes ", " ++ param_text q) (map plain_param ps)) (same_param p)
    ∙ ap (λ xs. param_text p ++ xs) (same_flat (λ q. codes ", " ++ param_text q) plain_param (λ q. ap (λ xs. codes ", " ++ xs) (same_param q)) ps)

same_returned : (what : List ℕ) (ty : TypeName) (field : Named)
    → returned_text what (plain_type ty) (plain_name field) ≡ returned_text what ty field
same_returned what ty field =
    ap (λ xs. concat (what ∷ codes "(" ∷ xs ∷ codes ", " ∷ field.bytes ∷ codes ") " ∷ [])) (same_before_comma ty)

same_ret : (ret : Ret) → ret_text (plain_ret ret) ≡ ret_text ret
same_ret (Plain ty) = same_type ty
same_ret (Set ty field) = same_returned (codes "desc_data_retval") ty field
same_ret (Add ty field) = same_returned (codes "desc_data_retval_add") ty field
same_ret (Sub ty field) = same_returned (codes "desc_data_retval_sub") ty field

-- ---- rules

same_operand : (o : Operand) → operand_text (plain_operand o) ≡ operand_text o
same_operand (Number n) = refl
same_operand (Caller at) = refl
same_operand (State at) = refl
same_operand (Argument n) = refl
same_operand (GreatestOf field) = refl
same_operand (named_operand n) = refl

-- an operator and a second operand, where there are any
abbrev more_text : Option (Operator × Operand) → List ℕ
more_text more = elim more [ None ↦ [] | Some m ↦ concat (codes " " ∷ word_of (operator_word m.0) ∷ codes " " ∷ operand_text m.1 ∷ []) ]

same_more : (more : Option (Operator × Operand)) → more_text (plain_more more) ≡ more_text more
same_more None = refl
same_more (Some m) = ap (λ v. concat (codes " " ∷ word_of (operator_word m.0) ∷ codes " " ∷ v ∷ [])) (same_operand m.1)

same_term : (t : Term) → term_text (plain_term t) ≡ term_text t
same_term t =
    ap (λ v. v ++ more_text (plain_more t.more)) (same_operand t.first)
    ∙ ap (λ v. operand_text t.first ++ v) (same_more t.more)

same_test : (t : Test) → test_text (plain_test t) ≡ test_text t
same_test t =
    ap (λ v. concat (v ∷ codes " " ∷ relation_text t.relation ∷ codes " " ∷ term_text (plain_term t.right) ∷ [])) (same_term t.left)
    ∙ ap (λ v. concat (term_text t.left ∷ codes " " ∷ relation_text t.relation ∷ codes " " ∷ v ∷ [])) (same_term t.right)

same_what : (w : What) → what_text (plain_what w) ≡ what_text w
same_what (row_state at) = refl
same_what (Field field) = refl

same_pick : (p : Pick) → pick_text (plain_pick p) ≡ pick_text p
same_pick p =
    ap (λ v. concat (v ∷ codes " " ∷ relation_text p.relation ∷ codes " " ∷ term_text (plain_term p.right) ∷ [])) (same_what p.what)
    ∙ ap (λ v. concat (what_text p.what ∷ codes " " ∷ relation_text p.relation ∷ codes " " ∷ v ∷ [])) (same_term p.right)

same_picks : (ps : List Pick) → join_by pick_text (codes ", ") (map plain_pick ps) ≡ join_by pick_text (codes ", ") ps
same_picks ps = same_join pick_text (codes ", ") plain_pick same_pick ps

same_rows : (rows : RowTest) → rows_text (plain_rows rows) ≡ rows_text rows
same_rows rows = ap (λ v. concat ((if rows.some then codes "some" else codes "no") ∷ codes " row where " ∷ v ∷ [])) (same_picks rows.picks)

same_tests : (ts : List Test) (rows : Option RowTest)
    → tests_text (record { tests = map plain_test ts; rows = option_map plain_rows rows }) ≡ tests_text (record { tests = ts; rows = rows })
same_tests ts None = same_join test_text (codes ", ") plain_test same_test ts
same_tests ts (Some rows) =
    ap (λ v. v ++ rows_text (plain_rows rows)) (same_flat (λ t. test_text t ++ codes ", ") plain_test (λ t. ap (λ v. v ++ codes ", ") (same_test t)) ts)
    ∙ ap (λ v. flat_map (λ t. test_text t ++ codes ", ") ts ++ v) (same_rows rows)

same_if : (ts : List Test) (rows : Option RowTest)
    → if_text (record { tests = map plain_test ts; rows = option_map plain_rows rows }) ≡ if_text (record { tests = ts; rows = rows })
same_if [] None = refl
same_if (t ∷ more) None = ap (λ v. codes " if " ++ v) (same_tests (t ∷ more) None)
same_if ts (Some rows) = ap (λ v. codes " if " ++ v) (same_tests ts (Some rows))

same_where : (ps : List Pick) → where_text (map plain_pick ps) ≡ where_text ps
same_where [] = refl
same_where (p ∷ more) = ap (λ v. codes " where " ++ v) (same_picks (p ∷ more))

same_rule : (x : Rule) → rule_text (plain_rule x) ≡ rule_text x
same_rule (Refuse at code when) = ap (λ v. concat (codes "refuse " ∷ code.bytes ∷ codes " if " ∷ v ∷ [])) (same_tests when.tests when.rows)
same_rule (Wait at when) = ap (λ v. codes "wait if " ++ v) (same_tests when.tests when.rows)
same_rule (Give at t when) =
    ap (λ v. concat (codes "give " ∷ v ∷ if_text (record { tests = map plain_test when.tests; rows = option_map plain_rows when.rows }) ∷ [])) (same_term t)
    ∙ ap (λ v. concat (codes "give " ∷ term_text t ∷ v ∷ [])) (same_if when.tests when.rows)
same_rule (GiveRow at ps code) = ap (λ v. concat (codes "give row where " ∷ v ∷ codes " else " ∷ code.bytes ∷ [])) (same_picks ps)
same_rule (GiveFirst at ts ps code) =
    ap (λ v. concat (codes "give first " ∷ v ∷ where_text (map plain_pick ps) ∷ codes " else " ∷ code.bytes ∷ [])) (same_join term_text (codes ", ") plain_term same_term ts)
    ∙ ap (λ v. concat (codes "give first " ∷ join_by term_text (codes ", ") ts ∷ v ∷ codes " else " ∷ code.bytes ∷ [])) (same_where ps)

same_line : (x : Rule) → rule_line (plain_rule x) ≡ rule_line x
same_line x = ap (λ v. concat (codes "    " ∷ v ∷ codes ";" ∷ line_end ∷ [])) (same_rule x)

-- ---- statements

same_statement : (s : Statement) → statement_text (plain_statement s) ≡ statement_text s
same_statement (One w fun) = refl
same_statement (Two w first second) = refl
same_statement (Proto ret n params) =
    ap (λ xs. concat (xs ∷ n.bytes ∷ codes "(" ∷ params_text (map plain_param params) ∷ codes ");" ∷ (0x0A ∷ []) ∷ [])) (same_ret ret)
    ∙ ap (λ xs. concat (ret_text ret ∷ n.bytes ∷ codes "(" ∷ xs ∷ codes ");" ∷ (0x0A ∷ []) ∷ [])) (same_params params)
same_statement (External fun) = refl
same_statement (Most field most) = refl
same_statement (Unique fields) =
    ap (λ v. concat (codes "desc_data_unique(" ∷ v ∷ codes ");" ∷ line_end ∷ [])) (same_join (λ n. n.bytes) (codes ", ") plain_name (λ n. refl) fields)
same_statement (Answer fun rules) =
    ap (λ v. concat (codes "sm_answer(" ∷ fun.bytes ∷ codes ") {" ∷ line_end ∷ v ∷ codes "}" ∷ line_end ∷ [])) (same_flat rule_line plain_rule same_line rules)

same_tree : (tree : Tree) → printed (plain tree) ≡ printed tree
unfolding shared_text
same_tree tree = ap (λ xs. facts_text tree.facts ++ xs) (same_flat statement_text plain_statement same_statement tree.statements)

pub same_text : (one other : Tree) → plain one ≡ plain other → printed one ≡ printed other
same_text one other e = sym (same_tree one) ∙ (ap printed e ∙ same_tree other)
