-- The pieces of rules, one after the other, with what follows them.
use Rattle.std.proofs.Common.{◌≡◌, if◌then◌else◌, List, [], ◌∷◌, ◌++◌, refl, ap, ◌∙◌, append_assoc}
use Rattle.std.specs.Prelude.{None, Some}
use Rattle.std.specs.declared.option.Option.{Option}
use Rattle.std.specs.List.{flat_map}
use Rattle.sg_lex.specs.Sentences.{separated}
use Rattle.sg_rules.specs.declared.words.Keyword.TheVariants.{Refuse as refuse_word, Wait as wait_word, Give as give_word, If, Row, Where, Else, First, SomeRow, NoRow}
use Rattle.sg_rules.specs.declared.words.Fixed.TheVariants.{Comma, Semicolon}
use Rattle.sg_rules.specs.declared.tree.Operand.{Operand}
use Rattle.sg_rules.specs.declared.tree.Operator.{Operator}
use Rattle.sg_rules.specs.declared.tree.Term.{Term}
use Rattle.sg_rules.specs.declared.tree.Test.{Test}
use Rattle.sg_rules.specs.declared.tree.Tests.{Tests}
use Rattle.sg_rules.specs.declared.tree.RowTest.{RowTest}
use Rattle.sg_rules.specs.declared.tree.Pick.{Pick}
use Rattle.sg_rules.specs.declared.tree.Rule.{Rule}
use Rattle.sg_rules.specs.declared.tree.Rule.TheVariants.{Refuse, Wait, Give, GiveRow, GiveFirst}
use Rattle.sg_rules.specs.Grammar.Pieces.{RulePiece, fixed, word, word_at, name}
use Rattle.sg_rules.specs.Grammar.Sentence.{operand_pieces, operator_word, term_pieces, relation_pieces, test_pieces, what_pieces, pick_pieces, row_test_pieces, tests_pieces, if_pieces, where_pieces, rule_pieces}

-- ---- with what follows them

-- further things, each after a comma
abbrev pub each_more : {A : Type 0} → (A → List RulePiece → List RulePiece) → List A → List RulePiece → List RulePiece
each_more then_of [] r = r
each_more then_of (a ∷ more) r = fixed Comma ∷ then_of a (each_more then_of more r)

-- things with commas between
abbrev pub each : {A : Type 0} → (A → List RulePiece → List RulePiece) → List A → List RulePiece → List RulePiece
each then_of [] r = r
each then_of (a ∷ more) r = then_of a (each_more then_of more r)

-- an operator and a second operand, where there are any
abbrev pub more_then : Option (Operator × Operand) → List RulePiece → List RulePiece
more_then None r = r
more_then (Some more) r = word (operator_word more.0) ∷ (operand_pieces more.1 ++ r)

abbrev pub term_then : Term → List RulePiece → List RulePiece
term_then t r = operand_pieces t.first ++ more_then t.more r

abbrev pub test_then : Test → List RulePiece → List RulePiece
test_then t r = term_then t.left (relation_pieces t.relation ++ term_then t.right r)

abbrev pub pick_then : Pick → List RulePiece → List RulePiece
pick_then p r = what_pieces p.what ++ (relation_pieces p.relation ++ term_then p.right r)

abbrev pub rows_then : RowTest → List RulePiece → List RulePiece
rows_then rows r = word_at (if rows.some then SomeRow else NoRow) rows.at ∷ word Row ∷ word Where ∷ each pick_then rows.picks r

-- tests, and what is asked of the rows where it is
abbrev pub tests_of : List Test → Option RowTest → List RulePiece → List RulePiece
tests_of tests None r = each test_then tests r
tests_of [] (Some rows) r = rows_then rows r
tests_of (t ∷ more) (Some rows) r = test_then t (each_more test_then more (fixed Comma ∷ rows_then rows r))

abbrev pub tests_then : Tests → List RulePiece → List RulePiece
tests_then when r = tests_of when.tests when.rows r

-- after `if`, tests, where there are any
abbrev pub if_of : List Test → Option RowTest → List RulePiece → List RulePiece
if_of [] None r = r
if_of (t ∷ more) None r = word If ∷ tests_of (t ∷ more) None r
if_of tests (Some rows) r = word If ∷ tests_of tests (Some rows) r

-- after `where`, what holds of a row, where anything has to
abbrev pub where_then : List Pick → List RulePiece → List RulePiece
where_then [] r = r
where_then (p ∷ more) r = word Where ∷ each pick_then (p ∷ more) r

abbrev pub rule_then : Rule → List RulePiece → List RulePiece
rule_then (Refuse at code when) r = word_at refuse_word at ∷ name code ∷ word If ∷ tests_then when (fixed Semicolon ∷ r)
rule_then (Wait at when) r = word_at wait_word at ∷ word If ∷ tests_then when (fixed Semicolon ∷ r)
rule_then (Give at t when) r = word_at give_word at ∷ term_then t (if_of when.tests when.rows (fixed Semicolon ∷ r))
rule_then (GiveRow at picks code) r =
    word_at give_word at ∷ word Row ∷ word Where ∷ each pick_then picks (word Else ∷ name code ∷ fixed Semicolon ∷ r)
rule_then (GiveFirst at terms picks code) r =
    word_at give_word at ∷ word First ∷ each term_then terms (where_then picks (word Else ∷ name code ∷ fixed Semicolon ∷ r))

abbrev pub rules_then : List Rule → List RulePiece → List RulePiece
rules_then [] r = r
rules_then (x ∷ more) r = rule_then x (rules_then more r)

-- ---- these are the pieces

more_is : (more : Option (Operator × Operand)) (r : List RulePiece)
    → (elim more [ None ↦ [] | Some m ↦ word (operator_word m.0) ∷ operand_pieces m.1 ]) ++ r ≡ more_then more r
more_is None r = refl
more_is (Some m) r = refl

term_is : (t : Term) (r : List RulePiece) → term_pieces t ++ r ≡ term_then t r
term_is t r =
    append_assoc (operand_pieces t.first) (elim t.more [ None ↦ [] | Some m ↦ word (operator_word m.0) ∷ operand_pieces m.1 ]) r
    ∙ ap (λ v. operand_pieces t.first ++ v) (more_is t.more r)

-- a relation and a number after what stands to the number so
related_is : (first relation : List RulePiece) (right : Term) (r : List RulePiece)
    → (first ++ (relation ++ term_pieces right)) ++ r ≡ first ++ (relation ++ term_then right r)
related_is first relation right r =
    append_assoc first (relation ++ term_pieces right) r
    ∙ ap (λ v. first ++ v) (append_assoc relation (term_pieces right) r ∙ ap (λ v. relation ++ v) (term_is right r))

test_is : (t : Test) (r : List RulePiece) → test_pieces t ++ r ≡ test_then t r
test_is t r = related_is (term_pieces t.left) (relation_pieces t.relation) t.right r ∙ term_is t.left (relation_pieces t.relation ++ term_then t.right r)

pick_is : (p : Pick) (r : List RulePiece) → pick_pieces p ++ r ≡ pick_then p r
pick_is p r = related_is (what_pieces p.what) (relation_pieces p.relation) p.right r

-- things with commas between
each_more_is : {A : Type 0} (pieces_of : A → List RulePiece) (then_of : A → List RulePiece → List RulePiece)
    → ((a : A) (r : List RulePiece) → pieces_of a ++ r ≡ then_of a r) → (xs : List A) (r : List RulePiece)
    → flat_map (λ b. fixed Comma ∷ pieces_of b) xs ++ r ≡ each_more then_of xs r
each_more_is pieces_of then_of is [] r = refl
each_more_is pieces_of then_of is (a ∷ more) r =
    ap (λ v. fixed Comma ∷ v) (append_assoc (pieces_of a) (flat_map (λ b. fixed Comma ∷ pieces_of b) more) r
    ∙ ap (λ v. pieces_of a ++ v) (each_more_is pieces_of then_of is more r)
    ∙ is a (each_more then_of more r))

each_is : {A : Type 0} (pieces_of : A → List RulePiece) (then_of : A → List RulePiece → List RulePiece)
    → ((a : A) (r : List RulePiece) → pieces_of a ++ r ≡ then_of a r) → (xs : List A) (r : List RulePiece)
    → separated (fixed Comma) pieces_of xs ++ r ≡ each then_of xs r
each_is pieces_of then_of is [] r = refl
each_is pieces_of then_of is (a ∷ more) r =
    append_assoc (pieces_of a) (flat_map (λ b. fixed Comma ∷ pieces_of b) more) r
    ∙ ap (λ v. pieces_of a ++ v) (each_more_is pieces_of then_of is more r)
    ∙ is a (each_more then_of more r)

rows_is : (rows : RowTest) (r : List RulePiece) → row_test_pieces rows ++ r ≡ rows_then rows r
rows_is rows r = ap (λ v. word_at (if rows.some then SomeRow else NoRow) rows.at ∷ word Row ∷ word Where ∷ v) (each_is pick_pieces pick_then pick_is rows.picks r)

-- tests, each with a comma after it, are the tests after the first each with one before it
abbrev before : List Test → List RulePiece → List RulePiece
before [] x = x
before (t ∷ more) x = test_then t (fixed Comma ∷ before more x)

before_more : (tests : List Test) (x : List RulePiece) → fixed Comma ∷ before tests x ≡ each_more test_then tests (fixed Comma ∷ x)
before_more [] x = refl
before_more (t ∷ more) x = ap (λ v. fixed Comma ∷ test_then t v) (before_more more x)

before_is : (tests : List Test) (x : List RulePiece) → flat_map (λ test. test_pieces test ++ fixed Comma ∷ []) tests ++ x ≡ before tests x
before_is [] x = refl
before_is (t ∷ more) x =
    append_assoc (test_pieces t ++ fixed Comma ∷ []) (flat_map (λ test. test_pieces test ++ fixed Comma ∷ []) more) x
    ∙ append_assoc (test_pieces t) (fixed Comma ∷ []) (flat_map (λ test. test_pieces test ++ fixed Comma ∷ []) more ++ x)
    ∙ ap (λ v. test_pieces t ++ fixed Comma ∷ v) (before_is more x)
    ∙ test_is t (fixed Comma ∷ before more x)

before_rows : (tests : List Test) (rows : RowTest) (r : List RulePiece) → before tests (rows_then rows r) ≡ tests_of tests (Some rows) r
before_rows [] rows r = refl
before_rows (t ∷ more) rows r = ap (test_then t) (before_more more (rows_then rows r))

pub tests_is : (tests : List Test) (rows : Option RowTest) (r : List RulePiece) → tests_pieces (record { tests = tests; rows = rows }) ++ r ≡ tests_of tests rows r
tests_is tests None r = each_is test_pieces test_then test_is tests r
tests_is tests (Some rows) r =
    append_assoc (flat_map (λ test. test_pieces test ++ fixed Comma ∷ []) tests) (row_test_pieces rows) r
    ∙ ap (λ v. flat_map (λ test. test_pieces test ++ fixed Comma ∷ []) tests ++ v) (rows_is rows r)
    ∙ before_is tests (rows_then rows r)
    ∙ before_rows tests rows r

if_is : (tests : List Test) (rows : Option RowTest) (r : List RulePiece) → if_pieces (record { tests = tests; rows = rows }) ++ r ≡ if_of tests rows r
if_is [] None r = refl
if_is (t ∷ more) None r = ap (λ v. word If ∷ v) (tests_is (t ∷ more) None r)
if_is tests (Some rows) r = ap (λ v. word If ∷ v) (tests_is tests (Some rows) r)

where_is : (picks : List Pick) (r : List RulePiece) → where_pieces picks ++ r ≡ where_then picks r
where_is [] r = refl
where_is (p ∷ more) r = ap (λ v. word Where ∷ v) (each_is pick_pieces pick_then pick_is (p ∷ more) r)

rule_is : (x : Rule) (r : List RulePiece) → rule_pieces x ++ r ≡ rule_then x r
rule_is (Refuse at code when) r =
    ap (λ v. word_at refuse_word at ∷ name code ∷ word If ∷ v)
    (append_assoc (tests_pieces when) (fixed Semicolon ∷ []) r ∙ tests_is when.tests when.rows (fixed Semicolon ∷ r))
rule_is (Wait at when) r =
    ap (λ v. word_at wait_word at ∷ word If ∷ v) (append_assoc (tests_pieces when) (fixed Semicolon ∷ []) r ∙ tests_is when.tests when.rows (fixed Semicolon ∷ r))
rule_is (Give at t when) r =
    ap (λ v. word_at give_word at ∷ v)
    (append_assoc (term_pieces t) (if_pieces when ++ fixed Semicolon ∷ []) r
    ∙ ap (λ v. term_pieces t ++ v) (append_assoc (if_pieces when) (fixed Semicolon ∷ []) r ∙ if_is when.tests when.rows (fixed Semicolon ∷ r))
    ∙ term_is t (if_of when.tests when.rows (fixed Semicolon ∷ r)))
rule_is (GiveRow at picks code) r =
    ap (λ v. word_at give_word at ∷ word Row ∷ word Where ∷ v)
    (append_assoc (separated (fixed Comma) pick_pieces picks) (word Else ∷ name code ∷ fixed Semicolon ∷ []) r
    ∙ each_is pick_pieces pick_then pick_is picks (word Else ∷ name code ∷ fixed Semicolon ∷ r))
rule_is (GiveFirst at terms picks code) r =
    ap (λ v. word_at give_word at ∷ word First ∷ v)
    (append_assoc (separated (fixed Comma) term_pieces terms) (where_pieces picks ++ word Else ∷ name code ∷ fixed Semicolon ∷ []) r
    ∙ ap (λ v. separated (fixed Comma) term_pieces terms ++ v)
    (append_assoc (where_pieces picks) (word Else ∷ name code ∷ fixed Semicolon ∷ []) r ∙ where_is picks (word Else ∷ name code ∷ fixed Semicolon ∷ r))
    ∙ each_is term_pieces term_then term_is terms (where_then picks (word Else ∷ name code ∷ fixed Semicolon ∷ r)))

pub rules_are : (rules : List Rule) → flat_map rule_pieces rules ≡ rules_then rules []
rules_are [] = refl
rules_are (x ∷ more) = rule_is x (flat_map rule_pieces more) ∙ ap (rule_then x) (rules_are more)

-- one rule more
pub rules_snoc : (rules : List Rule) (x : Rule) (r : List RulePiece) → rules_then (rules ++ x ∷ []) r ≡ rules_then rules (rule_then x r)
rules_snoc [] x r = refl
rules_snoc (y ∷ more) x r = ap (rule_then y) (rules_snoc more x r)
