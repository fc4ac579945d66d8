-- Which tokens are rules, and of which tree.
use Rattle.std.specs.Prelude.{◌≢◌, if◌then◌else◌, List, [], ◌∷◌, ◌++◌, None, Some, All}
use Rattle.std.specs.List.{flat_map}
use Rattle.sg_lex.specs.Lexeme.{Lexeme}
use Rattle.sg_lex.specs.Sentences.{ArePieces, separated}
use Rattle.sg_rules.specs.declared.words.Keyword.{Keyword}
use Rattle.sg_rules.specs.declared.words.Keyword.TheVariants.{Refuse as refuse_word, Wait as wait_word, Give as give_word, If, Is as is_word, Not, Below as below_word, Above as above_word, Plus as plus_word, Minus as minus_word, Least as least_word, Greatest as greatest_word, Caller as caller_word, State as state_word, Row, Where, Else, First, SomeRow, NoRow}
use Rattle.sg_rules.specs.declared.words.Fixed.TheVariants.{Comma, Semicolon, Dollar}
use Rattle.sg_rules.specs.declared.tree.Operand.{Operand}
use Rattle.sg_rules.specs.declared.tree.Operand.TheVariants.{Number, Caller, State, Argument, GreatestOf, Named}
use Rattle.sg_rules.specs.declared.tree.Operator.{Operator}
use Rattle.sg_rules.specs.declared.tree.Operator.TheVariants.{Plus, Minus, Least, Greatest}
use Rattle.sg_rules.specs.declared.tree.Relation.{Relation}
use Rattle.sg_rules.specs.declared.tree.Relation.TheVariants.{Is, IsNot, Below, Above}
use Rattle.sg_rules.specs.declared.tree.Term.{Term}
use Rattle.sg_rules.specs.declared.tree.Test.{Test}
use Rattle.sg_rules.specs.declared.tree.Tests.{Tests}
use Rattle.sg_rules.specs.declared.tree.RowTest.{RowTest}
use Rattle.sg_rules.specs.declared.tree.Pick.{Pick}
use Rattle.sg_rules.specs.declared.tree.What.{What}
use Rattle.sg_rules.specs.declared.tree.What.TheVariants.{State as row_state, Field}
use Rattle.sg_rules.specs.declared.tree.Rule.{Rule}
use Rattle.sg_rules.specs.declared.tree.Rule.TheVariants.{Refuse, Wait, Give, GiveRow, GiveFirst}
use Rattle.sg_rules.specs.Grammar.Pieces.{RulePiece, fixed, word, word_at, name, number, IsRulePiece}

-- ---- the pieces of a tree, in order

-- an operand
abbrev pub operand_pieces : Operand → List RulePiece
operand_pieces (Number n) = number n ∷ []
operand_pieces (Caller at) = word_at caller_word at ∷ []
operand_pieces (State at) = word_at state_word at ∷ []
operand_pieces (Argument n) = fixed Dollar ∷ number n ∷ []
operand_pieces (GreatestOf field) = word greatest_word ∷ name field ∷ []
operand_pieces (Named n) = name n ∷ []

-- the word of an operator
abbrev pub operator_word : Operator → Keyword
operator_word Plus = plus_word
operator_word Minus = minus_word
operator_word Least = least_word
operator_word Greatest = greatest_word

-- a number: an operand, or two with an operator between them
abbrev pub term_pieces : Term → List RulePiece
term_pieces t = operand_pieces t.first ++ (elim t.more [ None ↦ [] | Some more ↦ word (operator_word more.0) ∷ operand_pieces more.1 ])

-- how two numbers stand to each other
abbrev pub relation_pieces : Relation → List RulePiece
relation_pieces Is = word is_word ∷ []
relation_pieces IsNot = word is_word ∷ word Not ∷ []
relation_pieces Below = word below_word ∷ []
relation_pieces Above = word above_word ∷ []

-- a test
abbrev pub test_pieces : Test → List RulePiece
test_pieces t = term_pieces t.left ++ (relation_pieces t.relation ++ term_pieces t.right)

-- what is asked of a row
abbrev pub what_pieces : What → List RulePiece
what_pieces (row_state at) = word_at state_word at ∷ []
what_pieces (Field field) = name field ∷ []

-- something of a row, and the number to which it stands so
abbrev pub pick_pieces : Pick → List RulePiece
pick_pieces p = what_pieces p.what ++ (relation_pieces p.relation ++ term_pieces p.right)

-- what holds of a row, with commas between
abbrev pub picks_pieces : List Pick → List RulePiece
picks_pieces picks = separated (fixed Comma) pick_pieces picks

-- that some row is so, or none
abbrev pub row_test_pieces : RowTest → List RulePiece
row_test_pieces rows = word_at (if rows.some then SomeRow else NoRow) rows.at ∷ word Row ∷ word Where ∷ picks_pieces rows.picks

-- tests, with commas between; what is asked of the rows is the last of them
abbrev pub tests_pieces : Tests → List RulePiece
tests_pieces when = elim when.rows [
  | None ↦ separated (fixed Comma) test_pieces when.tests
  | Some rows ↦ flat_map (λ test. test_pieces test ++ fixed Comma ∷ []) when.tests ++ row_test_pieces rows
]

-- after `if`, tests, where there are any
abbrev pub if_pieces : Tests → List RulePiece
if_pieces when = elim when.rows [
  | None ↦ elim when.tests [ [] ↦ [] | test ∷ more ↦ word If ∷ tests_pieces when ]
  | Some rows ↦ word If ∷ tests_pieces when
]

-- after `where`, what holds of a row, where anything has to
abbrev pub where_pieces : List Pick → List RulePiece
where_pieces [] = []
where_pieces (pick ∷ more) = word Where ∷ picks_pieces (pick ∷ more)

-- a rule
abbrev pub rule_pieces : Rule → List RulePiece
rule_pieces (Refuse at code when) = word_at refuse_word at ∷ name code ∷ word If ∷ (tests_pieces when ++ fixed Semicolon ∷ [])
rule_pieces (Wait at when) = word_at wait_word at ∷ word If ∷ (tests_pieces when ++ fixed Semicolon ∷ [])
rule_pieces (Give at term when) = word_at give_word at ∷ (term_pieces term ++ (if_pieces when ++ fixed Semicolon ∷ []))
rule_pieces (GiveRow at picks code) =
    word_at give_word at ∷ word Row ∷ word Where ∷ (picks_pieces picks ++ word Else ∷ name code ∷ fixed Semicolon ∷ [])
rule_pieces (GiveFirst at terms picks code) =
    word_at give_word at ∷ word First
    ∷ (separated (fixed Comma) term_pieces terms ++ (where_pieces picks ++ word Else ∷ name code ∷ fixed Semicolon ∷ []))

-- ---- sentences

-- there is at least one test, or something is asked of the rows; and what is asked of them names at least one thing
abbrev pub HasTests : Tests → Type 0
HasTests when = elim when.rows as (λ rows. Type 0) [ None ↦ when.tests ≢ [] | Some rows ↦ rows.picks ≢ [] ]

-- each list of a rule that has to have something has at least one thing
abbrev pub IsRule : Rule → Type 0
IsRule (Refuse at code when) = HasTests when
IsRule (Wait at when) = HasTests when
IsRule (Give at term when) = elim when.rows as (λ rows. Type 0) [ None ↦ Unit {0} | Some rows ↦ rows.picks ≢ [] ]
IsRule (GiveRow at picks code) = picks ≢ []
IsRule (GiveFirst at terms picks code) = terms ≢ []

-- the tokens are rules, at least one, and these are their trees: they are, one by one, what the rules want
pub record AreRules (tokens : List Lexeme) (rules : List Rule) : Type 0 where
  pub pieces : ArePieces IsRulePiece tokens (flat_map rule_pieces rules)
  pub some : rules ≢ []
  pub each : All IsRule rules
