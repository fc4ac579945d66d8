-- The canonical text of rules.
use Rattle.std.specs.Prelude.{ℕ, if◌then◌else◌, List, [], ◌∷◌, ◌++◌, None, Some, codes}
use Rattle.std.specs.List.{concat, flat_map, join_by}
use Rattle.sg_facts.specs.Words.{line_end}
use Rattle.sg_parse.specs.sg_rules.declared.tree.Operand.{Operand}
use Rattle.sg_parse.specs.sg_rules.declared.tree.Operand.TheVariants.{Number, Caller, State, Argument, GreatestOf, Named}
use Rattle.sg_parse.specs.sg_rules.declared.tree.Relation.{Relation}
use Rattle.sg_parse.specs.sg_rules.declared.tree.Relation.TheVariants.{Is, IsNot, Below, Above}
use Rattle.sg_parse.specs.sg_rules.declared.tree.Term.{Term}
use Rattle.sg_parse.specs.sg_rules.declared.tree.Test.{Test}
use Rattle.sg_parse.specs.sg_rules.declared.tree.Tests.{Tests}
use Rattle.sg_parse.specs.sg_rules.declared.tree.RowTest.{RowTest}
use Rattle.sg_parse.specs.sg_rules.declared.tree.Pick.{Pick}
use Rattle.sg_parse.specs.sg_rules.declared.tree.What.{What}
use Rattle.sg_parse.specs.sg_rules.declared.tree.What.TheVariants.{State as row_state, Field}
use Rattle.sg_parse.specs.sg_rules.declared.tree.Rule.{Rule}
use Rattle.sg_parse.specs.sg_rules.declared.tree.Rule.TheVariants.{Refuse, Wait, Give, GiveRow, GiveFirst}
use Rattle.sg_parse.specs.sg_rules.Grammar.Sentence.{operator_word}
use Rattle.sg_parse.specs.sg_rules.Grammar.Words.{word_of}

-- an operand: nothing stands after `$`, and one space after `greatest`
abbrev pub operand_text : Operand → List ℕ
operand_text (Number n) = n.bytes
operand_text (Caller at) = codes "caller"
operand_text (State at) = codes "state"
operand_text (Argument n) = codes "$" ++ n.bytes
operand_text (GreatestOf field) = codes "greatest " ++ field.bytes
operand_text (Named n) = n.bytes

-- a number, with one space before and after its operator
abbrev pub term_text : Term → List ℕ
term_text t =
    operand_text t.first
    ++ (elim t.more [ None ↦ [] | Some more ↦ concat (codes " " ∷ word_of (operator_word more.0) ∷ codes " " ∷ operand_text more.1 ∷ []) ])

-- how two numbers stand to each other
abbrev pub relation_text : Relation → List ℕ
relation_text Is = codes "is"
relation_text IsNot = codes "is not"
relation_text Below = codes "below"
relation_text Above = codes "above"

-- a test
abbrev pub test_text : Test → List ℕ
test_text t = concat (term_text t.left ∷ codes " " ∷ relation_text t.relation ∷ codes " " ∷ term_text t.right ∷ [])

-- what is asked of a row
abbrev pub what_text : What → List ℕ
what_text (row_state at) = codes "state"
what_text (Field field) = field.bytes

-- something of a row, and the number to which it stands so
abbrev pub pick_text : Pick → List ℕ
pick_text p = concat (what_text p.what ∷ codes " " ∷ relation_text p.relation ∷ codes " " ∷ term_text p.right ∷ [])

-- that some row is so, or none
abbrev pub rows_text : RowTest → List ℕ
rows_text rows = concat ((if rows.some then codes "some" else codes "no") ∷ codes " row where " ∷ join_by pick_text (codes ", ") rows.picks ∷ [])

-- tests, and what is asked of the rows, with a comma and a space between two
abbrev pub tests_text : Tests → List ℕ
tests_text when = elim when.rows [
  | None ↦ join_by test_text (codes ", ") when.tests
  | Some rows ↦ flat_map (λ test. test_text test ++ codes ", ") when.tests ++ rows_text rows
]

-- tests after `if`, where there are any
abbrev pub if_text : Tests → List ℕ
if_text when = elim when.rows [
  | None ↦ elim when.tests [ [] ↦ [] | test ∷ more ↦ codes " if " ++ tests_text when ]
  | Some rows ↦ codes " if " ++ tests_text when
]

-- what holds of a row after `where`, where anything has to
abbrev pub where_text : List Pick → List ℕ
where_text [] = []
where_text (pick ∷ more) = codes " where " ++ join_by pick_text (codes ", ") (pick ∷ more)

-- a rule
abbrev pub rule_text : Rule → List ℕ
rule_text (Refuse at code when) = concat (codes "refuse " ∷ code.bytes ∷ codes " if " ∷ tests_text when ∷ [])
rule_text (Wait at when) = codes "wait if " ++ tests_text when
rule_text (Give at term when) = concat (codes "give " ∷ term_text term ∷ if_text when ∷ [])
rule_text (GiveRow at picks code) = concat (codes "give row where " ∷ join_by pick_text (codes ", ") picks ∷ codes " else " ∷ code.bytes ∷ [])
rule_text (GiveFirst at terms picks code) =
    concat (codes "give first " ∷ join_by term_text (codes ", ") terms ∷ where_text picks ∷ codes " else " ∷ code.bytes ∷ [])

-- the line of a rule, which stands after four spaces
abbrev pub rule_line : Rule → List ℕ
rule_line rule = concat (codes "    " ∷ rule_text rule ∷ codes ";" ∷ line_end ∷ [])
