-- Rules without places.
use Rattle.std.specs.Prelude.{List, map}
use Rattle.std.specs.Option.{option_map}
use Rattle.sg_lex.specs.Lexeme.{Spelling}
use Rattle.sg_rules.specs.declared.tree.Operand.{Operand}
use Rattle.sg_rules.specs.declared.tree.Operand.TheVariants.{Number, Caller, State, Argument, GreatestOf, Named}
use Rattle.sg_rules.specs.declared.tree.Term.{Term}
use Rattle.sg_rules.specs.declared.tree.Test.{Test}
use Rattle.sg_rules.specs.declared.tree.Tests.{Tests}
use Rattle.sg_rules.specs.declared.tree.RowTest.{RowTest}
use Rattle.sg_rules.specs.declared.tree.Pick.{Pick}
use Rattle.sg_rules.specs.declared.tree.What.{What}
use Rattle.sg_rules.specs.declared.tree.What.TheVariants.{State as row_state, Field}
use Rattle.sg_rules.specs.declared.tree.Rule.{Rule}
use Rattle.sg_rules.specs.declared.tree.Rule.TheVariants.{Refuse, Wait, Give, GiveRow, GiveFirst}

-- a name or a number at place 0
abbrev pub plain_name : Spelling → Spelling
plain_name n = record { bytes = n.bytes; at = 0 }

-- an operand with each part at place 0
abbrev pub plain_operand : Operand → Operand
plain_operand (Number n) = Number (plain_name n)
plain_operand (Caller at) = Caller 0
plain_operand (State at) = State 0
plain_operand (Argument n) = Argument (plain_name n)
plain_operand (GreatestOf field) = GreatestOf (plain_name field)
plain_operand (Named n) = Named (plain_name n)

-- a number with each part at place 0
abbrev pub plain_term : Term → Term
plain_term t = record { first = plain_operand t.first; more = option_map (λ more. (more.0, plain_operand more.1)) t.more }

-- a test with each part at place 0
abbrev pub plain_test : Test → Test
plain_test t = record { left = plain_term t.left; relation = t.relation; right = plain_term t.right }

-- what is asked of a row, at place 0
abbrev pub plain_what : What → What
plain_what (row_state at) = row_state 0
plain_what (Field field) = Field (plain_name field)

-- what holds of a row, with each part at place 0
abbrev pub plain_pick : Pick → Pick
plain_pick p = record { what = plain_what p.what; relation = p.relation; right = plain_term p.right }

-- what is asked of the rows, with each part at place 0
abbrev pub plain_rows : RowTest → RowTest
plain_rows rows = record { at = 0; some = rows.some; picks = map plain_pick rows.picks }

-- tests with each part at place 0
abbrev pub plain_tests : Tests → Tests
plain_tests when = record { tests = map plain_test when.tests; rows = option_map plain_rows when.rows }

-- a rule with each part at place 0
abbrev pub plain_rule : Rule → Rule
plain_rule (Refuse at code when) = Refuse 0 (plain_name code) (plain_tests when)
plain_rule (Wait at when) = Wait 0 (plain_tests when)
plain_rule (Give at term when) = Give 0 (plain_term term) (plain_tests when)
plain_rule (GiveRow at picks code) = GiveRow 0 (map plain_pick picks) (plain_name code)
plain_rule (GiveFirst at terms picks code) = GiveFirst 0 (map plain_term terms) (map plain_pick picks) (plain_name code)

-- rules with each part at place 0: rules are equal but for places where these are equal
abbrev pub plain_rules : List Rule → List Rule
plain_rules rules = map plain_rule rules
