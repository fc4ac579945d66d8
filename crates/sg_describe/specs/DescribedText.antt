-- What the text of an interface describes: its shape, the greatest number of each field, and how each function answers.
use Rattle.std.specs.Prelude.{ℕ, List, [], None, Some, map, unwrap_or}
use Rattle.std.specs.Option.{option_and_then}
use Rattle.sg_shape.specs.sg_facts.Facts.{Facts, Fun}
use Rattle.sg_shape.specs.sg_facts.sg_base.declared.reply.Code.TheVariants.{NotFound}
use Rattle.sg_shape.specs.sg_check_statements.sg_parse.declared.tree.Statement.{Statement}
use Rattle.sg_shape.specs.sg_check_statements.sg_parse.declared.tree.Tree.{Tree}
use Rattle.sg_shape.specs.sg_check_statements.sg_parse.sg_lex.Numbers.{number_of_digits}
use Rattle.sg_shape.specs.sg_check_statements.sg_parse.sg_rules.declared.tree.Operand.{Operand as TextOperand}
use Rattle.sg_shape.specs.sg_check_statements.sg_parse.sg_rules.declared.tree.Operand.TheVariants.{Number as TextNumber, Caller as TextCaller, State as TextState, Argument as TextArgument, GreatestOf, Named}
use Rattle.sg_shape.specs.sg_check_statements.sg_parse.sg_rules.declared.tree.Operator.{Operator}
use Rattle.sg_shape.specs.sg_check_statements.sg_parse.sg_rules.declared.tree.Operator.TheVariants.{Plus as PlusWord, Minus as MinusWord, Least as LeastWord, Greatest as GreatestWord}
use Rattle.sg_shape.specs.sg_check_statements.sg_parse.sg_rules.declared.tree.Relation.{Relation as TextRelation}
use Rattle.sg_shape.specs.sg_check_statements.sg_parse.sg_rules.declared.tree.Relation.TheVariants.{Is as IsWord, IsNot as IsNotWord, Below as BelowWord, Above as AboveWord}
use Rattle.sg_shape.specs.sg_check_statements.sg_parse.sg_rules.declared.tree.Rule.{Rule as TextRule}
use Rattle.sg_shape.specs.sg_check_statements.sg_parse.sg_rules.declared.tree.Rule.TheVariants.{Refuse as RefuseRule, Wait as WaitRule, Give as GiveRule, GiveRow, GiveFirst}
use Rattle.sg_shape.specs.sg_check_statements.sg_parse.sg_rules.declared.tree.Term.{Term as TextTerm}
use Rattle.sg_shape.specs.sg_check_statements.sg_parse.sg_rules.declared.tree.Test.{Test as TextTest}
use Rattle.sg_shape.specs.ShapeOfText.{shape_of_text}
use Rattle.sg_described.specs.declared.description.Operand.{Operand}
use Rattle.sg_described.specs.declared.description.Operand.TheVariants.{Number, Caller, State, Argument}
use Rattle.sg_described.specs.declared.description.Relation.{Relation}
use Rattle.sg_described.specs.declared.description.Relation.TheVariants.{Is, IsNot, Below, Above}
use Rattle.sg_described.specs.declared.description.Term.{Term}
use Rattle.sg_described.specs.declared.description.Term.TheVariants.{Only, Plus, Minus, Least, Greatest}
use Rattle.sg_described.specs.declared.description.Test.{Test}
use Rattle.sg_described.specs.declared.description.Verdict.{Verdict}
use Rattle.sg_described.specs.declared.description.Verdict.TheVariants.{Refuse, Wait, Give}
use Rattle.sg_described.specs.Described.{Described, Rule}
use Rattle.sg_describe.specs.Names.{argument_named, code_named, named}
use Rattle.sg_describe.specs.Said.{most_said, rules_said}

-- ---- numbers

-- the greatest number of a field where no statement says one
abbrev pub most_unsaid : ℕ
most_unsaid = 4294967295

-- the greatest number of the field of a name
abbrev pub most_of : List Statement → List ℕ → ℕ
most_of statements x = unwrap_or (option_and_then (λ n. number_of_digits n.bytes) (most_said x statements)) most_unsaid

-- what an operand of a function's rules reads; 0 where it names nothing, or speaks of all rows
abbrev pub operand_of : Facts → Fun → TextOperand → Operand
operand_of facts f (TextNumber n) = Number (unwrap_or (number_of_digits n.bytes) 0)
operand_of facts f (TextCaller at) = Caller
operand_of facts f (TextState at) = State
operand_of facts f (TextArgument n) = Argument (unwrap_or (argument_named f.kinds n.bytes) 0)
operand_of facts f (GreatestOf x) = Number 0
operand_of facts f (Named n) = unwrap_or (named facts n.bytes) (Number 0)

-- two operands with an operator between them
abbrev pub operated : Operator → Operand → Operand → Term
operated PlusWord a b = Plus a b
operated MinusWord a b = Minus a b
operated LeastWord a b = Least a b
operated GreatestWord a b = Greatest a b

abbrev pub term_of : Facts → Fun → TextTerm → Term
term_of facts f t = elim t.more [ None ↦ Only (operand_of facts f t.first) | Some more ↦ operated more.0 (operand_of facts f t.first) (operand_of facts f more.1) ]

-- ---- rules

abbrev pub relation_of : TextRelation → Relation
relation_of IsWord = Is
relation_of IsNotWord = IsNot
relation_of BelowWord = Below
relation_of AboveWord = Above

abbrev pub test_of : Facts → Fun → TextTest → Test
test_of facts f t = record { left = term_of facts f t.left; relation = relation_of t.relation; right = term_of facts f t.right }

-- the tests of a rule; none where it gives a descriptor
abbrev pub tests_in : TextRule → List TextTest
tests_in (RefuseRule at code when) = when.tests
tests_in (WaitRule at when) = when.tests
tests_in (GiveRule at term when) = when.tests
tests_in (GiveRow at picks code) = []
tests_in (GiveFirst at terms picks code) = []

-- what a rule says; where it gives a descriptor, a word that is 0
abbrev pub verdict_of : Facts → Fun → TextRule → Verdict
verdict_of facts f (RefuseRule at code when) = Refuse (unwrap_or (code_named code.bytes) NotFound)
verdict_of facts f (WaitRule at when) = Wait
verdict_of facts f (GiveRule at term when) = Give (term_of facts f term)
verdict_of facts f (GiveRow at picks code) = Give (Only (Number 0))
verdict_of facts f (GiveFirst at terms picks code) = Give (Only (Number 0))

abbrev pub rule_of : Facts → Fun → TextRule → Rule
rule_of facts f r = record { tests = map (test_of facts f) (tests_in r); verdict = verdict_of facts f r }

-- the rules of a function
abbrev pub answer_of : Facts → List Statement → Fun → List Rule
answer_of facts statements f = map (rule_of facts f) (rules_said f.name statements)

-- ---- the whole

-- what statements describe of a service of a shape
abbrev pub described_with : Facts → List Statement → Described
described_with facts statements = record {
  facts = facts;
  most = map (λ x. most_of statements x.name) facts.fields;
  answers = map (answer_of facts statements) facts.funs;
}

-- what a text describes
abbrev pub described_of_text : Tree → Described
described_of_text tree = described_with (shape_of_text tree) tree.statements
