-- How far rules have been read: an automaton over tokens, whose states carry the rules so far. Nothing public rests on the automaton, which
-- is proved to read exactly the rules, and says in what steps the parser goes.
use Rattle.std.specs.Prelude.{ℕ, ◌&&◌, Bool, true, false, if◌then◌else◌, List, [], ◌∷◌, ◌++◌, None, Some}
use Rattle.std.specs.declared.option.Option.{Option}
use Rattle.sg_lex.specs.declared.token.TokenKind.TheVariants.{Word, Number as number_kind}
use Rattle.sg_lex.specs.Lexeme.{Lexeme, Spelling}
use Rattle.sg_lex.specs.Inside.Automata.{Automaton}
use Rattle.sg_lex.specs.Inside.Marks.{comma_byte, semicolon_byte, dollar_byte}
use Rattle.sg_lex.specs.Inside.Tests.{has_kind, is_this_mark, is_fixed}
use Rattle.sg_rules.specs.declared.error.ParseError.{ParseError}
use Rattle.sg_rules.specs.declared.error.ParseError.TheVariants.{NoMemory, Lex, Syntax}
use Rattle.sg_rules.specs.declared.words.Keyword.TheVariants.{Refuse as refuse_word, Wait as wait_word, Give as give_word, If, Is as is_word, Not, Below as below_word, Above as above_word, Plus as plus_word, Minus as minus_word, Least as least_word, Greatest as greatest_word, Caller as caller_word, State as state_word, Row, Where, Else, First, SomeRow, NoRow}
use Rattle.sg_rules.specs.declared.words.Fixed.{Fixed}
use Rattle.sg_rules.specs.declared.words.Fixed.TheVariants.{Key, Comma, Semicolon, Dollar}
use Rattle.sg_rules.specs.declared.words.Wanted.{Wanted}
use Rattle.sg_rules.specs.declared.words.Wanted.TheVariants.{Name as a_name, Number as a_number, Key as a_word}
use Rattle.sg_rules.specs.declared.tree.Operand.{Operand}
use Rattle.sg_rules.specs.declared.tree.Operand.TheVariants.{Number, Caller, State, Argument, GreatestOf, Named}
use Rattle.sg_rules.specs.declared.tree.Operator.{Operator}
use Rattle.sg_rules.specs.declared.tree.Operator.TheVariants.{Plus, Minus, Least, Greatest}
use Rattle.sg_rules.specs.declared.tree.Relation.{Relation}
use Rattle.sg_rules.specs.declared.tree.Relation.TheVariants.{Is, IsNot, Below, Above}
use Rattle.sg_rules.specs.declared.tree.Term.{Term}
use Rattle.sg_rules.specs.declared.tree.Test.{Test}
use Rattle.sg_rules.specs.declared.tree.Tests.{Tests}
use Rattle.sg_rules.specs.declared.tree.RowTest.{RowTest}
use Rattle.sg_rules.specs.declared.tree.Pick.{Pick}
use Rattle.sg_rules.specs.declared.tree.What.{What}
use Rattle.sg_rules.specs.declared.tree.What.TheVariants.{State as row_state, Field}
use Rattle.sg_rules.specs.declared.tree.Rule.{Rule}
use Rattle.sg_rules.specs.declared.tree.Rule.TheVariants.{Refuse, Wait, Give, GiveRow, GiveFirst}
use Rattle.sg_rules.specs.Grammar.Words.{word_of, is_name}

-- ---- tests of tokens

-- a token is this word or this mark
abbrev pub fits : Fixed → Lexeme → Bool
fits (Key keyword) token = is_fixed (word_of keyword) token
fits Comma token = is_this_mark comma_byte token
fits Semicolon token = is_this_mark semicolon_byte token
fits Dollar token = is_this_mark dollar_byte token

-- a token is what is wanted
abbrev pub wants : Wanted → Lexeme → Bool
wants a_name token = has_kind Word token && is_name token.bytes
wants a_number token = has_kind number_kind token
wants (a_word keyword) token = is_fixed (word_of keyword) token

-- what a token spells
abbrev pub spelt_by : Lexeme → Spelling
spelt_by token = record { bytes = token.bytes; at = token.at }

-- ---- states

-- how far rules have been read: what may come next, with the rules so far
pub data RuleState : Type 0 where
  -- no token may come; the rules, where there are any
  ended : List Rule → RuleState
  -- this word or mark and then the state, or as the second state
  fork : Fixed → RuleState → RuleState → RuleState
  -- what is wanted and then the state of it, or as the second state
  take : Wanted → (Spelling → RuleState) → RuleState → RuleState
  -- after numbers: a comma and a further one, or as the state of them all
  termed : List Term → (List Term → RuleState) → RuleState
  -- after what holds of a row: a comma and more of that, or as the state of it all
  picked : List Pick → (List Pick → RuleState) → RuleState
  -- after tests: a comma and a further one, or what is asked of the rows; or as the state of them all
  tested : List Test → (Tests → RuleState) → RuleState
  -- before a further rule
  ruled : List Rule → RuleState

-- no token may come, and nothing was read
abbrev pub dead : RuleState
dead = ended []

-- this word or mark, and then the state
abbrev pub due : Fixed → RuleState → RuleState
due what s = fork what s dead

-- what is wanted, and then the state of it
abbrev pub want : Wanted → (Spelling → RuleState) → RuleState
want what k = take what k dead

-- A part that has many beginnings and ends stays closed in the proofs of those that it is a part of: a test has two numbers, and would go on in
-- thousands of ways.

-- before an operand that is an argument, or that a name says
abbrev pub named_operand : (Operand → RuleState) → RuleState
named_operand k =
    fork Dollar (want a_number (λ n. k (Argument n)))
    (fork (Key greatest_word) (want a_name (λ n. k (GreatestOf n))) (want a_name (λ n. k (Named n))))

-- before an operand
abbrev pub operand : (Operand → RuleState) → RuleState
operand k =
    take a_number (λ n. k (Number n)) (take (a_word caller_word) (λ n. k (Caller n.at)) (take (a_word state_word) (λ n. k (State n.at)) (named_operand k)))

-- an operator and then the state of it, or as the second state
abbrev pub operator_or : (Operator → RuleState) → RuleState → RuleState
operator_or k other =
    fork (Key plus_word) (k Plus) (fork (Key minus_word) (k Minus) (fork (Key least_word) (k Least) (fork (Key greatest_word) (k Greatest) other)))

-- after the first operand of a number
abbrev pub after_first : (Term → RuleState) → Operand → RuleState
after_first k first =
    operator_or (λ o. operand (λ second. k (record { first = first; more = Some (o, second) }))) (k (record { first = first; more = None }))

-- before a number
unfoldable pub term : (Term → RuleState) → RuleState
term k = operand (after_first k)

-- after `is`
abbrev pub is_or_not : (Relation → RuleState) → RuleState
is_or_not k = fork (Key Not) (k IsNot) (k Is)

-- before how two numbers stand to each other
unfoldable pub relation : (Relation → RuleState) → RuleState
relation k = fork (Key is_word) (is_or_not k) (fork (Key below_word) (k Below) (due (Key above_word) (k Above)))

-- before a test
unfoldable pub one_test : (Test → RuleState) → RuleState
one_test k = term (λ left. relation (λ r. term (λ right. k (record { left = left; relation = r; right = right }))))

-- before what is asked of a row
abbrev pub what : (What → RuleState) → RuleState
what k = take (a_word state_word) (λ n. k (row_state n.at)) (want a_name (λ n. k (Field n)))

-- before something that holds of a row
unfoldable pub pick : (Pick → RuleState) → RuleState
pick k = what (λ w. relation (λ r. term (λ right. k (record { what = w; relation = r; right = right }))))

-- before all that holds of a row
unfoldable pub picks : (List Pick → RuleState) → RuleState
picks k = pick (λ p. picked (p ∷ []) k)

-- after the first word of what is asked of the rows
unfoldable pub rows_rest : (RowTest → RuleState) → Bool → ℕ → RuleState
rows_rest k some at = due (Key Row) (due (Key Where) (picks (λ ps. k (record { at = at; some = some; picks = ps }))))

-- before what is asked of the rows and then the state of it, or as the second state
unfoldable pub rows_or : (RowTest → RuleState) → RuleState → RuleState
rows_or k other = take (a_word SomeRow) (λ n. rows_rest k true n.at) (take (a_word NoRow) (λ n. rows_rest k false n.at) other)

-- after these tests, before a further one or what is asked of the rows
unfoldable pub tests_from : List Test → (Tests → RuleState) → RuleState
tests_from before k = rows_or (λ rows. k (record { tests = before; rows = Some rows })) (one_test (λ t. tested (before ++ t ∷ []) k))

-- before tests
abbrev pub tests : (Tests → RuleState) → RuleState
tests k = tests_from [] k

-- before tests that end a rule
abbrev pub if_rest : (Tests → RuleState) → RuleState
if_rest k = tests (λ when. due Semicolon (k when))

-- before the code where no row is so, which ends a rule
abbrev pub else_rest : (Spelling → RuleState) → RuleState
else_rest k = due (Key Else) (want a_name (λ code. due Semicolon (k code)))

-- after `refuse`
unfoldable pub refuse_rest : (Rule → RuleState) → ℕ → RuleState
refuse_rest go at = want a_name (λ code. due (Key If) (if_rest (λ when. go (Refuse at code when))))

-- after `wait`
unfoldable pub wait_rest : (Rule → RuleState) → ℕ → RuleState
wait_rest go at = due (Key If) (if_rest (λ when. go (Wait at when)))

-- no test
abbrev pub no_tests : Tests
no_tests = record { tests = []; rows = None }

-- after the number of what is given
unfoldable pub given : (Rule → RuleState) → ℕ → Term → RuleState
given go at t = fork (Key If) (if_rest (λ when. go (Give at t when))) (due Semicolon (go (Give at t no_tests)))

-- after `give row`
unfoldable pub row_rest : (Rule → RuleState) → ℕ → RuleState
row_rest go at = due (Key Where) (picks (λ ps. else_rest (λ code. go (GiveRow at ps code))))

-- before numbers
abbrev pub terms : (List Term → RuleState) → RuleState
terms k = term (λ t. termed (t ∷ []) k)

-- after the numbers by which a row is the least
unfoldable pub least_of : (Rule → RuleState) → ℕ → List Term → RuleState
least_of go at ts =
    fork (Key Where) (picks (λ ps. else_rest (λ code. go (GiveFirst at ts ps code)))) (else_rest (λ code. go (GiveFirst at ts [] code)))

-- after `give first`
unfoldable pub first_rest : (Rule → RuleState) → ℕ → RuleState
first_rest go at = terms (least_of go at)

-- after `give`
unfoldable pub give_rest : (Rule → RuleState) → ℕ → RuleState
give_rest go at = fork (Key Row) (row_rest go at) (fork (Key First) (first_rest go at) (term (given go at)))

-- before a rule and then the state of it, or as the second state
unfoldable pub rule_or : (Rule → RuleState) → RuleState → RuleState
rule_or go other =
    take (a_word refuse_word) (λ n. refuse_rest go n.at) (take (a_word wait_word) (λ n. wait_rest go n.at)
    (take (a_word give_word) (λ n. give_rest go n.at) other))

-- with one rule more
abbrev pub with_rule : List Rule → Rule → RuleState
with_rule before r = ruled (before ++ r ∷ [])

-- ---- steps

-- after the first word of a further rule
abbrev pub rule_after : (Rule → RuleState) → Lexeme → Option RuleState
rule_after go token =
    if wants (a_word refuse_word) token then Some (refuse_rest go token.at)
    else (if wants (a_word wait_word) token then Some (wait_rest go token.at)
    else (if wants (a_word give_word) token then Some (give_rest go token.at)
    else None))

-- the state after a token; None where the token may not come
unfoldable pub step : RuleState → Lexeme → Option RuleState
step (ended rules) token = None
step (fork p s other) token = if fits p token then Some s else step other token
step (take w k other) token = if wants w token then Some (k (spelt_by token)) else step other token
step (termed ts k) token = if fits Comma token then Some (term (λ t. termed (ts ++ t ∷ []) k)) else step (k ts) token
step (picked ps k) token = if fits Comma token then Some (pick (λ p. picked (ps ++ p ∷ []) k)) else step (k ps) token
step (tested ts k) token = if fits Comma token then Some (tests_from ts k) else step (k (record { tests = ts; rows = None })) token
step (ruled rules) token = rule_after (with_rule rules) token

-- some rules, where there are any
abbrev pub any_rules : List Rule → Option (List Rule)
any_rules [] = None
any_rules (r ∷ rules) = Some (r ∷ rules)

-- the rules, where they may end here
unfoldable pub rules_at : RuleState → Option (List Rule)
rules_at (ended rules) = any_rules rules
rules_at (fork p s other) = rules_at other
rules_at (take w k other) = rules_at other
rules_at (termed ts k) = rules_at (k ts)
rules_at (picked ps k) = rules_at (k ps)
rules_at (tested ts k) = rules_at (k (record { tests = ts; rows = None }))
rules_at (ruled rules) = any_rules rules

-- how the automaton reads rules
abbrev pub rule_reader : Automaton RuleState (List Rule) ParseError
rule_reader = record { start = ruled []; step = step; value_at = rules_at; no_token = Lex; no_sentence = Syntax; no_memory = NoMemory }
