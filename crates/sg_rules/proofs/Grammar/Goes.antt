-- The pieces of rules lead from the state before them to the state after them.
use Rattle.std.proofs.Common.{◌≡◌, ◌≢◌, ℕ, inl, inr, true, if◌then◌else◌, List, [], ◌∷◌, ◌++◌, refl, sym, subst, append_assoc, append-nil}
use Rattle.std.specs.Prelude.{None, Some, All, Bool, false}
use Rattle.std.specs.declared.option.Option.{Option}
use Rattle.std.proofs.lemmas.List.Elements.{All-head, All-tail}
use Rattle.sg_lex.specs.Lexeme.{Spelling}
use Rattle.sg_rules.specs.declared.words.Keyword.{Keyword}
use Rattle.sg_rules.specs.declared.words.Keyword.TheVariants.{Not, Plus as plus_word, Minus as minus_word, Least as least_word, Greatest as greatest_word, Caller as caller_word, State as state_word, Row, Where, Else, First, SomeRow, NoRow}
use Rattle.sg_rules.specs.declared.words.Fixed.{Fixed}
use Rattle.sg_rules.specs.declared.words.Fixed.TheVariants.{Key, Comma, Semicolon}
use Rattle.sg_rules.specs.declared.words.Wanted.{Wanted}
use Rattle.sg_rules.specs.declared.words.Wanted.TheVariants.{Key as a_word}
use Rattle.sg_rules.specs.declared.tree.Operand.{Operand}
use Rattle.sg_rules.specs.declared.tree.Operand.TheVariants.{Number, Caller, State, Argument, GreatestOf, Named}
use Rattle.sg_rules.specs.declared.tree.Operator.{Operator}
use Rattle.sg_rules.specs.declared.tree.Operator.TheVariants.{Plus, Minus, Least, Greatest}
use Rattle.sg_rules.specs.declared.tree.Relation.{Relation}
use Rattle.sg_rules.specs.declared.tree.Relation.TheVariants.{Is, IsNot, Below, Above}
use Rattle.sg_rules.specs.declared.tree.Term.{Term}
use Rattle.sg_rules.specs.declared.tree.Test.{Test}
use Rattle.sg_rules.specs.declared.tree.Tests.{Tests}
use Rattle.sg_rules.specs.declared.tree.RowTest.{RowTest}
use Rattle.sg_rules.specs.declared.tree.Pick.{Pick}
use Rattle.sg_rules.specs.declared.tree.What.{What}
use Rattle.sg_rules.specs.declared.tree.What.TheVariants.{State as row_state, Field}
use Rattle.sg_rules.specs.declared.tree.Rule.{Rule}
use Rattle.sg_rules.specs.declared.tree.Rule.TheVariants.{Refuse, Wait, Give, GiveRow, GiveFirst}
use Rattle.sg_rules.specs.Grammar.Words.{word_of}
use Rattle.sg_rules.specs.Grammar.Pieces.{RulePiece, fixed, word, word_at, name}
use Rattle.sg_rules.specs.Grammar.Sentence.{operand_pieces, relation_pieces, what_pieces, HasTests, IsRule}
use Rattle.sg_rules.specs.Grammar.Inside.States.{RuleState, fork, take, termed, picked, tested, ruled, operand, after_first, term, relation, one_test, pick, picks, rows_rest, rows_or, tests_from, tests, if_rest, else_rest, refuse_rest, wait_rest, given, row_rest, terms, least_of, first_rest, give_rest, due, with_rule}
use Rattle.sg_rules.proofs.Grammar.Basics.{apart, misses, spelt, IsOwn}
use Rattle.sg_rules.proofs.Grammar.Steps.{GoesOn, there, onward}
use Rattle.sg_rules.proofs.Grammar.Thens.{each, each_more, more_then, term_then, test_then, pick_then, rows_then, tests_of, tests_then, if_of, where_then, rule_then, rules_then}

-- the first of these pieces isn't this word or mark
abbrev pub Past : Fixed → List RulePiece → Type 0
Past p [] = ⊥
Past p (q ∷ qs) = apart p q ≡ true

-- nor is it an operator
abbrev NoOperator : List RulePiece → Type 0
NoOperator qs = Past (Key plus_word) qs × Past (Key minus_word) qs × Past (Key least_word) qs × Past (Key greatest_word) qs

-- ---- states that one piece decides

fork_goes : {p : Fixed} {s other end : RuleState} {qs : List RulePiece} → GoesOn s qs end → GoesOn (fork p s other) (fixed p ∷ qs) end
fork_goes {s = s} g = onward {next = s} (inl (refl, refl)) g

fork_past : {p : Fixed} {s other end : RuleState} {q : RulePiece} {qs : List RulePiece} → apart p q ≡ true → GoesOn other (q ∷ qs) end → GoesOn (fork p s other) (q ∷ qs) end
fork_past h (onward {next = next} g more) = onward {next = next} (inr (h, g)) more

fork_over : {p : Fixed} {s other end : RuleState} (qs : List RulePiece) → Past p qs → GoesOn other qs end → GoesOn (fork p s other) qs end
fork_over [] h g = absurd h
fork_over (q ∷ qs) h g = fork_past h g

take_goes : {w : Wanted} {k : Spelling → RuleState} {other end : RuleState} {qs : List RulePiece} (n : Spelling) → IsOwn w n → GoesOn (k n) qs end
    → GoesOn (take w k other) (spelt w n ∷ qs) end
take_goes {k = k} n own g = onward {next = k n} (inl (n, refl, own, refl)) g

take_past : {w : Wanted} {k : Spelling → RuleState} {other end : RuleState} {q : RulePiece} {qs : List RulePiece} → misses w q ≡ true → GoesOn other (q ∷ qs) end
    → GoesOn (take w k other) (q ∷ qs) end
take_past h (onward {next = next} g more) = onward {next = next} (inr (h, g)) more

take_over : {keyword : Keyword} {k : Spelling → RuleState} {other end : RuleState} (qs : List RulePiece) → Past (Key keyword) qs → GoesOn other qs end
    → GoesOn (take (a_word keyword) k other) qs end
take_over [] h g = absurd h
take_over (q ∷ qs) h g = take_past h g

-- this word at a place
word_goes : {keyword : Keyword} {k : Spelling → RuleState} {other end : RuleState} {qs : List RulePiece} (at : ℕ) → GoesOn (k (record { bytes = word_of keyword; at = at })) qs end
    → GoesOn (take (a_word keyword) k other) (word_at keyword at ∷ qs) end
word_goes {keyword = keyword} at g = take_goes (record { bytes = word_of keyword; at = at }) refl g

-- ---- numbers

operand_goes : (o : Operand) (k : Operand → RuleState) {qs : List RulePiece} {end : RuleState} → GoesOn (k o) qs end → GoesOn (operand k) (operand_pieces o ++ qs) end
operand_goes (Number n) k g = take_goes n tt g
operand_goes (Caller at) k g = take_past refl (word_goes at g)
operand_goes (State at) k g = take_past refl (take_past refl (word_goes at g))
operand_goes (Argument n) k g = take_past refl (take_past refl (take_past refl (fork_goes (take_goes n tt g))))
operand_goes (GreatestOf n) k g = take_past refl (take_past refl (take_past refl (fork_past refl (fork_goes (take_goes n tt g)))))
operand_goes (Named n) k g = take_past refl (take_past refl (take_past refl (fork_past refl (fork_past refl (take_goes n tt g)))))

-- an operand begins with no other word of rules than `caller`, `state` and `greatest`
operand_past : (keyword : Keyword) → apart (Key keyword) (word caller_word) ≡ true → apart (Key keyword) (word state_word) ≡ true → apart (Key keyword) (word greatest_word) ≡ true
    → (o : Operand) (qs : List RulePiece) → Past (Key keyword) (operand_pieces o ++ qs)
operand_past keyword a b c (Number n) qs = refl
operand_past keyword a b c (Caller at) qs = a
operand_past keyword a b c (State at) qs = b
operand_past keyword a b c (Argument n) qs = refl
operand_past keyword a b c (GreatestOf n) qs = c
operand_past keyword a b c (Named n) qs = refl

after_goes : (first : Operand) (more : Option (Operator × Operand)) (k : Term → RuleState) (qs : List RulePiece) (end : RuleState) → NoOperator qs
    → GoesOn (k (record { first = first; more = more })) qs end → GoesOn (after_first k first) (more_then more qs) end
after_goes first None k qs end nor g = fork_over qs nor.0 (fork_over qs nor.1 (fork_over qs nor.2 (fork_over qs nor.3 g)))
after_goes first (Some (Plus, second)) k qs end nor g =
    fork_goes (operand_goes second (λ x. k (record { first = first; more = Some (Plus, x) })) g)
after_goes first (Some (Minus, second)) k qs end nor g =
    fork_past refl (fork_goes (operand_goes second (λ x. k (record { first = first; more = Some (Minus, x) })) g))
after_goes first (Some (Least, second)) k qs end nor g =
    fork_past refl (fork_past refl (fork_goes (operand_goes second (λ x. k (record { first = first; more = Some (Least, x) })) g)))
after_goes first (Some (Greatest, second)) k qs end nor g =
    fork_past refl (fork_past refl (fork_past refl (fork_goes (operand_goes second (λ x. k (record { first = first; more = Some (Greatest, x) })) g))))

term_goes : (t : Term) (k : Term → RuleState) (qs : List RulePiece) (end : RuleState) → NoOperator qs → GoesOn (k t) qs end → GoesOn (term k) (term_then t qs) end
unfolding term
term_goes t k qs end nor g = operand_goes t.first (after_first k) (after_goes t.first t.more k qs end nor g)

-- how two numbers stand to each other is said before a number, and is no operator
relation_goes : (o : Relation) (k : Relation → RuleState) (qs : List RulePiece) (end : RuleState) → Past (Key Not) qs → GoesOn (k o) qs end
    → GoesOn (relation k) (relation_pieces o ++ qs) end
unfolding relation
relation_goes Is k qs end past g = fork_goes (fork_over qs past g)
relation_goes IsNot k qs end past g = fork_goes (fork_goes g)
relation_goes Below k qs end past g = fork_past refl (fork_goes g)
relation_goes Above k qs end past g = fork_past refl (fork_past refl (fork_goes g))

relation_no_operator : (o : Relation) (qs : List RulePiece) → NoOperator (relation_pieces o ++ qs)
relation_no_operator Is qs = (refl, refl, refl, refl)
relation_no_operator IsNot qs = (refl, refl, refl, refl)
relation_no_operator Below qs = (refl, refl, refl, refl)
relation_no_operator Above qs = (refl, refl, refl, refl)

related_goes : (o : Relation) (right : Term) (k : Relation → Term → RuleState) (qs : List RulePiece) (end : RuleState) → NoOperator qs → GoesOn (k o right) qs end
    → GoesOn (relation (λ o. term (k o))) (relation_pieces o ++ term_then right qs) end
related_goes o right k qs end nor g =
    relation_goes o (λ o. term (k o)) (term_then right qs) end (operand_past Not refl refl refl right.first (more_then right.more qs)) (term_goes right (k o) qs end nor g)

test_goes : (t : Test) (k : Test → RuleState) (qs : List RulePiece) (end : RuleState) → NoOperator qs → GoesOn (k t) qs end → GoesOn (one_test k) (test_then t qs) end
unfolding one_test
test_goes t k qs end nor g =
    term_goes t.left (λ left. relation (λ o. term (λ right. k (record { left = left; relation = o; right = right })))) (relation_pieces t.relation ++ term_then t.right qs) end
    (relation_no_operator t.relation (term_then t.right qs))
    (related_goes t.relation t.right (λ o right. k (record { left = t.left; relation = o; right = right })) qs end nor g)

-- ---- lists

-- further things with their commas begin with no operator
more_no_operator : {A : Type 0} (then_of : A → List RulePiece → List RulePiece) (more : List A) (qs : List RulePiece) → NoOperator qs → NoOperator (each_more then_of more qs)
more_no_operator then_of [] qs nor = nor
more_no_operator then_of (a ∷ more) qs nor = (refl, refl, refl, refl)

termed_over : (ts : List Term) (k : List Term → RuleState) (qs : List RulePiece) (end : RuleState) → Past Comma qs → GoesOn (k ts) qs end → GoesOn (termed ts k) qs end
termed_over ts k [] end past g = absurd past
termed_over ts k (q ∷ qs) end past (onward {next = next} g more) = onward {next = next} (inr (past, g)) more

termed_goes : (more ts : List Term) (k : List Term → RuleState) (qs : List RulePiece) (end : RuleState) → Past Comma qs → NoOperator qs → GoesOn (k (ts ++ more)) qs end
    → GoesOn (termed ts k) (each_more term_then more qs) end
termed_goes [] ts k qs end past nor g = termed_over ts k qs end past (subst (λ v. GoesOn (k v) qs end) (append-nil ts) g)
termed_goes (t ∷ more) ts k qs end past nor g =
    onward {next = term (λ x. termed (ts ++ x ∷ []) k)} (inl (refl, refl))
    (term_goes t (λ x. termed (ts ++ x ∷ []) k) (each_more term_then more qs) end (more_no_operator term_then more qs nor)
    (termed_goes more (ts ++ t ∷ []) k qs end past nor (subst (λ v. GoesOn (k v) qs end) (sym (append_assoc ts (t ∷ []) more)) g)))

terms_goes : (ts : List Term) (k : List Term → RuleState) (qs : List RulePiece) (end : RuleState) → ts ≢ [] → Past Comma qs → NoOperator qs → GoesOn (k ts) qs end
    → GoesOn (terms k) (each term_then ts qs) end
terms_goes [] k qs end some past nor g = absurd (some refl)
terms_goes (t ∷ more) k qs end some past nor g =
    term_goes t (λ x. termed (x ∷ []) k) (each_more term_then more qs) end (more_no_operator term_then more qs nor) (termed_goes more (t ∷ []) k qs end past nor g)

pick_goes : (p : Pick) (k : Pick → RuleState) (qs : List RulePiece) (end : RuleState) → NoOperator qs → GoesOn (k p) qs end → GoesOn (pick k) (pick_then p qs) end
unfolding pick
pick_goes p k qs end nor g = by p.what (related_goes p.relation p.right (λ o right. k (record { what = p.what; relation = o; right = right })) qs end nor g)
  where
    by : (w : What) → GoesOn (relation (λ o. term (λ right. k (record { what = w; relation = o; right = right })))) (relation_pieces p.relation ++ term_then p.right qs) end
        → GoesOn (pick k) (what_pieces w ++ (relation_pieces p.relation ++ term_then p.right qs)) end
    by (row_state at) g = word_goes at g
    by (Field n) g = take_past refl (take_goes n tt g)

picked_over : (ps : List Pick) (k : List Pick → RuleState) (qs : List RulePiece) (end : RuleState) → Past Comma qs → GoesOn (k ps) qs end → GoesOn (picked ps k) qs end
picked_over ps k [] end past g = absurd past
picked_over ps k (q ∷ qs) end past (onward {next = next} g more) = onward {next = next} (inr (past, g)) more

picked_goes : (more ps : List Pick) (k : List Pick → RuleState) (qs : List RulePiece) (end : RuleState) → Past Comma qs → NoOperator qs → GoesOn (k (ps ++ more)) qs end
    → GoesOn (picked ps k) (each_more pick_then more qs) end
picked_goes [] ps k qs end past nor g = picked_over ps k qs end past (subst (λ v. GoesOn (k v) qs end) (append-nil ps) g)
picked_goes (p ∷ more) ps k qs end past nor g =
    onward {next = pick (λ x. picked (ps ++ x ∷ []) k)} (inl (refl, refl))
    (pick_goes p (λ x. picked (ps ++ x ∷ []) k) (each_more pick_then more qs) end (more_no_operator pick_then more qs nor)
    (picked_goes more (ps ++ p ∷ []) k qs end past nor (subst (λ v. GoesOn (k v) qs end) (sym (append_assoc ps (p ∷ []) more)) g)))

picks_goes : (ps : List Pick) (k : List Pick → RuleState) (qs : List RulePiece) (end : RuleState) → ps ≢ [] → Past Comma qs → NoOperator qs → GoesOn (k ps) qs end
    → GoesOn (picks k) (each pick_then ps qs) end
unfolding picks
picks_goes [] k qs end some past nor g = absurd (some refl)
picks_goes (p ∷ more) k qs end some past nor g =
    pick_goes p (λ x. picked (x ∷ []) k) (each_more pick_then more qs) end (more_no_operator pick_then more qs nor) (picked_goes more (p ∷ []) k qs end past nor g)

-- ---- tests

rows_goes : (rows : RowTest) (k : RowTest → RuleState) (other : RuleState) (qs : List RulePiece) (end : RuleState) → rows.picks ≢ [] → Past Comma qs → NoOperator qs → GoesOn (k rows) qs end
    → GoesOn (rows_or k other) (rows_then rows qs) end
unfolding rows_or rows_rest
rows_goes rows k other qs end some past nor g = by rows.some (picks_goes rows.picks (λ ps. k (record { at = rows.at; some = rows.some; picks = ps })) qs end some past nor g)
  where
    by : (b : Bool) → GoesOn (picks (λ ps. k (record { at = rows.at; some = b; picks = ps }))) (each pick_then rows.picks qs) end
        → GoesOn (rows_or k other) (word_at (if b then SomeRow else NoRow) rows.at ∷ word Row ∷ word Where ∷ each pick_then rows.picks qs) end
    by true g = word_goes rows.at (fork_goes (fork_goes g))
    by false g = take_past refl (word_goes rows.at (fork_goes (fork_goes g)))

-- a test before which something could be asked of the rows
next_test : (t : Test) (before : List Test) (k : Tests → RuleState) (qs : List RulePiece) (end : RuleState) → NoOperator qs → GoesOn (tested (before ++ t ∷ []) k) qs end
    → GoesOn (tests_from before k) (test_then t qs) end
unfolding tests_from rows_or
next_test t before k qs end nor g =
    take_over (test_then t qs) (operand_past SomeRow refl refl refl t.left.first (more_then t.left.more (relation_pieces t.relation ++ term_then t.right qs)))
    (take_over (test_then t qs) (operand_past NoRow refl refl refl t.left.first (more_then t.left.more (relation_pieces t.relation ++ term_then t.right qs)))
    (test_goes t (λ x. tested (before ++ x ∷ []) k) qs end nor g))

tested_over : (ts : List Test) (k : Tests → RuleState) (qs : List RulePiece) (end : RuleState) → Past Comma qs → GoesOn (k (record { tests = ts; rows = None })) qs end
    → GoesOn (tested ts k) qs end
tested_over ts k [] end past g = absurd past
tested_over ts k (q ∷ qs) end past (onward {next = next} g more) = onward {next = next} (inr (past, g)) more

tested_goes : (more ts : List Test) (k : Tests → RuleState) (qs : List RulePiece) (end : RuleState) → Past Comma qs → NoOperator qs
    → GoesOn (k (record { tests = ts ++ more; rows = None })) qs end → GoesOn (tested ts k) (each_more test_then more qs) end
tested_goes [] ts k qs end past nor g = tested_over ts k qs end past (subst (λ v. GoesOn (k (record { tests = v; rows = None })) qs end) (append-nil ts) g)
tested_goes (t ∷ more) ts k qs end past nor g =
    onward {next = tests_from ts k} (inl (refl, refl))
    (next_test t ts k (each_more test_then more qs) end (more_no_operator test_then more qs nor)
    (tested_goes more (ts ++ t ∷ []) k qs end past nor
    (subst (λ v. GoesOn (k (record { tests = v; rows = None })) qs end) (sym (append_assoc ts (t ∷ []) more)) g)))

-- tests, of which the last is what is asked of the rows
asked_goes : (more ts : List Test) (rows : RowTest) (k : Tests → RuleState) (qs : List RulePiece) (end : RuleState) → rows.picks ≢ [] → Past Comma qs → NoOperator qs
    → GoesOn (k (record { tests = ts ++ more; rows = Some rows })) qs end → GoesOn (tested ts k) (each_more test_then more (fixed Comma ∷ rows_then rows qs)) end
unfolding tests_from
asked_goes [] ts rows k qs end some past nor g =
    onward {next = tests_from ts k} (inl (refl, refl))
    (rows_goes rows (λ x. k (record { tests = ts; rows = Some x })) (one_test (λ t. tested (ts ++ t ∷ []) k)) qs end some past nor
    (subst (λ v. GoesOn (k (record { tests = v; rows = Some rows })) qs end) (append-nil ts) g))
asked_goes (t ∷ more) ts rows k qs end some past nor g =
    onward {next = tests_from ts k} (inl (refl, refl))
    (next_test t ts k (each_more test_then more (fixed Comma ∷ rows_then rows qs)) end (more_no_operator test_then more (fixed Comma ∷ rows_then rows qs) (refl, refl, refl, refl))
    (asked_goes more (ts ++ t ∷ []) rows k qs end some past nor
    (subst (λ v. GoesOn (k (record { tests = v; rows = Some rows })) qs end) (sym (append_assoc ts (t ∷ []) more)) g)))

tests_go : (ts : List Test) (rows : Option RowTest) (k : Tests → RuleState) (qs : List RulePiece) (end : RuleState) → HasTests (record { tests = ts; rows = rows })
    → Past Comma qs → NoOperator qs → GoesOn (k (record { tests = ts; rows = rows })) qs end → GoesOn (tests k) (tests_of ts rows qs) end
unfolding tests_from
tests_go [] None k qs end some past nor g = absurd (some refl)
tests_go (t ∷ more) None k qs end some past nor g =
    next_test t [] k (each_more test_then more qs) end (more_no_operator test_then more qs nor) (tested_goes more (t ∷ []) k qs end past nor g)
tests_go [] (Some rows) k qs end some past nor g =
    rows_goes rows (λ x. k (record { tests = []; rows = Some x })) (one_test (λ t. tested (t ∷ []) k)) qs end some past nor g
tests_go (t ∷ more) (Some rows) k qs end some past nor g =
    next_test t [] k (each_more test_then more (fixed Comma ∷ rows_then rows qs)) end (more_no_operator test_then more (fixed Comma ∷ rows_then rows qs) (refl, refl, refl, refl))
    (asked_goes more (t ∷ []) rows k qs end some past nor g)

-- ---- rules

if_rest_goes : (when : Tests) (k : Tests → RuleState) (qs : List RulePiece) (end : RuleState) → HasTests when → GoesOn (k when) qs end
    → GoesOn (if_rest k) (tests_then when (fixed Semicolon ∷ qs)) end
if_rest_goes when k qs end some g =
    tests_go when.tests when.rows (λ w. due Semicolon (k w)) (fixed Semicolon ∷ qs) end some refl (refl, refl, refl, refl) (fork_goes g)

else_rest_goes : (code : Spelling) (k : Spelling → RuleState) (qs : List RulePiece) (end : RuleState) → GoesOn (k code) qs end
    → GoesOn (else_rest k) (word Else ∷ name code ∷ fixed Semicolon ∷ qs) end
else_rest_goes code k qs end g = fork_goes (take_goes code tt (fork_goes g))

given_goes : (go : Rule → RuleState) (at : ℕ) (t : Term) (ts : List Test) (rows : Option RowTest) (qs : List RulePiece) (end : RuleState)
    → IsRule (Give at t (record { tests = ts; rows = rows })) → GoesOn (go (Give at t (record { tests = ts; rows = rows }))) qs end
    → GoesOn (given go at t) (if_of ts rows (fixed Semicolon ∷ qs)) end
unfolding given
given_goes go at t [] None qs end is g = fork_past refl (fork_goes g)
given_goes go at t (x ∷ ts) None qs end is g =
    fork_goes (if_rest_goes (record { tests = x ∷ ts; rows = None }) (λ when. go (Give at t when)) qs end (λ e. cc) g)
given_goes go at t [] (Some rows) qs end is g =
    fork_goes (if_rest_goes (record { tests = []; rows = Some rows }) (λ when. go (Give at t when)) qs end is g)
given_goes go at t (x ∷ ts) (Some rows) qs end is g =
    fork_goes (if_rest_goes (record { tests = x ∷ ts; rows = Some rows }) (λ when. go (Give at t when)) qs end is g)

-- what follows a number that is given is no operator
given_no_operator : (ts : List Test) (rows : Option RowTest) (qs : List RulePiece) → NoOperator (if_of ts rows (fixed Semicolon ∷ qs))
given_no_operator [] None qs = (refl, refl, refl, refl)
given_no_operator (x ∷ ts) None qs = (refl, refl, refl, refl)
given_no_operator [] (Some rows) qs = (refl, refl, refl, refl)
given_no_operator (x ∷ ts) (Some rows) qs = (refl, refl, refl, refl)

-- numbers by which a row is the least, and what follows them
least_goes : (go : Rule → RuleState) (at : ℕ) (terms : List Term) (ps : List Pick) (code : Spelling) (qs : List RulePiece) (end : RuleState)
    → GoesOn (go (GiveFirst at terms ps code)) qs end → GoesOn (least_of go at terms) (where_then ps (word Else ∷ name code ∷ fixed Semicolon ∷ qs)) end
unfolding least_of
least_goes go at terms [] code qs end g = fork_past refl (else_rest_goes code (λ c. go (GiveFirst at terms [] c)) qs end g)
least_goes go at terms (p ∷ ps) code qs end g =
    fork_goes (picks_goes (p ∷ ps) (λ ps. else_rest (λ c. go (GiveFirst at terms ps c))) (word Else ∷ name code ∷ fixed Semicolon ∷ qs) end (λ e. cc) refl (refl, refl, refl, refl)
    (else_rest_goes code (λ c. go (GiveFirst at terms (p ∷ ps) c)) qs end g))

where_past : (ps : List Pick) (qs : List RulePiece) → Past Comma (where_then ps (word Else ∷ qs)) × NoOperator (where_then ps (word Else ∷ qs))
where_past [] qs = (refl, (refl, refl, refl, refl))
where_past (p ∷ ps) qs = (refl, (refl, refl, refl, refl))

rule_goes : (x : Rule) (rules : List Rule) (qs : List RulePiece) (end : RuleState) → IsRule x → GoesOn (with_rule rules x) qs end → GoesOn (ruled rules) (rule_then x qs) end
unfolding refuse_rest wait_rest give_rest row_rest first_rest
rule_goes (Refuse at code when) rules qs end is g =
    onward (inl (at, refl, refl)) (take_goes code tt (fork_goes (if_rest_goes when (λ w. with_rule rules (Refuse at code w)) qs end is g)))
rule_goes (Wait at when) rules qs end is g =
    onward (inr (inl (at, refl, refl))) (fork_goes (if_rest_goes when (λ w. with_rule rules (Wait at w)) qs end is g))
rule_goes (Give at t when) rules qs end is g =
    let behind = if_of when.tests when.rows (fixed Semicolon ∷ qs) in
    onward (inr (inr (at, refl, refl)))
    (fork_over (term_then t behind) (operand_past Row refl refl refl t.first (more_then t.more behind))
    (fork_over (term_then t behind) (operand_past First refl refl refl t.first (more_then t.more behind))
    (term_goes t (given (with_rule rules) at) behind end (given_no_operator when.tests when.rows qs) (given_goes (with_rule rules) at t when.tests when.rows qs end is g))))
rule_goes (GiveRow at ps code) rules qs end is g =
    onward (inr (inr (at, refl, refl))) (fork_goes (fork_goes
    (picks_goes ps (λ ps. else_rest (λ c. with_rule rules (GiveRow at ps c))) (word Else ∷ name code ∷ fixed Semicolon ∷ qs) end is refl (refl, refl, refl, refl)
    (else_rest_goes code (λ c. with_rule rules (GiveRow at ps c)) qs end g))))
rule_goes (GiveFirst at ts ps code) rules qs end is g =
    let behind = where_then ps (word Else ∷ name code ∷ fixed Semicolon ∷ qs) in
    let past = where_past ps (name code ∷ fixed Semicolon ∷ qs) in
    onward (inr (inr (at, refl, refl))) (fork_past refl (fork_goes
    (terms_goes ts (least_of (with_rule rules) at) behind end is past.0 past.1 (least_goes (with_rule rules) at ts ps code qs end g))))

-- whole rules, from rules on
pub rules_go : (more rules : List Rule) → All IsRule more → GoesOn (ruled rules) (rules_then more []) (ruled (rules ++ more))
rules_go [] rules each = subst (λ v. GoesOn (ruled rules) [] (ruled v)) (sym (append-nil rules)) there
rules_go (x ∷ more) rules each =
    rule_goes x rules (rules_then more []) (ruled (rules ++ x ∷ more)) (All-head IsRule x more each)
    (subst (λ v. GoesOn (ruled (rules ++ x ∷ [])) (rules_then more []) (ruled v)) (append_assoc rules (x ∷ []) more)
    (rules_go more (rules ++ x ∷ []) (All-tail IsRule x more each)))
