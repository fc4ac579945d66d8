-- What has been read by a state: each piece that leads on adds to it.
use Rattle.std.proofs.Common.{◌≡◌, ◌≢◌, ℕ, inl, inr, Bool, true, false, List, [], ◌∷◌, ◌++◌, refl, sym, subst, ◌∙◌, append_assoc, append-nil}
use Rattle.std.specs.Prelude.{None, Some, All}
use Rattle.std.specs.declared.option.Option.{Option}
use Rattle.std.proofs.lemmas.List.Elements.{All-push}
use Rattle.sg_lex.specs.Lexeme.{Spelling}
use Rattle.sg_rules.specs.declared.words.Keyword.TheVariants.{Refuse as refuse_word, Wait as wait_word, Give as give_word, If, Is as is_word, Row, Where, Else, First, SomeRow, NoRow}
use Rattle.sg_rules.specs.declared.words.Fixed.TheVariants.{Comma, Semicolon}
use Rattle.sg_rules.specs.declared.tree.Operand.{Operand}
use Rattle.sg_rules.specs.declared.tree.Operand.TheVariants.{Number, Caller, State, Argument, GreatestOf, Named}
use Rattle.sg_rules.specs.declared.tree.Operator.{Operator}
use Rattle.sg_rules.specs.declared.tree.Operator.TheVariants.{Plus, Minus, Least, Greatest}
use Rattle.sg_rules.specs.declared.tree.Relation.{Relation}
use Rattle.sg_rules.specs.declared.tree.Relation.TheVariants.{Is, IsNot, Below, Above}
use Rattle.sg_rules.specs.declared.tree.Term.{Term}
use Rattle.sg_rules.specs.declared.tree.Test.{Test}
use Rattle.sg_rules.specs.declared.tree.Tests.{Tests}
use Rattle.sg_rules.specs.declared.tree.RowTest.{RowTest}
use Rattle.sg_rules.specs.declared.tree.Pick.{Pick}
use Rattle.sg_rules.specs.declared.tree.What.{What}
use Rattle.sg_rules.specs.declared.tree.What.TheVariants.{State as row_state, Field}
use Rattle.sg_rules.specs.declared.tree.Rule.{Rule}
use Rattle.sg_rules.specs.declared.tree.Rule.TheVariants.{Refuse, Wait, Give, GiveRow, GiveFirst}
use Rattle.sg_rules.specs.Grammar.Pieces.{RulePiece, fixed, word, word_at, name}
use Rattle.sg_rules.specs.Grammar.Sentence.{operand_pieces, operator_word, relation_pieces, what_pieces, HasTests, IsRule}
use Rattle.sg_rules.specs.Grammar.Inside.States.{RuleState, ended, fork, take, termed, picked, tested, ruled, operand, after_first, term, relation, one_test, pick, picks, rows_rest, rows_or, tests_from, tests, if_rest, else_rest, refuse_rest, wait_rest, no_tests, given, row_rest, terms, least_of, first_rest, give_rest, due, with_rule}
use Rattle.sg_rules.proofs.Grammar.Basics.{apart, spelt}
use Rattle.sg_rules.proofs.Grammar.Steps.{Goes, Begins}
use Rattle.sg_rules.proofs.Grammar.Thens.{each, each_more, term_then, test_then, pick_then, rows_then, tests_of, tests_then, rule_then, rules_then, rules_snoc}

-- the state begins with a word or a mark that is no comma
abbrev pub Opens : RuleState → Type 0
Opens (ended rules) = ⊥
Opens (fork p s other) = apart Comma (fixed p) ≡ true
Opens (take w k other) = ⊥
Opens (termed ts k) = ⊥
Opens (picked ps k) = ⊥
Opens (tested ts k) = ⊥
Opens (ruled rules) = ⊥

-- with what the state wants, and whatever follows, the pieces are those of the rules; or, where it may be, nothing may come
abbrev pub HasRead : Bool → RuleState → (List RulePiece → List RulePiece) → Type 0
HasRead may (ended rules) f = (may ≡ true) × (rules ≡ [])
HasRead may (fork p s other) f = HasRead false s (λ r. f (fixed p ∷ r)) × HasRead true other f
HasRead may (take w k other) f = ((n : Spelling) → HasRead false (k n) (λ r. f (spelt w n ∷ r))) × HasRead true other f
HasRead may (termed ts k) f = ((more : List Term) → HasRead false (k (ts ++ more)) (λ r. f (each_more term_then more r))) × ((all : List Term) → Opens (k all))
HasRead may (picked ps k) f = ((more : List Pick) → HasRead false (k (ps ++ more)) (λ r. f (each_more pick_then more r))) × ((all : List Pick) → Opens (k all))
HasRead may (tested ts k) f =
    ((more : List Test) → HasRead false (k (record { tests = ts ++ more; rows = None })) (λ r. f (each_more test_then more r)))
    × ((more : List Test) (rows : RowTest) → rows.picks ≢ []
    → HasRead false (k (record { tests = ts ++ more; rows = Some rows })) (λ r. f (each_more test_then more (fixed Comma ∷ rows_then rows r))))
    × ((when : Tests) → Opens (k when))
HasRead may (ruled rules) f = ((r : List RulePiece) → f r ≡ rules_then rules r) × All IsRule rules

pub weaker : (s : RuleState) (f : List RulePiece → List RulePiece) → HasRead false s f → HasRead true s f
weaker (ended rules) f h = absurd (let e : false ≡ true = h.0 in cc)
weaker (fork p s other) f h = h
weaker (take w k other) f h = h
weaker (termed ts k) f h = h
weaker (picked ps k) f h = h
weaker (tested ts k) f h = h
weaker (ruled rules) f h = h

full : {X : Type 0} (x : X) (xs : List X) → x ∷ xs ≢ []
full x xs e = cc

-- ---- the states before the parts of a rule

operand_read : (may : Bool) (k : Operand → RuleState) (f : List RulePiece → List RulePiece) → ((o : Operand) → HasRead false (k o) (λ r. f (operand_pieces o ++ r)))
    → HasRead may (operand k) f
operand_read may k f h = (
  λ n. h (Number n),
  (
    λ n. h (Caller n.at),
    (
      λ n. h (State n.at),
      ((λ n. h (Argument n), (refl, refl)), ((λ n. h (GreatestOf n), (refl, refl)), (λ n. h (Named n), (refl, refl)))),
    ),
  ),
)

term_read : (may : Bool) (k : Term → RuleState) (f : List RulePiece → List RulePiece) → ((t : Term) → HasRead false (k t) (λ r. f (term_then t r)))
    → HasRead may (term k) f
unfolding term
term_read may k f h = operand_read may (after_first k) f (λ first. (more first Plus, (more first Minus, (more first Least, (more first Greatest, alone first)))))
  where
    more : (first : Operand) (o : Operator)
        → HasRead false (operand (λ second. k (record { first = first; more = Some (o, second) }))) (λ r. f (operand_pieces first ++ word (operator_word o) ∷ r))
    more first o =
        operand_read false (λ second. k (record { first = first; more = Some (o, second) })) (λ r. f (operand_pieces first ++ word (operator_word o) ∷ r))
        (λ second. h (record { first = first; more = Some (o, second) }))

    alone : (first : Operand) → HasRead true (k (record { first = first; more = None })) (λ r. f (operand_pieces first ++ r))
    alone first = weaker (k (record { first = first; more = None })) (λ r. f (operand_pieces first ++ r)) (h (record { first = first; more = None }))

relation_read : (may : Bool) (k : Relation → RuleState) (f : List RulePiece → List RulePiece) → ((o : Relation) → HasRead false (k o) (λ r. f (relation_pieces o ++ r)))
    → HasRead may (relation k) f
unfolding relation
relation_read may k f h =
    ((h IsNot, weaker (k Is) (λ r. f (word is_word ∷ r)) (h Is)), (h Below, (h Above, (refl, refl))))

-- a relation and a number
related_read : (k : Relation → Term → RuleState) (f : List RulePiece → List RulePiece)
    → ((o : Relation) (right : Term) → HasRead false (k o right) (λ r. f (relation_pieces o ++ term_then right r)))
    → HasRead false (relation (λ o. term (k o))) f
related_read k f h = relation_read false (λ o. term (k o)) f (λ o. term_read false (k o) (λ r. f (relation_pieces o ++ r)) (λ right. h o right))

test_read : (may : Bool) (k : Test → RuleState) (f : List RulePiece → List RulePiece) → ((t : Test) → HasRead false (k t) (λ r. f (test_then t r)))
    → HasRead may (one_test k) f
unfolding one_test
test_read may k f h =
    term_read may (λ left. relation (λ o. term (λ right. k (record { left = left; relation = o; right = right })))) f
    (λ left. related_read (λ o right. k (record { left = left; relation = o; right = right })) (λ r. f (term_then left r))
    (λ o right. h (record { left = left; relation = o; right = right })))

pick_read : (may : Bool) (k : Pick → RuleState) (f : List RulePiece → List RulePiece) → ((p : Pick) → HasRead false (k p) (λ r. f (pick_then p r)))
    → HasRead may (pick k) f
unfolding pick
pick_read may k f h = (λ n. asked (row_state n.at), (λ n. asked (Field n), (refl, refl)))
  where
    asked : (w : What) → HasRead false (relation (λ o. term (λ right. k (record { what = w; relation = o; right = right })))) (λ r. f (what_pieces w ++ r))
    asked w =
        related_read (λ o right. k (record { what = w; relation = o; right = right })) (λ r. f (what_pieces w ++ r))
        (λ o right. h (record { what = w; relation = o; right = right }))

picks_read : (may : Bool) (k : List Pick → RuleState) (f : List RulePiece → List RulePiece)
    → ((ps : List Pick) → ps ≢ [] → HasRead false (k ps) (λ r. f (each pick_then ps r))) → ((ps : List Pick) → Opens (k ps)) → HasRead may (picks k) f
unfolding picks
picks_read may k f h opens = pick_read may (λ p. picked (p ∷ []) k) f (λ p. (λ more. h (p ∷ more) (full p more), opens))

terms_read : (may : Bool) (k : List Term → RuleState) (f : List RulePiece → List RulePiece)
    → ((ts : List Term) → ts ≢ [] → HasRead false (k ts) (λ r. f (each term_then ts r))) → ((ts : List Term) → Opens (k ts)) → HasRead may (terms k) f
terms_read may k f h opens = term_read may (λ t. termed (t ∷ []) k) f (λ t. (λ more. h (t ∷ more) (full t more), opens))

-- ---- the states before tests

rows_rest_read : (k : RowTest → RuleState) (some : Bool) (at : ℕ) (f : List RulePiece → List RulePiece)
    → ((ps : List Pick) → ps ≢ [] → HasRead false (k (record { at = at; some = some; picks = ps })) (λ r. f (word Row ∷ word Where ∷ each pick_then ps r)))
    → ((rows : RowTest) → Opens (k rows)) → HasRead false (rows_rest k some at) f
unfolding rows_rest
rows_rest_read k some at f h opens = (
  (
    picks_read false (λ ps. k (record { at = at; some = some; picks = ps })) (λ r. f (word Row ∷ word Where ∷ r)) h (λ ps. opens (record { at = at; some = some; picks = ps })),
    (refl, refl),
  ),
  (refl, refl),
)

rows_or_read : (may : Bool) (k : RowTest → RuleState) (other : RuleState) (f : List RulePiece → List RulePiece)
    → ((rows : RowTest) → rows.picks ≢ [] → HasRead false (k rows) (λ r. f (rows_then rows r)))
    → ((rows : RowTest) → Opens (k rows)) → HasRead true other f → HasRead may (rows_or k other) f
unfolding rows_or
rows_or_read may k other f h opens g = (
  λ n. rows_rest_read k true n.at (λ r. f (word_at SomeRow n.at ∷ r)) (λ ps some. h (record { at = n.at; some = true; picks = ps }) some) opens,
  (λ n. rows_rest_read k false n.at (λ r. f (word_at NoRow n.at ∷ r)) (λ ps some. h (record { at = n.at; some = false; picks = ps }) some) opens, g),
)

-- what is to be read after these tests
record AfterTests (before : List Test) (k : Tests → RuleState) (f : List RulePiece → List RulePiece) : Type 0 where
  further : (t : Test) (more : List Test) → HasRead false (k (record { tests = before ++ t ∷ more; rows = None })) (λ r. f (test_then t (each_more test_then more r)))
  last : (t : Test) (more : List Test) (rows : RowTest) → rows.picks ≢ []
      → HasRead false (k (record { tests = before ++ t ∷ more; rows = Some rows })) (λ r. f (test_then t (each_more test_then more (fixed Comma ∷ rows_then rows r))))
  now : (rows : RowTest) → rows.picks ≢ [] → HasRead false (k (record { tests = before; rows = Some rows })) (λ r. f (rows_then rows r))
  opens : (when : Tests) → Opens (k when)

tests_from_read : (may : Bool) (before : List Test) (k : Tests → RuleState) (f : List RulePiece → List RulePiece) → AfterTests before k f → HasRead may (tests_from before k) f
unfolding tests_from
tests_from_read may before k f a =
    rows_or_read may (λ rows. k (record { tests = before; rows = Some rows })) (one_test (λ t. tested (before ++ t ∷ []) k)) f
    a.now (λ rows. a.opens (record { tests = before; rows = Some rows }))
    (test_read true (λ t. tested (before ++ t ∷ []) k) f
    (λ t. (
      λ more. subst (λ v. HasRead false (k (record { tests = v; rows = None })) (λ r. f (test_then t (each_more test_then more r)))) (sym (append_assoc before (t ∷ []) more))
          (a.further t more),
      λ more rows some. subst (λ v. HasRead false (k (record { tests = v; rows = Some rows })) (λ r. f (test_then t (each_more test_then more (fixed Comma ∷ rows_then rows r)))))
          (sym (append_assoc before (t ∷ []) more)) (a.last t more rows some),
      a.opens,
    )))

tests_read : (may : Bool) (k : Tests → RuleState) (f : List RulePiece → List RulePiece)
    → ((when : Tests) → HasTests when → HasRead false (k when) (λ r. f (tests_then when r))) → ((when : Tests) → Opens (k when)) → HasRead may (tests k) f
tests_read may k f h opens = tests_from_read may [] k f (record {
  further = λ t more. h (record { tests = t ∷ more; rows = None }) (full t more);
  last = λ t more rows some. h (record { tests = t ∷ more; rows = Some rows }) some;
  now = λ rows some. h (record { tests = []; rows = Some rows }) some;
  opens = opens;
})

-- ---- the states in rules

if_rest_read : (may : Bool) (k : Tests → RuleState) (f : List RulePiece → List RulePiece)
    → ((when : Tests) → HasTests when → HasRead false (k when) (λ r. f (tests_then when (fixed Semicolon ∷ r)))) → HasRead may (if_rest k) f
if_rest_read may k f h = tests_read may (λ when. due Semicolon (k when)) f (λ when some. (h when some, (refl, refl))) (λ when. refl)

else_rest_read : (may : Bool) (k : Spelling → RuleState) (f : List RulePiece → List RulePiece)
    → ((code : Spelling) → HasRead false (k code) (λ r. f (word Else ∷ name code ∷ fixed Semicolon ∷ r))) → HasRead may (else_rest k) f
else_rest_read may k f h = ((λ code. (h code, (refl, refl)), (refl, refl)), (refl, refl))

-- before a rule after its first word, where the rule is to be read so
module _ (go : Rule → RuleState) (f : List RulePiece → List RulePiece) (h : (x : Rule) → IsRule x → HasRead false (go x) (λ r. f (rule_then x r))) where
  refuse_read : (at : ℕ) → HasRead false (refuse_rest go at) (λ r. f (word_at refuse_word at ∷ r))
  unfolding refuse_rest
  refuse_read at = (
    λ code. (if_rest_read false (λ when. go (Refuse at code when)) (λ r. f (word_at refuse_word at ∷ name code ∷ word If ∷ r)) (λ when some. h (Refuse at code when) some), (refl, refl)),
    (refl, refl),
  )

  wait_read : (at : ℕ) → HasRead false (wait_rest go at) (λ r. f (word_at wait_word at ∷ r))
  unfolding wait_rest
  wait_read at = (if_rest_read false (λ when. go (Wait at when)) (λ r. f (word_at wait_word at ∷ word If ∷ r)) (λ when some. h (Wait at when) some), (refl, refl))

  given_read : (at : ℕ) (t : Term) → HasRead false (given go at t) (λ r. f (word_at give_word at ∷ term_then t r))
  unfolding given
  given_read at t = (
    if_rest_read false (λ when. go (Give at t when)) (λ r. f (word_at give_word at ∷ term_then t (word If ∷ r))) (λ when some. by when.tests when.rows some),
    (h (Give at t no_tests) tt, (refl, refl)),
  )
    where
      by : (ts : List Test) (rows : Option RowTest) → HasTests (record { tests = ts; rows = rows })
          → HasRead false (go (Give at t (record { tests = ts; rows = rows }))) (λ r. f (word_at give_word at ∷ term_then t (word If ∷ tests_of ts rows (fixed Semicolon ∷ r))))
      by [] None some = absurd (some refl)
      by (x ∷ ts) None some = h (Give at t (record { tests = x ∷ ts; rows = None })) tt
      by [] (Some rows) some = h (Give at t (record { tests = []; rows = Some rows })) some
      by (x ∷ ts) (Some rows) some = h (Give at t (record { tests = x ∷ ts; rows = Some rows })) some

  row_read : (at : ℕ) → HasRead false (row_rest go at) (λ r. f (word_at give_word at ∷ word Row ∷ r))
  unfolding row_rest
  row_read at = (
    picks_read false (λ ps. else_rest (λ code. go (GiveRow at ps code))) (λ r. f (word_at give_word at ∷ word Row ∷ word Where ∷ r))
        (λ ps some. else_rest_read false (λ code. go (GiveRow at ps code)) (λ r. f (word_at give_word at ∷ word Row ∷ word Where ∷ each pick_then ps r)) (λ code. h (GiveRow at ps code) some))
        (λ ps. refl),
    (refl, refl),
  )

  first_read : (at : ℕ) → HasRead false (first_rest go at) (λ r. f (word_at give_word at ∷ word First ∷ r))
  unfolding first_rest least_of
  first_read at =
      terms_read false (least_of go at) (λ r. f (word_at give_word at ∷ word First ∷ r))
      (λ ts some. (
        picks_read false (λ ps. else_rest (λ code. go (GiveFirst at ts ps code))) (λ r. f (word_at give_word at ∷ word First ∷ each term_then ts (word Where ∷ r)))
            (λ ps any. else_rest_read false (λ code. go (GiveFirst at ts ps code)) (λ r. f (word_at give_word at ∷ word First ∷ each term_then ts (word Where ∷ each pick_then ps r)))
            (λ code. by ts some ps any code))
            (λ ps. refl),
        else_rest_read true (λ code. go (GiveFirst at ts [] code)) (λ r. f (word_at give_word at ∷ word First ∷ each term_then ts r)) (λ code. h (GiveFirst at ts [] code) some),
      ))
      (λ ts. refl)
    where
      by : (ts : List Term) → ts ≢ [] → (ps : List Pick) → ps ≢ [] → (code : Spelling)
          → HasRead false (go (GiveFirst at ts ps code)) (λ r. f (word_at give_word at ∷ word First ∷ each term_then ts (word Where ∷ each pick_then ps (word Else ∷ name code ∷ fixed Semicolon ∷ r))))
      by ts some [] any code = absurd (any refl)
      by ts some (p ∷ ps) any code = h (GiveFirst at ts (p ∷ ps) code) some

  give_read : (at : ℕ) → HasRead false (give_rest go at) (λ r. f (word_at give_word at ∷ r))
  unfolding give_rest
  give_read at = (row_read at, (first_read at, term_read true (given go at) (λ r. f (word_at give_word at ∷ r)) (λ t. given_read at t)))

-- ---- one piece more

-- a state and a piece that are these
moved : (s next : RuleState) (f : List RulePiece → List RulePiece) (p q : RulePiece) → q ≡ p → s ≡ next → HasRead false s (λ r. f (p ∷ r)) → HasRead false next (λ r. f (q ∷ r))
moved s next f p q e g h = subst (λ v. HasRead false v (λ r. f (q ∷ r))) g (subst (λ v. HasRead false s (λ r. f (v ∷ r))) (sym e) h)

-- the rules with one more
rule_more : (rules : List Rule) (f : List RulePiece → List RulePiece) → ((r : List RulePiece) → f r ≡ rules_then rules r) → All IsRule rules
    → (x : Rule) → IsRule x → HasRead false (with_rule rules x) (λ r. f (rule_then x r))
rule_more rules f h each x is = (λ r. h (rule_then x r) ∙ sym (rules_snoc rules x r), All-push IsRule rules x each is)

first_grown : (rules : List Rule) (f : List RulePiece → List RulePiece) (q : RulePiece) (next : RuleState) → ((r : List RulePiece) → f r ≡ rules_then rules r) → All IsRule rules
    → Begins (with_rule rules) q next → HasRead false next (λ r. f (q ∷ r))
first_grown rules f q next h each (inl g) = moved _ next f (word_at refuse_word g.0) q g.1 g.2 (refuse_read (with_rule rules) f (rule_more rules f h each) g.0)
first_grown rules f q next h each (inr (inl g)) = moved _ next f (word_at wait_word g.0) q g.1 g.2 (wait_read (with_rule rules) f (rule_more rules f h each) g.0)
first_grown rules f q next h each (inr (inr g)) = moved _ next f (word_at give_word g.0) q g.1 g.2 (give_read (with_rule rules) f (rule_more rules f h each) g.0)

pub grown : (may : Bool) (s : RuleState) (f : List RulePiece → List RulePiece) (q : RulePiece) (next : RuleState) → HasRead may s f → Goes s q next → HasRead false next (λ r. f (q ∷ r))
grown may (ended rules) f q next h g = absurd g
grown may (fork p s other) f q next h (inl g) = moved s next f (fixed p) q g.0 g.1 h.0
grown may (fork p s other) f q next h (inr g) = grown true other f q next h.1 g.1
grown may (take w k other) f q next h (inl g) = moved (k g.0) next f (spelt w g.0) q g.1 g.3 (h.0 g.0)
grown may (take w k other) f q next h (inr g) = grown true other f q next h.1 g.1
grown may (termed ts k) f q next h (inl g) =
    moved (term (λ t. termed (ts ++ t ∷ []) k)) next f (fixed Comma) q g.0 g.1
    (term_read false (λ t. termed (ts ++ t ∷ []) k) (λ r. f (fixed Comma ∷ r))
    (λ t. (λ more. subst (λ v. HasRead false (k v) (λ r. f (fixed Comma ∷ term_then t (each_more term_then more r)))) (sym (append_assoc ts (t ∷ []) more)) (h.0 (t ∷ more)), h.1)))
grown may (termed ts k) f q next h (inr g) = grown false (k ts) f q next (subst (λ v. HasRead false (k v) f) (append-nil ts) (h.0 [])) g.1
grown may (picked ps k) f q next h (inl g) =
    moved (pick (λ p. picked (ps ++ p ∷ []) k)) next f (fixed Comma) q g.0 g.1
    (pick_read false (λ p. picked (ps ++ p ∷ []) k) (λ r. f (fixed Comma ∷ r))
    (λ p. (λ more. subst (λ v. HasRead false (k v) (λ r. f (fixed Comma ∷ pick_then p (each_more pick_then more r)))) (sym (append_assoc ps (p ∷ []) more)) (h.0 (p ∷ more)), h.1)))
grown may (picked ps k) f q next h (inr g) = grown false (k ps) f q next (subst (λ v. HasRead false (k v) f) (append-nil ps) (h.0 [])) g.1
grown may (tested ts k) f q next h (inl g) =
    moved (tests_from ts k) next f (fixed Comma) q g.0 g.1
    (tests_from_read false ts k (λ r. f (fixed Comma ∷ r)) (record {
      further = λ t more. h.0 (t ∷ more);
      last = λ t more rows some. h.1 (t ∷ more) rows some;
      now = λ rows some. subst (λ v. HasRead false (k (record { tests = v; rows = Some rows })) (λ r. f (fixed Comma ∷ rows_then rows r))) (append-nil ts) (h.1 [] rows some);
      opens = h.2;
    }))
grown may (tested ts k) f q next h (inr g) =
    grown false (k (record { tests = ts; rows = None })) f q next (subst (λ v. HasRead false (k (record { tests = v; rows = None })) f) (append-nil ts) (h.0 [])) g.1
grown may (ruled rules) f q next h g = first_grown rules f q next h.0 h.1 g
