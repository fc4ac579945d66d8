-- Tokens that are like the pieces of rules are the pieces of rules that are equal but for places.
use Rattle.std.proofs.Common.{ℕ, ◌≡◌, ◌≢◌, List, [], ◌∷◌, ◌++◌, Option, None, Some, map, refl, sym, ap, ◌∙◌, subst, append_assoc}
use Rattle.std.specs.Prelude.{All, if◌then◌else◌}
use Rattle.std.specs.List.{flat_map}
use Rattle.std.specs.Option.{option_map}
use Rattle.std.proofs.lemmas.List.Elements.{All-head, All-tail, All-cons}
use Rattle.sg_parse.specs.sg_lex.Lexeme.{Lexeme, Spelling}
use Rattle.sg_parse.specs.sg_lex.Sentences.{ArePieces, separated}
use Rattle.sg_parse.specs.sg_rules.declared.words.Keyword.{Keyword}
use Rattle.sg_parse.specs.sg_rules.declared.words.Keyword.TheVariants.{Refuse as refuse_word, Wait as wait_word, Give as give_word, If, Is as is_word, Not, Below as below_word, Above as above_word, Greatest as greatest_word, Caller as caller_word, State as state_word, Row, Where, Else, First, SomeRow, NoRow}
use Rattle.sg_parse.specs.sg_rules.declared.words.Fixed.{Fixed}
use Rattle.sg_parse.specs.sg_rules.declared.words.Fixed.TheVariants.{Key, Comma, Semicolon, Dollar}
use Rattle.sg_parse.specs.sg_rules.declared.tree.Operand.{Operand}
use Rattle.sg_parse.specs.sg_rules.declared.tree.Operand.TheVariants.{Number, Caller, State, Argument, GreatestOf, Named}
use Rattle.sg_parse.specs.sg_rules.declared.tree.Operator.{Operator}
use Rattle.sg_parse.specs.sg_rules.declared.tree.Relation.{Relation}
use Rattle.sg_parse.specs.sg_rules.declared.tree.Relation.TheVariants.{Is, IsNot, Below, Above}
use Rattle.sg_parse.specs.sg_rules.declared.tree.Term.{Term}
use Rattle.sg_parse.specs.sg_rules.declared.tree.Test.{Test}
use Rattle.sg_parse.specs.sg_rules.declared.tree.Tests.{Tests}
use Rattle.sg_parse.specs.sg_rules.declared.tree.RowTest.{RowTest}
use Rattle.sg_parse.specs.sg_rules.declared.tree.Pick.{Pick}
use Rattle.sg_parse.specs.sg_rules.declared.tree.What.{What}
use Rattle.sg_parse.specs.sg_rules.declared.tree.What.TheVariants.{State as row_state, Field}
use Rattle.sg_parse.specs.sg_rules.declared.tree.Rule.{Rule}
use Rattle.sg_parse.specs.sg_rules.declared.tree.Rule.TheVariants.{Refuse, Wait, Give, GiveRow, GiveFirst}
use Rattle.sg_parse.specs.sg_rules.Grammar.Pieces.{RulePiece, fixed, word, word_at, name, number, IsRulePiece}
use Rattle.sg_parse.specs.sg_rules.Grammar.Sentence.{operand_pieces, operator_word, term_pieces, relation_pieces, test_pieces, what_pieces, pick_pieces, row_test_pieces, tests_pieces, if_pieces, where_pieces, rule_pieces, HasTests, IsRule}
use Rattle.sg_parse.specs.sg_rules.Grammar.Plain.{plain_name, plain_operand, plain_term, plain_test, plain_what, plain_pick, plain_rows, plain_tests, plain_rule}
use Rattle.sg_print.proofs.Leads.{IsRuleLike}

-- tokens are such pieces of rules, but for their places
abbrev pub AreRuleLike : List Lexeme → List RulePiece → Type 0
AreRuleLike [] [] = Unit {0}
AreRuleLike (t ∷ ts) (q ∷ qs) = IsRuleLike t q × AreRuleLike ts qs
AreRuleLike [] (q ∷ qs) = ⊥
AreRuleLike (t ∷ ts) [] = ⊥

-- tokens begin with what is like the pieces of a part: they begin with the pieces of an equal part, but for places
pub record Again {X : Type 0} (pieces_of : X → List RulePiece) (plain_of : X → X) (Good : X → Type 0) (x : X) (tokens : List Lexeme) (more : List RulePiece) : Type 0 where
  pub again : X
  pub behind : List Lexeme
  pub left : AreRuleLike behind more
  pub back : (qs : List RulePiece) → ArePieces IsRulePiece behind qs → ArePieces IsRulePiece tokens (pieces_of again ++ qs)
  pub same : plain_of again ≡ plain_of x
  pub kept : Good x → Good again

-- whatever follows, tokens that are like the pieces of a part and of what follows begin so
abbrev Reads : {X : Type 0} → (X → List RulePiece) → (X → X) → (X → Type 0) → X → Type 0
Reads pieces_of plain_of Good x =
    (more : List RulePiece) (tokens : List Lexeme) → AreRuleLike tokens (pieces_of x ++ more) → Again pieces_of plain_of Good x tokens more

abbrev Any : {X : Type 0} → X → Type 0
Any x = Unit {0}

-- ---- one piece

word_back : (keyword : Keyword) (at : ℕ) → Reads (λ at. word_at keyword at ∷ []) (λ at. 0) Any at
word_back keyword at more [] l = absurd l
word_back keyword at more (t ∷ ts) l = record { again = t.at; behind = ts; left = l.1; back = λ qs h. ((l.0.0, l.0.1, refl), h); same = refl; kept = λ h. h }

name_back : (n : Spelling) → Reads (λ n. name n ∷ []) plain_name Any n
name_back n more [] l = absurd l
name_back n more (t ∷ ts) l = record {
  again = record { bytes = n.bytes; at = t.at };
  behind = ts;
  left = l.1;
  back = λ qs h. ((l.0.0, l.0.1, refl, l.0.2), h);
  same = refl;
  kept = λ h. h;
}

number_back : (n : Spelling) → Reads (λ n. number n ∷ []) plain_name Any n
number_back n more [] l = absurd l
number_back n more (t ∷ ts) l = record {
  again = record { bytes = n.bytes; at = t.at };
  behind = ts;
  left = l.1;
  back = λ qs h. ((l.0.0, l.0.1, refl), h);
  same = refl;
  kept = λ h. h;
}

-- ---- parts one after another

-- a part and another behind it
then_back : {X Y : Type 0} {p : X → List RulePiece} {q : Y → List RulePiece} {f : X → X} {g : Y → Y} {Good : X → Type 0} {Fine : Y → Type 0} (x : X) (y : Y)
    → Reads p f Good x → Reads q g Fine y
    → Reads (λ (both : X × Y). p both.0 ++ q both.1) (λ both. (f both.0, g both.1)) (λ both. Good both.0 × Fine both.1) (x, y)
then_back {X = X} {Y = Y} {p = p} {q = q} {f = f} {g = g} x y first second more tokens l =
    let r = first (q y ++ more) tokens (subst (AreRuleLike tokens) (append_assoc (p x) (q y) more) l) in
    let s = second more r.behind r.left in
    record {
      again = (r.again, s.again);
      behind = s.behind;
      left = s.left;
      back = λ qs h. subst (ArePieces IsRulePiece tokens) (sym (append_assoc (p r.again) (q s.again) qs)) (r.back (q s.again ++ qs) (s.back qs h));
      same = pair (f r.again) (f x) (g s.again) (g y) r.same s.same;
      kept = λ h. (r.kept h.0, s.kept h.1);
    }
  where
    pair : (a b : X) (c d : Y) → a ≡ b → c ≡ d → (let v : X × Y = (a, c) in v) ≡ (b, d)
    pair a b c d e h = cc

-- a part that is made of others
made_back : {X Y : Type 0} {p : X → List RulePiece} {q : Y → List RulePiece} {f : X → X} {g : Y → Y} {Good : X → Type 0} {Fine : Y → Type 0} (make : X → Y) (x : X)
    → ((x : X) → q (make x) ≡ p x) → ((x : X) → g (make x) ≡ make (f x)) → ((other : X) → (Good x → Good other) → Fine (make x) → Fine (make other))
    → Reads p f Good x → Reads q g Fine (make x)
made_back {p = p} {f = f} make x pieces plain fine reads more tokens l =
    let r = reads more tokens (subst (λ v. AreRuleLike tokens (v ++ more)) (pieces x) l) in
    record {
      again = make r.again;
      behind = r.behind;
      left = r.left;
      back = λ qs h. subst (λ v. ArePieces IsRulePiece tokens (v ++ qs)) (sym (pieces r.again)) (r.back qs h);
      same = plain r.again ∙ ap make r.same ∙ sym (plain x);
      kept = fine r.again r.kept;
    }

-- words and marks alone
record Past (ps : List Fixed) (tokens : List Lexeme) (more : List RulePiece) : Type 0 where
  behind : List Lexeme
  left : AreRuleLike behind more
  back : (qs : List RulePiece) → ArePieces IsRulePiece behind qs → ArePieces IsRulePiece tokens (map fixed ps ++ qs)

fixes_back : (ps : List Fixed) (more : List RulePiece) (tokens : List Lexeme) → AreRuleLike tokens (map fixed ps ++ more) → Past ps tokens more
fixes_back [] more tokens l = record { behind = tokens; left = l; back = λ qs h. h }
fixes_back (p ∷ ps) more [] l = absurd l
fixes_back (p ∷ ps) more (t ∷ ts) l =
    let r = fixes_back ps more ts l.1 in
    record { behind = r.behind; left = r.left; back = λ qs h. (l.0, r.back qs h) }

-- a part that has no places is itself
self_back : {X : Type 0} {p : X → List RulePiece} (x : X) (ps : List Fixed) → p x ≡ map fixed ps → Reads p (λ x. x) Any x
self_back x ps e more tokens l =
    let r = fixes_back ps more tokens (subst (λ v. AreRuleLike tokens (v ++ more)) e l) in
    record {
      again = x;
      behind = r.behind;
      left = r.left;
      back = λ qs h. subst (λ v. ArePieces IsRulePiece tokens (v ++ qs)) (sym e) (r.back qs h);
      same = refl;
      kept = λ h. h;
    }

-- these words and marks
abbrev Words : Type 0
Words = Unit {0}

words_back : (ps : List Fixed) → Reads (λ (u : Words). map fixed ps) (λ u. u) Any tt
words_back ps = self_back tt ps refl

-- nothing stands there
none_back : {X : Type 0} {p : X → List RulePiece} {f : X → X} {Good : X → Type 0} (x : X) → p x ≡ [] → Reads p f Good x
none_back x e more tokens l = record {
  again = x;
  behind = tokens;
  left = subst (λ v. AreRuleLike tokens (v ++ more)) e l;
  back = λ qs h. subst (λ v. ArePieces IsRulePiece tokens (v ++ qs)) (sym e) h;
  same = refl;
  kept = λ h. h;
}

-- ---- numbers

operand_back : (o : Operand) → Reads operand_pieces plain_operand Any o
operand_back (Number n) = made_back Number n (λ n. refl) (λ n. refl) (λ other k h. h) (number_back n)
operand_back (Caller at) = made_back (λ at. Caller at) at (λ at. refl) (λ at. refl) (λ other k h. h) (word_back caller_word at)
operand_back (State at) = made_back (λ at. State at) at (λ at. refl) (λ at. refl) (λ other k h. h) (word_back state_word at)
operand_back (Argument n) =
    made_back (λ (both : Words × Spelling). Argument both.1) (tt, n) (λ both. refl) (λ both. refl) (λ other k h. h) (then_back tt n (words_back (Dollar ∷ [])) (number_back n))
operand_back (GreatestOf n) =
    made_back (λ (both : Words × Spelling). GreatestOf both.1) (tt, n) (λ both. refl) (λ both. refl) (λ other k h. h)
    (then_back tt n (words_back (Key greatest_word ∷ [])) (name_back n))
operand_back (Named n) = made_back Named n (λ n. refl) (λ n. refl) (λ other k h. h) (name_back n)

-- an operator and a second operand, where there are any
abbrev more_pieces : Option (Operator × Operand) → List RulePiece
more_pieces more = elim more [ None ↦ [] | Some m ↦ word (operator_word m.0) ∷ operand_pieces m.1 ]

abbrev pub plain_more : Option (Operator × Operand) → Option (Operator × Operand)
plain_more more = option_map (λ m. (m.0, plain_operand m.1)) more

more_back : (more : Option (Operator × Operand)) → Reads more_pieces plain_more Any more
more_back None = none_back None refl
more_back (Some m) =
    made_back (λ (both : Operator × Operand). Some both) (m.0, m.1) (λ both. refl) (λ both. refl) (λ other k h. h)
    (then_back m.0 m.1 (self_back {p = λ o. word (operator_word o) ∷ []} m.0 (Key (operator_word m.0) ∷ []) refl) (operand_back m.1))

term_back : (t : Term) → Reads term_pieces plain_term Any t
term_back t =
    made_back (λ (both : Operand × Option (Operator × Operand)). let v : Term = record { first = both.0; more = both.1 } in v) (t.first, t.more) (λ both. refl) (λ both. refl)
    (λ other k h. h) (then_back t.first t.more (operand_back t.first) (more_back t.more))

relation_back : (o : Relation) → Reads relation_pieces (λ o. o) Any o
relation_back Is = self_back Is (Key is_word ∷ []) refl
relation_back IsNot = self_back IsNot (Key is_word ∷ Key Not ∷ []) refl
relation_back Below = self_back Below (Key below_word ∷ []) refl
relation_back Above = self_back Above (Key above_word ∷ []) refl

-- a relation and a number after what stands to the number so
abbrev Related : Type 0 → Type 0
Related X = X × (Relation × Term)

test_back : (t : Test) → Reads test_pieces plain_test Any t
test_back t =
    made_back (λ (all : Related Term). let v : Test = record { left = all.0; relation = all.1.0; right = all.1.1 } in v) (t.left, (t.relation, t.right)) (λ all. refl) (λ all. refl)
    (λ other k h. h) (then_back t.left (t.relation, t.right) (term_back t.left) (then_back t.relation t.right (relation_back t.relation) (term_back t.right)))

what_back : (w : What) → Reads what_pieces plain_what Any w
what_back (row_state at) = made_back (λ at. row_state at) at (λ at. refl) (λ at. refl) (λ other k h. h) (word_back state_word at)
what_back (Field n) = made_back Field n (λ n. refl) (λ n. refl) (λ other k h. h) (name_back n)

pick_back : (p : Pick) → Reads pick_pieces plain_pick Any p
pick_back p =
    made_back (λ (all : Related What). let v : Pick = record { what = all.0; relation = all.1.0; right = all.1.1 } in v) (p.what, (p.relation, p.right)) (λ all. refl) (λ all. refl)
    (λ other k h. h) (then_back p.what (p.relation, p.right) (what_back p.what) (then_back p.relation p.right (relation_back p.relation) (term_back p.right)))

-- ---- lists

abbrev Filled : {X : Type 0} → List X → Type 0
Filled xs = xs ≢ []

filled : {X : Type 0} (x : X) (xs : List X) → x ∷ xs ≢ []
filled x xs e = cc

module _ {X : Type 0} (p : X → List RulePiece) (f : X → X) (reads : (x : X) → Reads p f Any x) where
  -- further things, each after a comma
  each_more_back : (xs : List X) → Reads (λ xs. flat_map (λ b. fixed Comma ∷ p b) xs) (map f) Any xs
  each_more_back [] = none_back [] refl
  each_more_back (x ∷ xs) =
      made_back (λ (all : Words × (X × List X)). all.1.0 ∷ all.1.1) (tt, (x, xs)) (λ all. refl) (λ all. refl) (λ other k h. h)
      (then_back tt (x, xs) (words_back (Comma ∷ [])) (then_back x xs (reads x) (each_more_back xs)))

  -- things with commas between
  each_back : (xs : List X) → Reads (separated (fixed Comma) p) (map f) Filled xs
  each_back [] = none_back [] refl
  each_back (x ∷ xs) =
      made_back (λ (both : X × List X). both.0 ∷ both.1) (x, xs) (λ both. refl) (λ both. refl) (λ other k h. filled other.0 other.1)
      (then_back x xs (reads x) (each_more_back xs))

  -- things with a comma after each
  before_back : (xs : List X) → Reads (λ xs. flat_map (λ b. p b ++ fixed Comma ∷ []) xs) (map f) Any xs
  before_back [] = none_back [] refl
  before_back (x ∷ xs) =
      made_back (λ (all : (X × Words) × List X). all.0.0 ∷ all.1) ((x, tt), xs) (λ all. refl) (λ all. refl) (λ other k h. h)
      (then_back (x, tt) xs (then_back x tt (reads x) (words_back (Comma ∷ []))) (before_back xs))

-- ---- tests

abbrev HasPicks : RowTest → Type 0
HasPicks rows = rows.picks ≢ []

rows_back : (rows : RowTest) → Reads row_test_pieces plain_rows HasPicks rows
rows_back rows =
    made_back (λ (all : ℕ × (Words × List Pick)). let v : RowTest = record { at = all.0; some = rows.some; picks = all.1.1 } in v) (rows.at, (tt, rows.picks)) (λ all. refl) (λ all. refl)
    (λ other k h. (k (tt, (tt, h))).1.1)
    (then_back rows.at (tt, rows.picks) (word_back (if rows.some then SomeRow else NoRow) rows.at)
    (then_back tt rows.picks (words_back (Key Row ∷ Key Where ∷ [])) (each_back pick_pieces plain_pick pick_back rows.picks)))

tests_back : (ts : List Test) (rows : Option RowTest) → Reads tests_pieces plain_tests HasTests (record { tests = ts; rows = rows })
tests_back ts None =
    made_back (λ (ts : List Test). let v : Tests = record { tests = ts; rows = None } in v) ts (λ ts. refl) (λ ts. refl) (λ other k h. k h) (each_back test_pieces plain_test test_back ts)
tests_back ts (Some rows) =
    made_back (λ (both : List Test × RowTest). let v : Tests = record { tests = both.0; rows = Some both.1 } in v) (ts, rows) (λ both. refl) (λ both. refl)
    (λ other k h. (k (tt, h)).1) (then_back ts rows (before_back test_pieces plain_test test_back ts) (rows_back rows))

-- what is asked of the rows names at least one thing, where it is asked
abbrev IsGiven : Tests → Type 0
IsGiven when = elim when.rows as (λ rows. Type 0) [ None ↦ Unit {0} | Some rows ↦ rows.picks ≢ [] ]

if_back : (ts : List Test) (rows : Option RowTest) → Reads if_pieces plain_tests IsGiven (record { tests = ts; rows = rows })
if_back [] None = none_back (record { tests = []; rows = None }) refl
if_back (t ∷ more) None =
    made_back (λ (all : Words × (Test × List Test)). let v : Tests = record { tests = all.1.0 ∷ all.1.1; rows = None } in v) (tt, (t, more)) (λ all. refl) (λ all. refl) (λ other k h. tt)
    (then_back tt (t, more) (words_back (Key If ∷ [])) (then_back t more (test_back t) (each_more_back test_pieces plain_test test_back more)))
if_back ts (Some rows) =
    made_back (λ (all : Words × (List Test × RowTest)). let v : Tests = record { tests = all.1.0; rows = Some all.1.1 } in v) (tt, (ts, rows)) (λ all. refl) (λ all. refl)
    (λ other k h. (k (tt, (tt, h))).1.1)
    (then_back tt (ts, rows) (words_back (Key If ∷ [])) (then_back ts rows (before_back test_pieces plain_test test_back ts) (rows_back rows)))

where_back : (ps : List Pick) → Reads where_pieces (map plain_pick) Any ps
where_back [] = none_back [] refl
where_back (p ∷ more) =
    made_back (λ (all : Words × (Pick × List Pick)). all.1.0 ∷ all.1.1) (tt, (p, more)) (λ all. refl) (λ all. refl) (λ other k h. h)
    (then_back tt (p, more) (words_back (Key Where ∷ [])) (then_back p more (pick_back p) (each_more_back pick_pieces plain_pick pick_back more)))

-- ---- rules

-- the code where no row is so, and the end of the rule
abbrev Else_code : Type 0
Else_code = Words × (Spelling × Words)

else_back : (code : Spelling) → Reads (λ (all : Else_code). word Else ∷ name all.1.0 ∷ fixed Semicolon ∷ []) (λ all. (tt, (plain_name all.1.0, tt))) Any (tt, (code, tt))
else_back code =
    made_back (λ (all : Else_code). all) (tt, (code, tt)) (λ all. refl) (λ all. refl) (λ other k h. h)
    (then_back tt (code, tt) (words_back (Key Else ∷ [])) (then_back code tt (name_back code) (words_back (Semicolon ∷ []))))

rule_back : (x : Rule) → Reads rule_pieces plain_rule IsRule x
rule_back (Refuse at code when) =
    made_back (λ (all : ℕ × (Spelling × (Words × (Tests × Words)))). Refuse all.0 all.1.0 all.1.1.1.0) (at, (code, (tt, (when, tt)))) (λ all. refl) (λ all. refl)
    (λ other k h. (k (tt, (tt, (tt, (h, tt))))).1.1.1.0)
    (then_back at (code, (tt, (when, tt))) (word_back refuse_word at) (then_back code (tt, (when, tt)) (name_back code)
    (then_back tt (when, tt) (words_back (Key If ∷ [])) (then_back when tt (tests_back when.tests when.rows) (words_back (Semicolon ∷ []))))))
rule_back (Wait at when) =
    made_back (λ (all : ℕ × (Words × (Tests × Words))). Wait all.0 all.1.1.0) (at, (tt, (when, tt))) (λ all. refl) (λ all. refl)
    (λ other k h. (k (tt, (tt, (h, tt)))).1.1.0)
    (then_back at (tt, (when, tt)) (word_back wait_word at) (then_back tt (when, tt) (words_back (Key If ∷ []))
    (then_back when tt (tests_back when.tests when.rows) (words_back (Semicolon ∷ [])))))
rule_back (Give at t when) =
    made_back (λ (all : ℕ × (Term × (Tests × Words))). Give all.0 all.1.0 all.1.1.0) (at, (t, (when, tt))) (λ all. refl) (λ all. refl)
    (λ other k h. (k (tt, (tt, (h, tt)))).1.1.0)
    (then_back at (t, (when, tt)) (word_back give_word at) (then_back t (when, tt) (term_back t)
    (then_back when tt (if_back when.tests when.rows) (words_back (Semicolon ∷ [])))))
rule_back (GiveRow at ps code) =
    made_back (λ (all : ℕ × (Words × (List Pick × Else_code))). GiveRow all.0 all.1.1.0 all.1.1.1.1.0) (at, (tt, (ps, (tt, (code, tt))))) (λ all. refl) (λ all. refl)
    (λ other k h. (k (tt, (tt, (h, tt)))).1.1.0)
    (then_back at (tt, (ps, (tt, (code, tt)))) (word_back give_word at) (then_back tt (ps, (tt, (code, tt))) (words_back (Key Row ∷ Key Where ∷ []))
    (then_back ps (tt, (code, tt)) (each_back pick_pieces plain_pick pick_back ps) (else_back code))))
rule_back (GiveFirst at ts ps code) =
    made_back (λ (all : ℕ × (Words × (List Term × (List Pick × Else_code)))). GiveFirst all.0 all.1.1.0 all.1.1.1.0 all.1.1.1.1.1.0) (at, (tt, (ts, (ps, (tt, (code, tt)))))) (λ all. refl) (λ all. refl)
    (λ other k h. (k (tt, (tt, (h, (tt, tt))))).1.1.0)
    (then_back at (tt, (ts, (ps, (tt, (code, tt))))) (word_back give_word at) (then_back tt (ts, (ps, (tt, (code, tt)))) (words_back (Key First ∷ []))
    (then_back ts (ps, (tt, (code, tt))) (each_back term_pieces plain_term term_back ts) (then_back ps (tt, (code, tt)) (where_back ps) (else_back code)))))

-- all rules
pub record AgainRules (rules : List Rule) (tokens : List Lexeme) : Type 0 where
  pub again : List Rule
  pub pieces : ArePieces IsRulePiece tokens (flat_map rule_pieces again)
  pub same : map plain_rule again ≡ map plain_rule rules
  pub some : rules ≢ [] → again ≢ []
  pub kept : All IsRule rules → All IsRule again

none_left : (tokens : List Lexeme) → AreRuleLike tokens [] → ArePieces IsRulePiece tokens []
none_left [] l = tt
none_left (t ∷ ts) l = absurd l

pub rules_back : (rules : List Rule) (tokens : List Lexeme) → AreRuleLike tokens (flat_map rule_pieces rules) → AgainRules rules tokens
rules_back [] tokens l = record { again = []; pieces = none_left tokens l; same = refl; some = λ h. h; kept = λ h. h }
rules_back (x ∷ more) tokens l =
    let r = rule_back x (flat_map rule_pieces more) tokens l in
    let q = rules_back more r.behind r.left in
    record {
      again = r.again ∷ q.again;
      pieces = r.back (flat_map rule_pieces q.again) q.pieces;
      same = ap (λ y. y ∷ map plain_rule q.again) r.same ∙ ap (λ ys. plain_rule x ∷ ys) q.same;
      some = λ h. filled r.again q.again;
      kept = λ h. All-cons IsRule r.again q.again (r.kept (All-head IsRule x more h)) (q.kept (All-tail IsRule x more h));
    }
