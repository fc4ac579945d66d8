-- The texts of rules, part by part, lead to their pieces.
use Rattle.std.proofs.Common.{ℕ, ◌≡◌, Bool, true, false, if◌then◌else◌, List, [], ◌∷◌, ◌++◌, Option, None, Some, map, codes, refl, sym, ap, subst, ◌∙◌, append_assoc, append-nil}
use Rattle.std.specs.List.{concat, flat_map, join_by}
use Rattle.sg_facts.specs.Words.{line_end as line_feed}
use Rattle.sg_parse.specs.sg_rules.declared.words.Keyword.TheVariants.{Refuse as refuse_word, Wait as wait_word, Give as give_word, If, Is as is_word, Not, Below as below_word, Above as above_word, Greatest as greatest_word, Caller as caller_word, State as state_word, Row, Where, Else, First, SomeRow, NoRow}
use Rattle.sg_parse.specs.sg_rules.declared.words.Fixed.TheVariants.{Comma, Semicolon, Dollar}
use Rattle.sg_parse.specs.sg_rules.declared.tree.Operand.{Operand}
use Rattle.sg_parse.specs.sg_rules.declared.tree.Operand.TheVariants.{Number, Caller, State, Argument, GreatestOf, Named}
use Rattle.sg_parse.specs.sg_rules.declared.tree.Operator.{Operator}
use Rattle.sg_parse.specs.sg_rules.declared.tree.Relation.{Relation}
use Rattle.sg_parse.specs.sg_rules.declared.tree.Relation.TheVariants.{Is, IsNot, Below, Above}
use Rattle.sg_parse.specs.sg_rules.declared.tree.Term.{Term}
use Rattle.sg_parse.specs.sg_rules.declared.tree.Test.{Test}
use Rattle.sg_parse.specs.sg_rules.declared.tree.RowTest.{RowTest}
use Rattle.sg_parse.specs.sg_rules.declared.tree.Pick.{Pick}
use Rattle.sg_parse.specs.sg_rules.declared.tree.What.{What}
use Rattle.sg_parse.specs.sg_rules.declared.tree.What.TheVariants.{State as row_state, Field}
use Rattle.sg_parse.specs.sg_rules.declared.tree.Rule.{Rule}
use Rattle.sg_parse.specs.sg_rules.declared.tree.Rule.TheVariants.{Refuse, Wait, Give, GiveRow, GiveFirst}
use Rattle.sg_parse.specs.sg_lex.Lexeme.{Spelling}
use Rattle.sg_parse.specs.sg_rules.Grammar.Words.{word_of}
use Rattle.sg_parse.specs.sg_rules.Grammar.Pieces.{RulePiece, fixed, word, word_at, name}
use Rattle.sg_parse.specs.sg_rules.Grammar.Sentence.{operand_pieces, operator_word, relation_pieces, what_pieces, rule_pieces}
use Rattle.sg_parse.proofs.sg_rules.Grammar.Thens.{each, each_more, more_then, term_then, test_then, pick_then, rows_then, tests_of, if_of, where_then, rule_then, rules_then, rules_are}
use Rattle.sg_parse.specs.Grammar.Pieces.{Piece, rule}
use Rattle.sg_print.specs.RulesText.{operand_text, term_text, relation_text, test_text, what_text, pick_text, rows_text, tests_text, if_text, where_text, rule_text, rule_line}
use Rattle.sg_print.proofs.Levels.{Version}
use Rattle.sg_print.proofs.Leads.{Leads, Stops, IsProperRule, AreProper, blank_leads, keyword_leads, keyword_at_leads, sign_leads, rule_name_leads, rule_number_leads}

-- ---- texts in a row

parts2 : (a b rest : List ℕ) → concat (a ∷ b ∷ []) ++ rest ≡ a ++ (b ++ rest)
parts2 a b rest = simp (append_assoc, append-nil) refl

parts3 : (a b c rest : List ℕ) → concat (a ∷ b ∷ c ∷ []) ++ rest ≡ a ++ (b ++ (c ++ rest))
parts3 a b c rest = simp (append_assoc, append-nil) refl

parts4 : (a b c d rest : List ℕ) → concat (a ∷ b ∷ c ∷ d ∷ []) ++ rest ≡ a ++ (b ++ (c ++ (d ++ rest)))
parts4 a b c d rest = simp (append_assoc, append-nil) refl

parts5 : (a b c d e rest : List ℕ) → concat (a ∷ b ∷ c ∷ d ∷ e ∷ []) ++ rest ≡ a ++ (b ++ (c ++ (d ++ (e ++ rest))))
parts5 a b c d e rest = simp (append_assoc, append-nil) refl

-- ---- pieces that rules can have

abbrev pub AreProperRules : Version → List RulePiece → Type 0
AreProperRules b [] = Unit {0}
AreProperRules b (q ∷ qs) = IsProperRule b q × AreProperRules b qs

pub rules_proper : (b : Version) (qs : List RulePiece) (tail : List Piece) → AreProper b (map rule qs ++ tail) → AreProperRules b qs
rules_proper b [] tail h = tt
rules_proper b (q ∷ qs) tail h = (h.0, rules_proper b qs tail h.1)

-- a text leads to these pieces of rules, and then to others
abbrev pub Says : Version → List Piece → List ℕ → List RulePiece → Type 0
Says b tail text qs = Leads b text (map rule qs ++ tail)

-- where such a part of rules stands before others, which the text after it says, the whole text says both
abbrev SaysPart : (b : Version) (tail : List Piece) (text : List ℕ) (then_of : List RulePiece → List RulePiece) → Type 0
SaysPart b tail text then_of =
    (rest : List ℕ) (qs : List RulePiece) → AreProperRules b (then_of qs) → Stops rest → (AreProperRules b qs → Says b tail rest qs) → Says b tail (text ++ rest) (then_of qs)

module _ (b : Version) (tail : List Piece) where
  -- a text that is another
  along : (text other : List ℕ) (pieces : List Piece) → text ≡ other → Leads b other pieces → Leads b text pieces
  along text other pieces e h = subst (λ v. Leads b v pieces) (sym e) h

  -- ---- numbers

  operand_says : (o : Operand) → SaysPart b tail (operand_text o) (λ qs. operand_pieces o ++ qs)
  operand_says (Number n) rest qs h s k = rule_number_leads n rest _ h.0 s (k h.1)
  operand_says (Caller at) rest qs h s k = keyword_at_leads caller_word at rest _ s (k h.1)
  operand_says (State at) rest qs h s k = keyword_at_leads state_word at rest _ s (k h.1)
  operand_says (Argument n) rest qs h s k = sign_leads Dollar _ _ tt (rule_number_leads n rest _ h.1.0 s (k h.1.1))
  operand_says (GreatestOf n) rest qs h s k =
      keyword_leads greatest_word (0x20 ∷ (n.bytes ++ rest)) _ refl (blank_leads 0x20 _ _ refl (rule_name_leads n rest _ h.1.0 s (k h.1.1)))
  operand_says (Named n) rest qs h s k = rule_name_leads n rest _ h.0 s (k h.1)

  term_says : (t : Term) → SaysPart b tail (term_text t) (term_then t)
  term_says t rest qs h s k = by t.more h
    where
      by : (more : Option (Operator × Operand)) → AreProperRules b (operand_pieces t.first ++ more_then more qs)
          → Says b tail ((operand_text t.first
          ++ (elim more [ None ↦ [] | Some m ↦ concat (codes " " ∷ word_of (operator_word m.0) ∷ codes " " ∷ operand_text m.1 ∷ []) ])) ++ rest)
          (operand_pieces t.first ++ more_then more qs)
      by None h = along _ (operand_text t.first ++ rest) _ (append_assoc (operand_text t.first) [] rest) (operand_says t.first rest qs h s k)
      by (Some m) h =
          let text = 0x20 ∷ (word_of (operator_word m.0) ++ 0x20 ∷ (operand_text m.1 ++ rest)) in
          along _ (operand_text t.first ++ text) _
          (append_assoc (operand_text t.first) (concat (codes " " ∷ word_of (operator_word m.0) ∷ codes " " ∷ operand_text m.1 ∷ [])) rest
          ∙ ap (λ v. operand_text t.first ++ v) (parts4 (codes " ") (word_of (operator_word m.0)) (codes " ") (operand_text m.1) rest))
          (operand_says t.first text (word (operator_word m.0) ∷ (operand_pieces m.1 ++ qs)) h refl
          (λ h1. blank_leads 0x20 _ _ refl (keyword_leads (operator_word m.0) _ _ refl (blank_leads 0x20 _ _ refl (operand_says m.1 rest qs h1.1 s k)))))

  relation_says : (o : Relation) → SaysPart b tail (relation_text o) (λ qs. relation_pieces o ++ qs)
  relation_says Is rest qs h s k = keyword_leads is_word rest _ s (k h.1)
  relation_says IsNot rest qs h s k = keyword_leads is_word (0x20 ∷ (codes "not" ++ rest)) _ refl (blank_leads 0x20 _ _ refl (keyword_leads Not rest _ s (k h.1.1)))
  relation_says Below rest qs h s k = keyword_leads below_word rest _ s (k h.1)
  relation_says Above rest qs h s k = keyword_leads above_word rest _ s (k h.1)

  -- a relation and a number, each after a space
  related_says : (o : Relation) (right : Term) (rest : List ℕ) (qs : List RulePiece) → AreProperRules b (relation_pieces o ++ term_then right qs) → Stops rest
      → (AreProperRules b qs → Says b tail rest qs) → Says b tail (0x20 ∷ (relation_text o ++ 0x20 ∷ (term_text right ++ rest))) (relation_pieces o ++ term_then right qs)
  related_says o right rest qs h s k =
      blank_leads 0x20 _ _ refl (relation_says o (0x20 ∷ (term_text right ++ rest)) (term_then right qs) h refl
      (λ h1. blank_leads 0x20 _ _ refl (term_says right rest qs h1 s k)))

  test_says : (t : Test) → SaysPart b tail (test_text t) (test_then t)
  test_says t rest qs h s k =
      along _ (term_text t.left ++ 0x20 ∷ (relation_text t.relation ++ 0x20 ∷ (term_text t.right ++ rest))) _
      (parts5 (term_text t.left) (codes " ") (relation_text t.relation) (codes " ") (term_text t.right) rest)
      (term_says t.left (0x20 ∷ (relation_text t.relation ++ 0x20 ∷ (term_text t.right ++ rest))) (relation_pieces t.relation ++ term_then t.right qs) h refl
      (λ h1. related_says t.relation t.right rest qs h1 s k))

  what_says : (w : What) → SaysPart b tail (what_text w) (λ qs. what_pieces w ++ qs)
  what_says (row_state at) rest qs h s k = keyword_at_leads state_word at rest _ s (k h.1)
  what_says (Field n) rest qs h s k = rule_name_leads n rest _ h.0 s (k h.1)

  pick_says : (p : Pick) → SaysPart b tail (pick_text p) (pick_then p)
  pick_says p rest qs h s k =
      along _ (what_text p.what ++ 0x20 ∷ (relation_text p.relation ++ 0x20 ∷ (term_text p.right ++ rest))) _
      (parts5 (what_text p.what) (codes " ") (relation_text p.relation) (codes " ") (term_text p.right) rest)
      (what_says p.what (0x20 ∷ (relation_text p.relation ++ 0x20 ∷ (term_text p.right ++ rest))) (relation_pieces p.relation ++ term_then p.right qs) h refl
      (λ h1. related_says p.relation p.right rest qs h1 s k))

  -- ---- lists

  more_stops : {A : Type 0} (text : A → List ℕ) (more : List A) (rest : List ℕ) → Stops rest → Stops (flat_map (λ a. codes ", " ++ text a) more ++ rest)
  more_stops text [] rest s = s
  more_stops text (a ∷ more) rest s = refl

  more_says : {A : Type 0} (text : A → List ℕ) (then_of : A → List RulePiece → List RulePiece) → ((a : A) → SaysPart b tail (text a) (then_of a))
      → (more : List A) → SaysPart b tail (flat_map (λ a. codes ", " ++ text a) more) (each_more then_of more)
  more_says text then_of says [] rest qs h s k = k h
  more_says text then_of says (a ∷ more) rest qs h s k =
      along _ (0x2C ∷ 0x20 ∷ (text a ++ (flat_map (λ a. codes ", " ++ text a) more ++ rest))) _
      (append_assoc (codes ", " ++ text a) (flat_map (λ a. codes ", " ++ text a) more) rest)
      (sign_leads Comma _ _ tt (blank_leads 0x20 _ _ refl
      (says a (flat_map (λ a. codes ", " ++ text a) more ++ rest) (each_more then_of more qs) h.1 (more_stops text more rest s)
      (λ h1. more_says text then_of says more rest qs h1 s k))))

  each_says : {A : Type 0} (text : A → List ℕ) (then_of : A → List RulePiece → List RulePiece) → ((a : A) → SaysPart b tail (text a) (then_of a))
      → (xs : List A) → SaysPart b tail (join_by text (codes ", ") xs) (each then_of xs)
  each_says text then_of says [] rest qs h s k = k h
  each_says text then_of says (a ∷ more) rest qs h s k =
      along _ (text a ++ (flat_map (λ a. codes ", " ++ text a) more ++ rest)) _
      (append_assoc (text a) (flat_map (λ a. codes ", " ++ text a) more) rest)
      (says a (flat_map (λ a. codes ", " ++ text a) more ++ rest) (each_more then_of more qs) h (more_stops text more rest s)
      (λ h1. more_says text then_of says more rest qs h1 s k))

  -- ---- tests

  rows_says : (rows : RowTest) → SaysPart b tail (rows_text rows) (rows_then rows)
  rows_says rows rest qs h s k =
      along _ ((if rows.some then codes "some" else codes "no") ++ (codes " row where " ++ (join_by pick_text (codes ", ") rows.picks ++ rest))) _
      (parts3 (if rows.some then codes "some" else codes "no") (codes " row where ") (join_by pick_text (codes ", ") rows.picks) rest)
      (by rows.some)
    where
      picks : Says b tail (codes " row where " ++ (join_by pick_text (codes ", ") rows.picks ++ rest)) (word Row ∷ word Where ∷ each pick_then rows.picks qs)
      picks =
          blank_leads 0x20 _ _ refl (keyword_leads Row (codes " where " ++ (join_by pick_text (codes ", ") rows.picks ++ rest)) _ refl
          (blank_leads 0x20 _ _ refl (keyword_leads Where (0x20 ∷ (join_by pick_text (codes ", ") rows.picks ++ rest)) _ refl
          (blank_leads 0x20 _ _ refl (each_says pick_text pick_then pick_says rows.picks rest qs h.1.1.1 s k)))))

      by : (some : Bool) → Says b tail ((if some then codes "some" else codes "no") ++ (codes " row where " ++ (join_by pick_text (codes ", ") rows.picks ++ rest)))
          (word_at (if some then SomeRow else NoRow) rows.at ∷ word Row ∷ word Where ∷ each pick_then rows.picks qs)
      by true = keyword_at_leads SomeRow rows.at _ _ refl picks
      by false = keyword_at_leads NoRow rows.at _ _ refl picks

  -- tests, each with a comma after it, and one before them all
  before_says : (more : List Test) (rest : List ℕ) (qs : List RulePiece) → AreProperRules b (each_more test_then more (fixed Comma ∷ qs)) → (AreProperRules b qs → Says b tail rest qs)
      → Says b tail (codes ", " ++ (flat_map (λ test. test_text test ++ codes ", ") more ++ rest)) (each_more test_then more (fixed Comma ∷ qs))
  before_says [] rest qs h k = sign_leads Comma _ _ tt (blank_leads 0x20 _ _ refl (k h.1))
  before_says (t ∷ more) rest qs h k =
      let behind = codes ", " ++ (flat_map (λ test. test_text test ++ codes ", ") more ++ rest) in
      along _ (codes ", " ++ (test_text t ++ behind)) _
      (ap (λ v. codes ", " ++ v)
      (append_assoc (test_text t ++ codes ", ") (flat_map (λ test. test_text test ++ codes ", ") more) rest
      ∙ append_assoc (test_text t) (codes ", ") (flat_map (λ test. test_text test ++ codes ", ") more ++ rest)))
      (sign_leads Comma _ _ tt (blank_leads 0x20 _ _ refl
      (test_says t behind (each_more test_then more (fixed Comma ∷ qs)) h.1 refl (λ h1. before_says more rest qs h1 k))))

  tests_say : (ts : List Test) (rows : Option RowTest) → SaysPart b tail (tests_text (record { tests = ts; rows = rows })) (tests_of ts rows)
  tests_say ts None rest qs h s k = each_says test_text test_then test_says ts rest qs h s k
  tests_say [] (Some rows) rest qs h s k = rows_says rows rest qs h s k
  tests_say (t ∷ more) (Some rows) rest qs h s k =
      let first = flat_map (λ test. test_text test ++ codes ", ") more in
      along _ (test_text t ++ (codes ", " ++ (first ++ (rows_text rows ++ rest)))) _
      (append_assoc ((test_text t ++ codes ", ") ++ first) (rows_text rows) rest
      ∙ append_assoc (test_text t ++ codes ", ") first (rows_text rows ++ rest)
      ∙ append_assoc (test_text t) (codes ", ") (first ++ (rows_text rows ++ rest)))
      (test_says t (codes ", " ++ (first ++ (rows_text rows ++ rest))) (each_more test_then more (fixed Comma ∷ rows_then rows qs)) h refl
      (λ h1. before_says more (rows_text rows ++ rest) (rows_then rows qs) h1 (λ h2. rows_says rows rest qs h2 s k)))

  -- ---- rules

  -- tests after `if`
  after_if : (ts : List Test) (rows : Option RowTest) → SaysPart b tail (codes " if " ++ tests_text (record { tests = ts; rows = rows })) (λ qs. word If ∷ tests_of ts rows qs)
  after_if ts rows rest qs h s k =
      blank_leads 0x20 _ _ refl (keyword_leads If (0x20 ∷ (tests_text (record { tests = ts; rows = rows }) ++ rest)) _ refl
      (blank_leads 0x20 _ _ refl (tests_say ts rows rest qs h.1 s k)))

  if_says : (ts : List Test) (rows : Option RowTest) → SaysPart b tail (if_text (record { tests = ts; rows = rows })) (if_of ts rows)
  if_says [] None rest qs h s k = k h
  if_says (t ∷ more) None rest qs h s k = after_if (t ∷ more) None rest qs h s k
  if_says [] (Some rows) rest qs h s k = after_if [] (Some rows) rest qs h s k
  if_says (t ∷ more) (Some rows) rest qs h s k = after_if (t ∷ more) (Some rows) rest qs h s k

  if_stops : (ts : List Test) (rows : Option RowTest) (rest : List ℕ) → Stops rest → Stops (if_text (record { tests = ts; rows = rows }) ++ rest)
  if_stops [] None rest s = s
  if_stops (t ∷ more) None rest s = refl
  if_stops [] (Some rows) rest s = refl
  if_stops (t ∷ more) (Some rows) rest s = refl

  where_says : (ps : List Pick) → SaysPart b tail (where_text ps) (where_then ps)
  where_says [] rest qs h s k = k h
  where_says (p ∷ more) rest qs h s k =
      blank_leads 0x20 _ _ refl (keyword_leads Where (0x20 ∷ (join_by pick_text (codes ", ") (p ∷ more) ++ rest)) _ refl
      (blank_leads 0x20 _ _ refl (each_says pick_text pick_then pick_says (p ∷ more) rest qs h.1 s k)))

  where_stops : (ps : List Pick) (rest : List ℕ) → Stops rest → Stops (where_text ps ++ rest)
  where_stops [] rest s = s
  where_stops (p ∷ more) rest s = refl

  -- the end of a rule's line
  line_says : (rest : List ℕ) (qs : List RulePiece) → AreProperRules b (fixed Semicolon ∷ qs) → (AreProperRules b qs → Says b tail rest qs) → Says b tail (0x3B ∷ 0x0A ∷ rest) (fixed Semicolon ∷ qs)
  line_says rest qs h k = sign_leads Semicolon _ _ tt (blank_leads 0x0A _ _ refl (k h.1))

  -- the code where no row is so, and the end of the line
  else_says : (code : Spelling) (rest : List ℕ) (qs : List RulePiece) → AreProperRules b (word Else ∷ name code ∷ fixed Semicolon ∷ qs) → (AreProperRules b qs → Says b tail rest qs)
      → Says b tail (codes " else " ++ (code.bytes ++ 0x3B ∷ 0x0A ∷ rest)) (word Else ∷ name code ∷ fixed Semicolon ∷ qs)
  else_says code rest qs h k =
      blank_leads 0x20 _ _ refl (keyword_leads Else (0x20 ∷ (code.bytes ++ 0x3B ∷ 0x0A ∷ rest)) _ refl
      (blank_leads 0x20 _ _ refl (rule_name_leads code (0x3B ∷ 0x0A ∷ rest) _ h.1.0 refl (line_says rest qs h.1.1 k))))

  rule_says : (x : Rule) (rest : List ℕ) (qs : List RulePiece) → AreProperRules b (rule_then x qs) → (AreProperRules b qs → Says b tail rest qs)
      → Says b tail (rule_text x ++ 0x3B ∷ 0x0A ∷ rest) (rule_then x qs)
  rule_says (Refuse at code when) rest qs h k =
      let end = 0x3B ∷ 0x0A ∷ rest in
      along _ (codes "refuse " ++ (code.bytes ++ (codes " if " ++ (tests_text when ++ end)))) _ (parts4 (codes "refuse ") code.bytes (codes " if ") (tests_text when) end)
      (keyword_at_leads refuse_word at (0x20 ∷ (code.bytes ++ (codes " if " ++ (tests_text when ++ end)))) _ refl
      (blank_leads 0x20 _ _ refl (rule_name_leads code (codes " if " ++ (tests_text when ++ end)) _ h.1.0 refl
      (after_if when.tests when.rows end (fixed Semicolon ∷ qs) h.1.1 refl (λ h1. line_says rest qs h1 k)))))
  rule_says (Wait at when) rest qs h k =
      let end = 0x3B ∷ 0x0A ∷ rest in
      keyword_at_leads wait_word at (codes " if " ++ (tests_text when ++ end)) _ refl
      (after_if when.tests when.rows end (fixed Semicolon ∷ qs) h.1 refl (λ h1. line_says rest qs h1 k))
  rule_says (Give at t when) rest qs h k =
      let end = 0x3B ∷ 0x0A ∷ rest in
      along _ (codes "give " ++ (term_text t ++ (if_text when ++ end))) _ (parts3 (codes "give ") (term_text t) (if_text when) end)
      (keyword_at_leads give_word at (0x20 ∷ (term_text t ++ (if_text when ++ end))) _ refl
      (blank_leads 0x20 _ _ refl
      (term_says t (if_text when ++ end) (if_of when.tests when.rows (fixed Semicolon ∷ qs)) h.1 (if_stops when.tests when.rows end refl)
      (λ h1. if_says when.tests when.rows end (fixed Semicolon ∷ qs) h1 refl (λ h2. line_says rest qs h2 k)))))
  rule_says (GiveRow at ps code) rest qs h k =
      let end = 0x3B ∷ 0x0A ∷ rest in
      let behind = codes " else " ++ (code.bytes ++ end) in
      along _ (codes "give row where " ++ (join_by pick_text (codes ", ") ps ++ behind)) _ (parts4 (codes "give row where ") (join_by pick_text (codes ", ") ps) (codes " else ") code.bytes end)
      (keyword_at_leads give_word at (codes " row where " ++ (join_by pick_text (codes ", ") ps ++ behind)) _ refl
      (blank_leads 0x20 _ _ refl (keyword_leads Row (codes " where " ++ (join_by pick_text (codes ", ") ps ++ behind)) _ refl
      (blank_leads 0x20 _ _ refl (keyword_leads Where (0x20 ∷ (join_by pick_text (codes ", ") ps ++ behind)) _ refl
      (blank_leads 0x20 _ _ refl
      (each_says pick_text pick_then pick_says ps behind (word Else ∷ name code ∷ fixed Semicolon ∷ qs) h.1.1.1 refl (λ h1. else_says code rest qs h1 k))))))))
  rule_says (GiveFirst at ts ps code) rest qs h k =
      let end = 0x3B ∷ 0x0A ∷ rest in
      let behind = codes " else " ++ (code.bytes ++ end) in
      along _ (codes "give first " ++ (join_by term_text (codes ", ") ts ++ (where_text ps ++ behind))) _
      (parts5 (codes "give first ") (join_by term_text (codes ", ") ts) (where_text ps) (codes " else ") code.bytes end)
      (keyword_at_leads give_word at (codes " first " ++ (join_by term_text (codes ", ") ts ++ (where_text ps ++ behind))) _ refl
      (blank_leads 0x20 _ _ refl (keyword_leads First (0x20 ∷ (join_by term_text (codes ", ") ts ++ (where_text ps ++ behind))) _ refl
      (blank_leads 0x20 _ _ refl
      (each_says term_text term_then term_says ts (where_text ps ++ behind) (where_then ps (word Else ∷ name code ∷ fixed Semicolon ∷ qs)) h.1.1 (where_stops ps behind refl)
      (λ h1. where_says ps behind (word Else ∷ name code ∷ fixed Semicolon ∷ qs) h1 refl (λ h2. else_says code rest qs h2 k)))))))

  rules_say : (rules : List Rule) (rest : List ℕ) → AreProperRules b (rules_then rules []) → Leads b rest tail → Says b tail (flat_map rule_line rules ++ rest) (rules_then rules [])
  rules_say [] rest h k = k
  rules_say (x ∷ more) rest h k =
      let behind = flat_map rule_line more ++ rest in
      along _ (codes "    " ++ (rule_text x ++ 0x3B ∷ 0x0A ∷ behind)) _
      (append_assoc (rule_line x) (flat_map rule_line more) rest ∙ parts4 (codes "    ") (rule_text x) (codes ";") line_feed behind)
      (blank_leads 0x20 _ _ refl (blank_leads 0x20 _ _ refl (blank_leads 0x20 _ _ refl (blank_leads 0x20 _ _ refl
      (rule_says x behind (rules_then more []) h (λ h1. rules_say more rest h1 k))))))

-- the lines of rules lead to their pieces
pub rules_lead : {b : Version} (rules : List Rule) (rest : List ℕ) (tail other : List Piece) → AreProper b (map rule (flat_map rule_pieces rules) ++ other) → Leads b rest tail
    → Leads b (flat_map rule_line rules ++ rest) (map rule (flat_map rule_pieces rules) ++ tail)
rules_lead {b = b} rules rest tail other h k =
    subst (λ v. Leads b (flat_map rule_line rules ++ rest) (map rule v ++ tail)) (sym (rules_are rules))
    (rules_say b tail rules rest (subst (AreProperRules b) (rules_are rules) (rules_proper b (flat_map rule_pieces rules) other h)) k)
