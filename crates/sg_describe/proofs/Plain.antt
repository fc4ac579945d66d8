-- A text in which nothing is wrong describes a service of single rows, which keeps to what it has to by itself.
use Rattle.std.proofs.Common.{◌≡◌, ℕ, zero, suc, ◌+◌, Bool, true, false, ◌&&◌, ◌||◌, not, List, [], ◌∷◌, map, length, None, Some, codes, refl, sym, ◌∙◌, ap, arith}
use Rattle.std.specs.Prelude.{if◌then◌else◌, nat_le, nat_lt, slice_get, unwrap_or}
use Rattle.std.specs.Bool.{then_some}
use Rattle.std.specs.declared.option.Option.{Option}
use Rattle.std.specs.List.{list_all, list_any}
use Rattle.std.specs.Option.{option_and_then, option_map, option_map_or, option_or}
use Rattle.std.specs.Str.{bytes_eq}
use Rattle.std.proofs.lemmas.Bool.{and_from, and_parts, eq-eqb, le-leb, or_parts}
use Rattle.std.proofs.lemmas.List.{length-map}
use Rattle.std.proofs.lemmas.List.Folds.{list_all-map}
use Rattle.std.proofs.lemmas.Option.{slice_get-map}
use Rattle.sg_shape.specs.sg_facts.Allowed.{implies, is_never, is_replayed, wants_word}
use Rattle.sg_shape.specs.sg_facts.Facts.{Facts, Field, Fun}
use Rattle.sg_shape.specs.sg_facts.Limits.{most_fields, most_funs}
use Rattle.sg_shape.specs.sg_facts.sg_base.Counts.{last_count}
use Rattle.sg_shape.specs.sg_check_statements.Says.{says}
use Rattle.sg_shape.specs.sg_check_statements.Shapes.{all_differ, are_funs, is_fun, leaves_fun}
use Rattle.sg_shape.specs.sg_check_statements.sg_parse.declared.tree.Statement.{Statement}
use Rattle.sg_shape.specs.sg_check_statements.sg_parse.declared.tree.Statement.TheVariants.{One, Two, Proto, External, Most, Unique, Answer}
use Rattle.sg_shape.specs.sg_check_statements.sg_parse.declared.tree.Tree.{Tree}
use Rattle.sg_shape.specs.sg_check_statements.sg_parse.sg_lex.Lexeme.{Spelling}
use Rattle.sg_shape.specs.sg_check_statements.sg_parse.sg_lex.Numbers.{bounded, number_of_digits, value_of_digits}
use Rattle.sg_shape.specs.Faults.{HasNoShapeFlaw}
use Rattle.sg_shape.specs.Fields.{fields_of_text}
use Rattle.sg_shape.specs.Prototypes.{Prototype, protos_of}
use Rattle.sg_shape.specs.ShapeOfText.{function_of, shape_of_text}
use Rattle.sg_shape.proofs.Flawless.{own_funs}
use Rattle.sg_shape.proofs.Goods.{keeps}
use Rattle.sg_shape.proofs.Names.{own_bytes}
use Rattle.sg_shape.proofs.Places.{all_pass, each_passes}
use Rattle.sg_shape.proofs.Shapes.{fits}
use Rattle.sg_described.specs.Described.{Described, rules_at}
use Rattle.sg_described.specs.Meaning.{last_word}
use Rattle.sg_described.specs.Safe.{always_gives, are_plain_rules, is_plain, is_plain_fun, is_plain_kind, is_plain_move, is_plain_rule}
use Rattle.sg_describe.specs.declared.fault.AnswerFaultKind.{AnswerFaultKind}
use Rattle.sg_describe.specs.declared.fault.AnswerFaultKind.TheVariants.{NotYet, NoWord}
use Rattle.sg_describe.specs.AnswerFaults.{HasNoAnswerFlaw}
use Rattle.sg_describe.specs.AnswerFlaws.{fun_flaw, funs_flaw, gives_always, head_flaw, is_flawed, is_later_word, not_yet_in, repeat_place, rule_flaw, statement_flaw}
use Rattle.sg_describe.specs.DescribedText.{answer_of, described_of_text, most_of, most_unsaid}
use Rattle.sg_describe.specs.Said.{first_in, most_said, proto_in, proto_place, rules_said}
use Rattle.sg_describe.proofs.Finding.{all_from_each, mapped_at, neither, no_it, none_in, not_held, not_it, not_told}
use Rattle.sg_describe.proofs.PlainFields.{fields_plain, numbered_within}
use Rattle.sg_describe.proofs.PlainRules.{rules_give, rules_plain}

-- ---- greatest numbers

bounded_word : (v : ℕ) → nat_le (unwrap_or (bounded v) most_unsaid) last_word ≡ true
bounded_word v = by (nat_le v last_count) refl
  where
    by : (b : Bool) → nat_le v last_count ≡ b → nat_le (unwrap_or (if b then Some v else None) most_unsaid) last_word ≡ true
    by true told = told
    by false told = refl

most_within : (o : Option Spelling) → nat_le (unwrap_or (option_and_then (λ n. number_of_digits n.bytes) o) most_unsaid) last_word ≡ true
most_within None = refl
most_within (Some n) = bounded_word (value_of_digits n.bytes)

-- ---- queries

no_query_in : (f : List ℕ) (statements : List Statement) → first_in not_yet_in statements ≡ None → says statements (codes "sm_query") f ≡ false
no_query_in f [] none = refl
no_query_in f (Two word first second ∷ statements) none = no_query_in f statements (none_in not_yet_in (Two word first second) statements none).1
no_query_in f (Proto ret name params ∷ statements) none = no_query_in f statements (none_in not_yet_in (Proto ret name params) statements none).1
no_query_in f (External fun ∷ statements) none = no_query_in f statements (none_in not_yet_in (External fun) statements none).1
no_query_in f (Most field most ∷ statements) none = no_query_in f statements (none_in not_yet_in (Most field most) statements none).1
no_query_in f (Unique fields ∷ statements) none = no_query_in f statements (none_in not_yet_in (Unique fields) statements none).1
no_query_in f (Answer fun rules ∷ statements) none = no_query_in f statements (none_in not_yet_in (Answer fun rules) statements none).1
no_query_in f (One word fun ∷ statements) none =
    let parts = none_in not_yet_in (One word fun) statements none in
    ap (λ b. (b && bytes_eq fun.bytes f) || says statements (codes "sm_query") f)
    (or_parts (bytes_eq word.bytes (codes "sm_query")) (bytes_eq word.bytes (codes "sm_needs_all")) (not_told (is_later_word word.bytes) word.at parts.0)).0
    ∙ no_query_in f statements parts.1

-- ---- prototypes

-- the name of a prototype has a place
has_place : (statements : List Statement) (k : ℕ) (p : Prototype) → slice_get (protos_of statements) k ≡ Some p → proto_place p.name.bytes statements ≡ None → ⊥
has_place [] k p at none = absurd (cc at)
has_place (One word fun ∷ statements) k p at none = has_place statements k p at none
has_place (Two word first second ∷ statements) k p at none = has_place statements k p at none
has_place (External fun ∷ statements) k p at none = has_place statements k p at none
has_place (Most field most ∷ statements) k p at none = has_place statements k p at none
has_place (Unique fields ∷ statements) k p at none = has_place statements k p at none
has_place (Answer fun rules ∷ statements) k p at none = has_place statements k p at none
has_place (Proto ret name params ∷ statements) zero p at none =
    let same : name.bytes ≡ p.name.bytes = ap (λ o. option_map_or (λ (q : Prototype). q.name.bytes) o []) at in
    let here : bytes_eq name.bytes p.name.bytes ≡ true = ap (bytes_eq name.bytes) (sym same) ∙ own_bytes name.bytes in
    let wrong : Some name.at ≡ None =
    ap (λ b. if b then Some name.at else None) (sym here) ∙ (none_in (proto_in p.name.bytes) (Proto ret name params) statements none).0 in
    cc wrong
has_place (Proto ret name params ∷ statements) (suc k) p at none =
    has_place statements k p at (none_in (proto_in p.name.bytes) (Proto ret name params) statements none).1

-- ---- the parts of a flaw

module _ (tree : Tree) (sound : HasNoShapeFlaw tree) (none : HasNoAnswerFlaw tree) where
  abbrev facts : Facts
  facts = shape_of_text tree

  abbrev ss : List Statement
  ss = tree.statements

  abbrev d : Described
  d = described_of_text tree

  parts : (kind : AnswerFaultKind) → (head_flaw kind facts tree ≡ None) × (first_in (statement_flaw kind facts) ss ≡ None) × (funs_flaw kind facts ss 1 facts.funs ≡ None)
  parts kind =
      let a = neither (head_flaw kind facts tree) (option_or (first_in (statement_flaw kind facts) ss) (option_or (funs_flaw kind facts ss 1 facts.funs) (repeat_place kind [] ss))) (none kind) in
      let b = neither (first_in (statement_flaw kind facts) ss) (option_or (funs_flaw kind facts ss 1 facts.funs) (repeat_place kind [] ss)) a.1 in
      let c = neither (funs_flaw kind facts ss 1 facts.funs) (repeat_place kind [] ss) b.1 in
      (a.0, b.0, c.0)

  later : first_in not_yet_in ss ≡ None
  later = (parts NotYet).1

  -- the facts at the head
  alone : (is_never facts.parents ≡ true) × (facts.subtree ≡ false) × (facts.resc_data ≡ false)
  alone =
      let a = neither (then_some (not (is_never facts.parents)) tree.facts.parent.at) (option_or (then_some facts.subtree tree.facts.close.at) (then_some facts.resc_data tree.facts.resc_data.at)) (parts NotYet).0 in
      let b = neither (then_some facts.subtree tree.facts.close.at) (then_some facts.resc_data tree.facts.resc_data.at) a.1 in
      (no_it (is_never facts.parents) (not_told (not (is_never facts.parents)) tree.facts.parent.at a.0), not_told facts.subtree tree.facts.close.at b.0, not_told facts.resc_data tree.facts.resc_data.at b.1)

  -- each function by its number
  fun_none : (kind : AnswerFaultKind) (n : ℕ) (funs : List Fun) → funs_flaw kind facts ss n funs ≡ None → (k : ℕ) (f : Fun) → slice_get funs k ≡ Some f → fun_flaw kind facts ss (n + k) f ≡ None
  fun_none kind n [] is k f at = absurd (cc at)
  fun_none kind n (g ∷ funs) is zero f at =
      let first : n ≡ n + 0 = omega arith in
      let same : g ≡ f = cc at in
      let here = (neither (fun_flaw kind facts ss n g) (funs_flaw kind facts ss (suc n) funs) is).0 in
      ap (λ m. fun_flaw kind facts ss m f) (sym first) ∙ ap (fun_flaw kind facts ss n) (sym same) ∙ here
  fun_none kind n (g ∷ funs) is (suc k) f at =
      let next : n + suc k ≡ suc n + k = omega arith in
      ap (λ m. fun_flaw kind facts ss m f) next ∙ fun_none kind (suc n) funs (neither (fun_flaw kind facts ss n g) (funs_flaw kind facts ss (suc n) funs) is).1 k f at

  abbrev proto_flaw : AnswerFaultKind → ℕ → Fun → Option ℕ
  proto_flaw kind n f = if is_flawed kind facts ss n f then proto_place f.name ss else None

  fun_parts : (kind : AnswerFaultKind) (k : ℕ) (f : Fun) → slice_get facts.funs k ≡ Some f → (proto_flaw kind (1 + k) f ≡ None) × (first_in (rule_flaw kind facts f) (rules_said f.name ss) ≡ None)
  fun_parts kind k f at = neither (proto_flaw kind (1 + k) f) (first_in (rule_flaw kind facts f) (rules_said f.name ss)) (fun_none kind 1 facts.funs (parts kind).2 k f at)

  -- the prototype of a function
  of_proto : (k : ℕ) (f : Fun) → slice_get facts.funs k ≡ Some f → (p : Prototype) × (slice_get (protos_of ss) k ≡ Some p) × (function_of ss p ≡ f)
  of_proto k f at = mapped_at (function_of ss) (protos_of ss) k f (ap (λ funs. slice_get funs k) (sym (own_funs tree sound)) ∙ at)

  placed : (k : ℕ) (f : Fun) → slice_get facts.funs k ≡ Some f → proto_place f.name ss ≡ None → ⊥
  placed k f at absent =
      let p = of_proto k f at in
      has_place ss k p.0 p.1 (ap (λ (g : Fun). proto_place g.name ss) p.2 ∙ absent)

  -- a function has no flaw that stands at its prototype
  unflawed : (kind : AnswerFaultKind) (k : ℕ) (f : Fun) → slice_get facts.funs k ≡ Some f → is_flawed kind facts ss (1 + k) f ≡ false
  unflawed kind k f at = not_held (is_flawed kind facts ss (1 + k) f) (proto_place f.name ss) (placed k f at) (fun_parts kind k f at).0

  -- ---- each function is plain

  implied : (a b : Bool) → (a && not b) ≡ false → implies a b ≡ true
  implied true b is = no_it b is
  implied false b is = refl

  count : length d.most ≡ length facts.fields
  count = length-map facts.fields (λ (x : Field). most_of ss x.name)

  own_fields : facts.fields ≡ fields_of_text ss
  unfolding shape_of_text
  own_fields = refl

  effects_within : (p : Prototype) → list_all (λ e. nat_lt e.0 (length d.most)) (function_of ss p).effects ≡ true
  effects_within p =
      let as_many : length (fields_of_text ss) ≡ length d.most = ap length (sym own_fields) ∙ sym count in
      numbered_within 0 (length d.most) (fields_of_text ss) _ (omega (arith, as_many))

  query_none : (p : Prototype) → (function_of ss p).query ≡ false
  query_none p = no_query_in p.name.bytes ss later

  fun_plain : (k : ℕ) (f : Fun) → slice_get facts.funs k ≡ Some f → is_plain_fun d (1 + k) f ≡ true
  fun_plain k f at =
      let p = of_proto k f at in
      let query : f.query ≡ false = ap (λ (g : Fun). g.query) (sym p.2) ∙ query_none p.0 in
      let effects : list_all (λ e. nat_lt e.0 (length d.most)) f.effects ≡ true = ap (λ (g : Fun). list_all (λ e. nat_lt e.0 (length d.most)) g.effects) (sym p.2) ∙ effects_within p.0 in
      let texts : implies (is_replayed facts (1 + k)) (list_all is_plain_kind f.kinds) ≡ true = implied (is_replayed facts (1 + k)) (list_all is_plain_kind f.kinds) (unflawed NotYet k f at) in
      and_from (not f.query && list_all (λ e. nat_lt e.0 (length d.most)) f.effects) (implies (is_replayed facts (1 + k)) (list_all is_plain_kind f.kinds))
      (and_from (not f.query) (list_all (λ e. nat_lt e.0 (length d.most)) f.effects) (not_it f.query query) effects) texts

  -- ---- so are its rules

  own_rules : (k : ℕ) (f : Fun) → slice_get facts.funs k ≡ Some f → rules_at d (1 + k) ≡ answer_of facts ss f
  own_rules k f at =
      let next : 1 + k ≡ suc k = omega arith in
      ap (rules_at d) next ∙ ap (λ o. unwrap_or o []) (slice_get-map (answer_of facts ss) facts.funs k ∙ ap (option_map (answer_of facts ss)) at)

  has_word : (wants gives answers : Bool) → (gives ≡ true → answers ≡ true) → (wants && not gives) ≡ false → implies wants answers ≡ true
  has_word true gives answers more is = more (no_it gives is)
  has_word false gives answers more is = refl

  rules_all : (k : ℕ) (f : Fun) → slice_get facts.funs k ≡ Some f → (list_all (is_plain_rule f) (answer_of facts ss f) && implies (wants_word f) (always_gives (answer_of facts ss f))) ≡ true
  rules_all k f at =
      let said = rules_said f.name ss in
      and_from (list_all (is_plain_rule f) (answer_of facts ss f)) (implies (wants_word f) (always_gives (answer_of facts ss f)))
      (rules_plain facts f said (λ kind. (fun_parts kind k f at).1))
      (has_word (wants_word f) (list_any gives_always said) (always_gives (answer_of facts ss f)) (λ gives. rules_give facts f said gives) (unflawed NoWord k f at))

  rules_at_plain : (k : ℕ) (f : Fun) → slice_get facts.funs k ≡ Some f → are_plain_rules d (1 + k) f ≡ true
  rules_at_plain k f at =
      ap (λ rules. list_all (is_plain_rule f) rules && implies (wants_word f) (always_gives rules)) (own_rules k f at) ∙ rules_all k f at

  -- ---- transitions

  six_parts : (a b c m e f : Bool) → (a && b && c && m && e && f) ≡ true → m ≡ true
  six_parts a b c m e f all = (and_parts (a && b && c) m (and_parts (a && b && c && m) e (and_parts (a && b && c && m && e) f all).0).0).1

  moves_named : list_all (are_funs (length facts.funs)) facts.moves ≡ true
  moves_named =
      six_parts (nat_le (length facts.funs) most_funs) (nat_le (length facts.fields) most_fields) (all_differ (map (λ (f : Fun). f.name) facts.funs))
      (list_all (are_funs (length facts.funs)) facts.moves) (list_all (are_funs (length facts.funs)) facts.steps) (list_all (λ (f : Fun). leaves_fun (length facts.funs) f.leaves) facts.funs)
      (fits tree sound)

  move_plain : (p : ℕ × ℕ) → are_funs (length facts.funs) p ≡ true → is_plain_move d p ≡ true
  move_plain p is =
      (and_parts (nat_le 1 p.0) (nat_le p.0 (length facts.funs)) (and_parts (is_fun (length facts.funs) p.0) (is_fun (length facts.funs) p.1) is).0).1

  moves_plain : list_all (is_plain_move d) facts.moves ≡ true
  moves_plain =
      all_pass (is_plain_move d) facts.moves
      (λ k p at. move_plain p (each_passes (are_funs (length facts.funs)) facts.moves k p moves_named at))

  -- ---- the whole

  words : list_all (λ (f : Field). not f.text) facts.fields ≡ true
  words = ap (list_all (λ (f : Field). not f.text)) own_fields ∙ fields_plain ss later

  mosts : list_all (λ m. nat_le m last_word) d.most ≡ true
  mosts = list_all-map (λ m. nat_le m last_word) (λ (x : Field). most_of ss x.name) facts.fields ∙ all_pass (λ (x : Field). nat_le (most_of ss x.name) last_word) facts.fields (λ k x at. most_within (most_said x.name ss))

  answers : nat_le (length d.answers) (length facts.funs) ≡ true
  answers = let same = length-map facts.funs (answer_of facts ss) in le-leb (length d.answers) (length facts.funs) (omega (arith, same))

  all_eleven : (a b c e f g h i j k l : Bool) → a ≡ true → b ≡ true → c ≡ true → e ≡ true → f ≡ true → g ≡ true → h ≡ true → i ≡ true → j ≡ true → k ≡ true → l ≡ true
      → (a && b && c && e && f && g && h && i && j && k && l) ≡ true
  all_eleven a b c e f g h i j k l ia ib ic ie iff ig ih ii ij ik il =
      and_from (a && b && c && e && f && g && h && i && j && k) l (and_from (a && b && c && e && f && g && h && i && j) k (and_from (a && b && c && e && f && g && h && i) j
      (and_from (a && b && c && e && f && g && h) i (and_from (a && b && c && e && f && g) h (and_from (a && b && c && e && f) g (and_from (a && b && c && e) f (and_from (a && b && c) e
      (and_from (a && b) c (and_from a b ia ib) ic) ie) iff) ig) ih) ii) ij) ik) il

  pub plain : is_plain (described_of_text tree) ≡ true
  plain =
      all_eleven _ _ _ _ _ _ _ _ _ _ _ (keeps tree sound) alone.0 (not_it facts.subtree alone.1) (not_it facts.resc_data alone.2) words (eq-eqb (length d.most) (length facts.fields) count) mosts answers
      moves_plain (all_from_each (is_plain_fun d) 1 facts.funs fun_plain) (all_from_each (are_plain_rules d) 1 facts.funs rules_at_plain)
