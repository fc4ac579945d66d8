-- A text in which nothing is wrong declares an interface that fits.
use Rattle.std.proofs.Common.{◌≡◌, ◌⊎◌, ℕ, zero, suc, ◌+◌, ◌<◌, ◌≤◌, Bool, true, false, ◌&&◌, ◌||◌, not, List, [], ◌∷◌, ◌++◌, None, Some, length, map, refl, sym, ◌∙◌, ap, subst, inl, inr, arith, append-nil, append_assoc}
use Rattle.std.specs.Prelude.{◌==◌, if◌then◌else◌, codes, filter, nat_le, unwrap_or}
use Rattle.std.specs.declared.option.Option.{Option}
use Rattle.std.specs.List.{list_all, list_any}
use Rattle.std.specs.Str.{bytes_eq}
use Rattle.std.proofs.lemmas.Bool.{and_parts, cases_Bool}
use Rattle.std.proofs.lemmas.Bool.Decides.{nat_tests}
use Rattle.std.proofs.lemmas.Slice.Eq.{bytes_eq-Decides}
use Rattle.sg_check_statements.specs.sg_facts.declared.shape.Leaves.{Leaves}
use Rattle.sg_check_statements.specs.sg_facts.declared.shape.Leaves.TheVariants.{Own, Same, Of}
use Rattle.sg_check_statements.specs.sg_facts.Facts.{Facts, Fun, fun_at}
use Rattle.sg_check_statements.specs.sg_facts.Inside.Rows.{left_by}
use Rattle.sg_check_statements.specs.sg_facts.Fits.{Fits, needs_reach}
use Rattle.sg_check_statements.specs.sg_facts.Inside.Walking.{LeavesDeclared}
use Rattle.sg_check_statements.specs.sg_facts.Interface.{Declared, declares, has_pair, moves_on, steps_on}
use Rattle.sg_check_statements.specs.sg_facts.Walks.{IsReachable, made, moved}
use Rattle.sg_check_statements.specs.sg_parse.sg_lex.Lexeme.{Spelling as Named}
use Rattle.sg_check_statements.specs.sg_parse.declared.tree.Param.{Param}
use Rattle.sg_check_statements.specs.sg_parse.declared.tree.Ret.{Ret}
use Rattle.sg_check_statements.specs.sg_parse.declared.tree.Statement.{Statement}
use Rattle.sg_check_statements.specs.sg_parse.declared.tree.Statement.TheVariants.{Two, Proto}
use Rattle.sg_check_statements.specs.sg_parse.declared.tree.Tree.{Tree}
use Rattle.sg_check_statements.specs.declared.fault.CheckKind.TheVariants.{NoCreation, NoWalk, UnknownFunction, Unreached, WrongFlag}
use Rattle.sg_check_statements.specs.Faults.{IsFirstStatement, interface_of}
use Rattle.sg_check_statements.specs.Inside.Pieces.{NoStatement, IsUnreached, fit_flags, unknown, wrong_flag, is_proto, is_two}
use Rattle.sg_check_statements.specs.Flaws.{fit_leaves, leaves_another, HasNoWalk, IsProtoWhere, fun_of_name, is_declared}
use Rattle.sg_check_statements.specs.Says.{fun_number, fun_number_from, has_proto, names_two, says, says_of}
use Rattle.std.specs.Bool.{then_some}
use Rattle.std.specs.Option.{option_or}
use Rattle.sg_check_statements.specs.NameSet.{has_name}
use Rattle.sg_check_statements.specs.Stages.{IsClear}
use Rattle.sg_check_statements.proofs.Firsts.{none_at_all, none_more}
use Rattle.sg_check.specs.Inside.Candidates.{HasReach, HasWalks}
use Rattle.sg_check_statements.specs.Shapes.{all_differ, are_funs, is_fun, is_shape, leaves_fun}
use Rattle.sg_check.proofs.Bits.{declared_one, one_declared}
use Rattle.sg_check.proofs.Calls.{or_cases, or_right, same_number}

true_is : (b : Bool) → b ≡ true → b ≡ false → ⊥
true_is b is isn't = cc (is, isn't)

same_bytes : (xs ys : List ℕ) → bytes_eq xs ys ≡ true → xs ≡ ys
same_bytes xs ys is = (bytes_eq-Decides xs ys).0 is

bytes_same : (xs ys : List ℕ) → xs ≡ ys → bytes_eq xs ys ≡ true
bytes_same xs ys is = (bytes_eq-Decides xs ys).1 is

-- ---- statements with a flaw, where it can be told

module _ (Flaw : List Statement → Statement → ℕ → Type 0) (tell : (before : List Statement) (one : Statement) → ((place : ℕ) → Flaw before one place → ⊥) ⊎ ((place : ℕ) × Flaw before one place)) where
  from_here : (seen rest : List Statement) → NoStatement Flaw seen → NoStatement Flaw (seen ++ rest) ⊎ ((at : ℕ) × IsFirstStatement Flaw (seen ++ rest) at)
  from_here seen [] none = inl (subst (NoStatement Flaw) (sym (append-nil seen)) none)
  from_here seen (x ∷ rest) none = elim (tell seen x) [
    | inl sound ↦ subst (λ l. NoStatement Flaw l ⊎ ((at : ℕ) × IsFirstStatement Flaw l at)) (append_assoc seen (x ∷ []) rest) (from_here (seen ++ x ∷ []) rest (none_more Flaw seen x none sound))
    | inr found ↦ inr (
      found.0,
      record {
        before = seen;
        one = x;
        after = rest;
        split = refl;
        flaw = found.1;
        none = none;
      },
    )
  ]

  -- where none is the first, there is none
  none_from : (statements : List Statement) → ((at : ℕ) → IsFirstStatement Flaw statements at → ⊥) → NoStatement Flaw statements
  none_from statements clear = elim (from_here [] statements (none_at_all Flaw)) [
    | inl none ↦ none
    | inr first ↦ absurd (clear first.0 first.1)
  ]

tell_place : (found : Option ℕ) → ((place : ℕ) → found ≡ Some place → ⊥) ⊎ ((place : ℕ) × (found ≡ Some place))
tell_place None = inl (λ place is. cc is)
tell_place (Some at) = inr (at, refl)

tell_proto : (facts : Facts) (P : ℕ → Type 0) → ((n : ℕ) → P n ⊎ (P n → ⊥)) → (one : Statement)
    → ((place : ℕ) → IsProtoWhere facts P one place → ⊥) ⊎ ((place : ℕ) × IsProtoWhere facts P one place)
tell_proto facts P known (Proto ret name params) = elim (known (unwrap_or (fun_number facts.funs name.bytes) 0)) [
  | inl is ↦ inr (name.at, (refl, is))
  | inr isn't ↦ inl (λ place (at, is). isn't is)
]
tell_proto facts P known _ = inl (λ place is. is)

-- a statement that is found stands somewhere
found_one : (p : Statement → Bool) (statements : List Statement) → list_any p statements ≡ true
    → (before : List Statement) × (one : Statement) × (after : List Statement) × (statements ≡ before ++ one ∷ after) × (p one ≡ true)
found_one p [] is = absurd (cc is)
found_one p (x ∷ statements) is = elim (or_cases (p x) (list_any p statements) is) [
  | inl here ↦ ([], x, statements, refl, here)
  | inr later ↦
      let rest = found_one p statements later in
      (x ∷ rest.0, rest.1, rest.2, ap (λ l. x ∷ l) rest.3, rest.4)
]

-- ---- names and numbers of functions

has_at : (funs : List Fun) (n : ℕ) (name : List ℕ) → n < length funs → bytes_eq (fun_at funs (suc n)).name name ≡ true → has_name (map (λ f. f.name) funs) name ≡ true
has_at [] n name within is = absurd (omega (arith, within))
has_at (f ∷ funs) zero name within is = ap (λ b. b || has_name (map (λ g. g.name) funs) name) is
has_at (f ∷ funs) (suc n) name within is = or_right (bytes_eq f.name name) (has_name (map (λ g. g.name) funs) name) (has_at funs n name (omega (arith, within)) is)

-- a function is found by its name
own_number : (funs : List Fun) (n k : ℕ) → all_differ (map (λ f. f.name) funs) ≡ true → n < length funs → fun_number_from k funs (fun_at funs (suc n)).name ≡ Some (k + n)
own_number [] n k differ within = absurd (omega (arith, within))
own_number (f ∷ funs) zero k differ within =
    let none : k + 0 ≡ k = omega arith in
    ap (λ b. if b then Some k else fun_number_from (k + 1) funs f.name) (bytes_same f.name f.name refl) ∙ ap Some (sym none)
own_number (f ∷ funs) (suc n) k differ within =
    let name : List ℕ = (fun_at funs (suc n)).name in
    let parts = and_parts (not (has_name (map (λ g. g.name) funs) f.name)) (all_differ (map (λ g. g.name) funs)) differ in
    let next : (k + 1) + n ≡ k + suc n = omega arith in
    let other : bytes_eq f.name name ≡ false = elim (cases_Bool (bytes_eq f.name name)) [
      | inl is ↦
          let there : has_name (map (λ g. g.name) funs) f.name ≡ true = has_at funs n f.name (omega (arith, within)) (bytes_same name f.name (sym (same_bytes f.name name is))) in
          let no : not true ≡ true = ap not (sym there) ∙ parts.0 in absurd (cc no)
      | inr isn't ↦ isn't
    ] in
    ap (λ b. if b then Some k else fun_number_from (k + 1) funs name) other ∙ own_number funs n (k + 1) parts.1 (omega (arith, within)) ∙ ap Some next

-- a function that is found by a test
found_fun : (p : Fun → Bool) (funs : List Fun) → list_any p funs ≡ true → (n : ℕ) × (n < length funs) × (p (fun_at funs (suc n)) ≡ true)
found_fun p [] is = absurd (cc is)
found_fun p (f ∷ funs) is = elim (or_cases (p f) (list_any p funs) is) [
  | inl here ↦ (0, omega arith, here)
  | inr later ↦ let rest = found_fun p funs later in (suc rest.0, omega (arith, rest.1), rest.2)
]

all_funs : (p : Fun → Bool) (funs : List Fun) (n : ℕ) → list_all p funs ≡ true → n < length funs → p (fun_at funs (suc n)) ≡ true
all_funs p [] n all within = absurd (omega (arith, within))
all_funs p (f ∷ funs) zero all within = (and_parts (p f) (list_all p funs) all).0
all_funs p (f ∷ funs) (suc n) all within = all_funs p funs n (and_parts (p f) (list_all p funs) all).1 (omega (arith, within))

-- ---- pairs

same_pair : (p : ℕ × ℕ) (a b : ℕ) → ((p.0 == a) && (p.1 == b)) ≡ true → p ≡ (a, b)
same_pair p a b is =
    let parts = and_parts (p.0 == a) (p.1 == b) is in
    ap (λ n. (n, p.1)) (same_number p.0 a parts.0) ∙ ap (λ n. (a, n)) (same_number p.1 b parts.1)

-- a pair of those that pass is a pair, and passes
kept_pair : (test : ℕ × ℕ → Bool) (pairs : List (ℕ × ℕ)) (a b : ℕ) → has_pair (filter test pairs) a b ≡ true → (has_pair pairs a b ≡ true) × (test (a, b) ≡ true)
kept_pair test [] a b is = absurd (cc is)
kept_pair test (p ∷ pairs) a b is = elim (cases_Bool (test p)) [
  | inl passes ↦
      let has : has_pair (p ∷ filter test pairs) a b ≡ true = ap (λ t. has_pair (if t then p ∷ filter test pairs else filter test pairs) a b) (sym passes) ∙ is in
      elim (or_cases ((p.0 == a) && (p.1 == b)) (has_pair (filter test pairs) a b) has) [
        | inl here ↦ (ap (λ t. t || has_pair pairs a b) here, ap test (sym (same_pair p a b here)) ∙ passes)
        | inr later ↦ let rest = kept_pair test pairs a b later in (or_right ((p.0 == a) && (p.1 == b)) (has_pair pairs a b) rest.0, rest.1)
      ]
  | inr fails ↦
      let has : has_pair (filter test pairs) a b ≡ true = ap (λ t. has_pair (if t then p ∷ filter test pairs else filter test pairs) a b) (sym fails) ∙ is in
      let rest = kept_pair test pairs a b has in (or_right ((p.0 == a) && (p.1 == b)) (has_pair pairs a b) rest.0, rest.1)
]

all_pairs : (test : ℕ × ℕ → Bool) (pairs : List (ℕ × ℕ)) (a b : ℕ) → list_all test pairs ≡ true → has_pair pairs a b ≡ true → test (a, b) ≡ true
all_pairs test [] a b all is = absurd (cc is)
all_pairs test (p ∷ pairs) a b all is =
    let parts = and_parts (test p) (list_all test pairs) all in
    elim (or_cases ((p.0 == a) && (p.1 == b)) (has_pair pairs a b) is) [
      | inl here ↦ ap test (sym (same_pair p a b here)) ∙ parts.0
      | inr later ↦ all_pairs test pairs a b parts.1 later
    ]

-- ---- a number of a function

within_number : (count n : ℕ) → is_fun count n ≡ true → (m : ℕ) × (n ≡ suc m) × (m < count)
within_number count zero is = let no : nat_le 1 0 ≡ false = grind (arith, nat_tests) in absurd (cc ((and_parts (nat_le 1 0) (nat_le 0 count) is).0, no))
within_number count (suc m) is =
    let few : suc m ≤ count = grind (arith, nat_tests, (and_parts (nat_le 1 (suc m)) (nat_le (suc m) count) is).1) in
    (m, refl, omega (arith, few))

no_place : (b : Bool) (at : ℕ) → ((place : ℕ) → then_some (not b) at ≡ Some place → ⊥) → b ≡ true
no_place true at none = refl
no_place false at none = absurd (none at refl)

two_places : (a b c : Bool) (here there : ℕ) → ((place : ℕ) → option_or (then_some (not a) here) (then_some (b && not c) there) ≡ Some place → ⊥) → b ≡ true → (a ≡ true) × (c ≡ true)
two_places false b c here there none is = absurd (none here refl)
two_places true true true here there none is = (refl, refl)
two_places true true false here there none is = absurd (none there refl)
two_places true false c here there none is = absurd (cc is)

pub all_six : (a b c d e f : Bool) → (a && b && c && d && e && f) ≡ true → (a ≡ true) × (b ≡ true) × (c ≡ true) × (d ≡ true) × (e ≡ true) × (f ≡ true)
all_six true true true true true true is = (refl, refl, refl, refl, refl, refl)
all_six false b c d e f is = absurd (cc is)
all_six true false c d e f is = absurd (cc is)
all_six true true false d e f is = absurd (cc is)
all_six true true true false e f is = absurd (cc is)
all_six true true true true false f is = absurd (cc is)
all_six true true true true true false is = absurd (cc is)

middle : (a b c : Bool) → (a && b && c) ≡ true → b ≡ true
middle true true c is = refl
middle true false c is = absurd (cc is)
middle false b c is = absurd (cc is)

last_of : (a b : Bool) → (a && b) ≡ true → b ≡ true
last_of true b is = is
last_of false b is = absurd (cc is)

module _ (services : List Facts) (tree : Tree) (facts : Facts) (shape : is_shape facts ≡ true) (clear : IsClear services tree facts 12) where
  abbrev iface : Declared
  iface = interface_of facts tree

  abbrev count : ℕ
  count = length facts.funs

  parts : (nat_le count 32 ≡ true) × (nat_le (length facts.fields) 8 ≡ true) × (all_differ (map (λ f. f.name) facts.funs) ≡ true)
      × (list_all (are_funs count) facts.moves ≡ true) × (list_all (are_funs count) facts.steps ≡ true) × (list_all (λ f. leaves_fun count f.leaves) facts.funs ≡ true)
  parts = all_six (nat_le count 32) (nat_le (length facts.fields) 8) (all_differ (map (λ f. f.name) facts.funs)) (list_all (are_funs count) facts.moves)
      (list_all (are_funs count) facts.steps) (list_all (λ f. leaves_fun count f.leaves) facts.funs) shape

  -- ---- what isn't wrong

  none_unknown : NoStatement (λ before s p. unknown facts tree.statements s ≡ Some p) tree.statements
  none_unknown = none_from (λ before s p. unknown facts tree.statements s ≡ Some p) (λ before s. tell_place (unknown facts tree.statements s)) tree.statements
      (λ at first. clear.none UnknownFunction at (omega arith) (facts, clear.service, first))

  none_wrong : NoStatement (λ before s p. wrong_flag facts tree.statements s ≡ Some p) tree.statements
  none_wrong = none_from (λ before s p. wrong_flag facts tree.statements s ≡ Some p) (λ before s. tell_place (wrong_flag facts tree.statements s)) tree.statements
      (λ at first. clear.none WrongFlag at (omega arith) (facts, clear.service, first))

  none_where : (P : ℕ → Type 0) → ((n : ℕ) → P n ⊎ (P n → ⊥)) → ((at : ℕ) → IsFirstStatement (λ before s p. IsProtoWhere facts P s p) tree.statements at → ⊥)
      → NoStatement (λ before s p. IsProtoWhere facts P s p) tree.statements
  none_where P known none = none_from (λ before s p. IsProtoWhere facts P s p) (λ before s. tell_proto facts P known s) tree.statements none

  -- ---- prototypes

  record HasProto (name : List ℕ) : Type 0 where
    before : List Statement
    ret : Ret
    named : Named
    params : List Param
    after : List Statement
    split : tree.statements ≡ before ++ Proto ret named params ∷ after
    is : named.bytes ≡ name

  proto_from : (name : List ℕ) (before : List Statement) (one : Statement) (after : List Statement) → tree.statements ≡ before ++ one ∷ after → is_proto name one ≡ true → HasProto name
  proto_from name before (Proto ret named params) after split is = record {
    before = before;
    ret = ret;
    named = named;
    params = params;
    after = after;
    split = split;
    is = same_bytes named.bytes name is;
  }
  proto_from name before _ after split is = absurd (cc is)

  proto_of : (name : List ℕ) → has_proto tree.statements name ≡ true → HasProto name
  proto_of name has =
      let found = found_one (is_proto name) tree.statements has in
      proto_from name found.0 found.1 found.2 found.3 found.4

  -- a function with a prototype is none of which something holds that no prototype's has
  not_where : (P : ℕ → Type 0) → NoStatement (λ before s p. IsProtoWhere facts P s p) tree.statements → (fun : ℕ) → declares iface fun ≡ true → P fun → ⊥
  not_where P none fun declared holds =
      let it = declared_one facts tree fun declared in
      let name : List ℕ = (fun_at facts.funs fun).name in
      let proto = proto_of name it.3 in
      let found : fun_number facts.funs name ≡ Some fun =
      ap (λ n. fun_number facts.funs (fun_at facts.funs n).name) it.1 ∙ own_number facts.funs it.0 1 parts.2 it.2 ∙ ap Some (omega arith ∙ sym it.1) in
      let same : unwrap_or (fun_number facts.funs proto.named.bytes) 0 ≡ fun = ap (λ b. unwrap_or (fun_number facts.funs b) 0) proto.is ∙ ap (λ o. unwrap_or o 0) found in
      none proto.before (Proto proto.ret proto.named proto.params) proto.after proto.named.at proto.split (refl, subst P (sym same) holds)

  -- ---- names that statements name

  both_from : (w f g : List ℕ) → names_two w ≡ true → (before : List Statement) (one : Statement) (after : List Statement) → tree.statements ≡ before ++ one ∷ after → is_two w f g one ≡ true
      → (has_proto tree.statements f ≡ true) × (has_proto tree.statements g ≡ true)
  both_from w f g names before (Two word first second) after split is =
      let heads = and_parts (bytes_eq word.bytes w && bytes_eq first.bytes f) (bytes_eq second.bytes g) is in
      let words = and_parts (bytes_eq word.bytes w) (bytes_eq first.bytes f) heads.0 in
      let told = two_places (has_proto tree.statements first.bytes) (names_two word.bytes) (has_proto tree.statements second.bytes) first.at second.at
      (λ place flaw. none_unknown before (Two word first second) after place split flaw) (ap names_two (same_bytes word.bytes w words.0) ∙ names) in
      (ap (has_proto tree.statements) (sym (same_bytes first.bytes f words.1)) ∙ told.0, ap (has_proto tree.statements) (sym (same_bytes second.bytes g heads.1)) ∙ told.1)
  both_from w f g names before _ after split is = absurd (cc is)

  both_declared : (w f g : List ℕ) → names_two w ≡ true → says_of tree.statements w f g ≡ true → (has_proto tree.statements f ≡ true) × (has_proto tree.statements g ≡ true)
  both_declared w f g names is =
      let found = found_one (is_two w f g) tree.statements is in
      both_from w f g names found.0 found.1 found.2 found.3 found.4

  number_declared : (n : ℕ) → is_fun count n ≡ true → has_proto tree.statements (fun_at facts.funs n).name ≡ true → declares iface n ≡ true
  number_declared n is has =
      let it = within_number count n is in
      ap (declares iface) it.1 ∙ one_declared facts tree it.0 it.2 (ap (λ m. has_proto tree.statements (fun_at facts.funs m).name) (sym it.1) ∙ has)

  pair_declared : (w : List ℕ) (pairs : List (ℕ × ℕ)) (a b : ℕ) → names_two w ≡ true → list_all (are_funs count) pairs ≡ true
      → has_pair (filter (λ p. says_of tree.statements w (fun_at facts.funs p.0).name (fun_at facts.funs p.1).name) pairs) a b ≡ true
      → (has_pair pairs a b ≡ true) × ((declares iface a ≡ true) × (declares iface b ≡ true))
  pair_declared w pairs a b names all is =
      let kept = kept_pair (λ p. says_of tree.statements w (fun_at facts.funs p.0).name (fun_at facts.funs p.1).name) pairs a b is in
      let numbers = and_parts (is_fun count a) (is_fun count b) (all_pairs (are_funs count) pairs a b all kept.0) in
      let both = both_declared w (fun_at facts.funs a).name (fun_at facts.funs b).name names kept.1 in
      (kept.0, (number_declared a numbers.0 both.0, number_declared b numbers.1 both.1))

  -- ---- states that functions leave

  fun_named_own : (n : ℕ) → n < count → fun_of_name facts (fun_at facts.funs (suc n)).name ≡ fun_at facts.funs (suc n)
  fun_named_own n within =
      let next : 1 + n ≡ suc n = omega arith in
      ap (λ o. fun_at facts.funs (unwrap_or o 0)) (own_number facts.funs n 1 parts.2 within) ∙ ap (fun_at facts.funs) next

  leaves_of : (name : List ℕ) (l : Leaves) → leaves_fun count l ≡ true → fit_leaves facts tree.statements name l ≡ true → LeavesDeclared iface l
  leaves_of name Own is fit = tt
  leaves_of name Same is fit = tt
  leaves_of name (Of other) is fit =
      let says : says_of tree.statements (codes "sm_state") name (fun_at facts.funs other).name ≡ true =
      middle (not (says tree.statements (codes "sm_keep") name)) (says_of tree.statements (codes "sm_state") name (fun_at facts.funs other).name)
      (not (list_any (leaves_another name (fun_at facts.funs other).name) tree.statements)) fit in
      number_declared other is (both_declared (codes "sm_state") name (fun_at facts.funs other).name refl says).1

  declared_fits : (name : List ℕ) → is_declared facts tree.statements name ≡ true → fit_leaves facts tree.statements name (fun_of_name facts name).leaves ≡ true
  unfolding is_declared
  declared_fits name is = last_of (fit_flags tree.statements name (fun_of_name facts name)) (fit_leaves facts tree.statements name (fun_of_name facts name).leaves) is

  leaves_declared : (fun : ℕ) → declares iface fun ≡ true → LeavesDeclared iface (fun_at facts.funs fun).leaves
  leaves_declared fun declared =
      let it = declared_one facts tree fun declared in
      let f : Fun = fun_at facts.funs fun in
      let proto = proto_of f.name it.3 in
      let fit : is_declared facts tree.statements proto.named.bytes ≡ true =
      no_place (is_declared facts tree.statements proto.named.bytes) proto.named.at (λ place flaw. none_wrong proto.before (Proto proto.ret proto.named proto.params) proto.after place proto.split flaw) in
      let own : fun_of_name facts f.name ≡ f = ap (λ n. fun_of_name facts (fun_at facts.funs n).name) it.1 ∙ fun_named_own it.0 it.2 ∙ ap (fun_at facts.funs) (sym it.1) in
      let leaves : leaves_fun count f.leaves ≡ true = ap (λ n. leaves_fun count (fun_at facts.funs n).leaves) it.1 ∙ all_funs (λ g. leaves_fun count g.leaves) facts.funs it.0 parts.5 it.2 in
      leaves_of f.name f.leaves leaves (ap (λ g. fit_leaves facts tree.statements f.name g.leaves) (sym own) ∙ declared_fits f.name (ap (is_declared facts tree.statements) (sym proto.is) ∙ fit))

  left_declared : (l : Leaves) (fun state : ℕ) → LeavesDeclared iface l → declares iface fun ≡ true → declares iface state ≡ true → declares iface (left_by l fun state) ≡ true
  left_declared Own fun state leaves one other = one
  left_declared Same fun state leaves one other = other
  left_declared (Of another) fun state leaves one other = leaves

  moves_declared : (state fun : ℕ) → moves_on iface state fun ≡ true → (has_pair facts.moves state fun ≡ true) × ((declares iface state ≡ true) × (declares iface fun ≡ true))
  moves_declared state fun is = pair_declared (codes "sm_transition") facts.moves state fun refl parts.3 is

  steps_declared : (state fun : ℕ) → steps_on iface state fun ≡ true → (has_pair facts.steps state fun ≡ true) × ((declares iface state ≡ true) × (declares iface fun ≡ true))
  steps_declared state fun is = pair_declared (codes "sm_recover") facts.steps state fun refl parts.4 is

  -- what descriptors can come to is declared
  state_declared : (by state : ℕ) (set : List Bool) → IsReachable iface by state set → declares iface state ≡ true
  state_declared by state set (made fun set' declared creation leads) = left_declared (fun_at facts.funs fun).leaves fun fun (leaves_declared fun declared) declared declared
  state_declared by state set (moved by' fun state' old new reached moves goes_on leads) =
      let both = (moves_declared state' fun moves).1 in
      left_declared (fun_at facts.funs fun).leaves fun state' (leaves_declared fun both.1) both.1 (state_declared by' state' old reached)

  -- ---- all together

  some_creation : (fun : ℕ) × (declares iface fun ≡ true) × ((fun_at facts.funs fun).creation ≡ true)
  some_creation =
      let any : list_any (λ f. f.creation && has_proto tree.statements f.name) facts.funs ≡ true =
      no_place (list_any (λ f. f.creation && has_proto tree.statements f.name) facts.funs) 0 (λ place flaw. clear.none NoCreation place (omega arith) (facts, clear.service, flaw)) in
      let found = found_fun (λ f. f.creation && has_proto tree.statements f.name) facts.funs any in
      let both = and_parts (fun_at facts.funs (suc found.0)).creation (has_proto tree.statements (fun_at facts.funs (suc found.0)).name) found.2 in
      (suc found.0, one_declared facts tree found.0 found.1 both.1, both.0)

  unreached_known : HasReach iface → (n : ℕ) → IsUnreached iface n ⊎ (IsUnreached iface n → ⊥)
  unreached_known known n = elim (known n) [
    | inl reached ↦ inr (λ un. un.1 reached)
    | inr isn't ↦ elim (cases_Bool (needs_reach iface n)) [
      | inl needs ↦ inl (needs, isn't)
      | inr lacks ↦ inr (λ un. true_is (needs_reach iface n) un.0 lacks)
    ]
  ]

  pub fits : HasReach iface → HasWalks iface → Fits iface
  fits known walks = record {
    funs = λ fun declared. let it = declared_one facts tree fun declared in omega (arith, it.1, it.2);
    moves = λ state fun is. (moves_declared state fun is).0;
    steps = λ state fun is. (steps_declared state fun is).0;
    moves_declared = λ state fun is. (moves_declared state fun is).1;
    steps_declared = λ state fun is. (steps_declared state fun is).1;
    leaves_declared = leaves_declared;
    creation = some_creation;
    reached = λ fun declared needs. elim (known fun) [
      | inl reached ↦ reached
      | inr isn't ↦ absurd (not_where (IsUnreached iface)
          (none_where (IsUnreached iface) (unreached_known known) (λ at first. clear.none Unreached at (omega arith) (facts, clear.service, first))) fun declared (needs, isn't))
    ];
    walks = λ by state set reached. walks.walks by state set reached
        (not_where (HasNoWalk iface) (none_where (HasNoWalk iface) walks.known (λ at first. clear.none NoWalk at (omega arith) (facts, clear.service, first))) state (state_declared by state set reached));
  }
