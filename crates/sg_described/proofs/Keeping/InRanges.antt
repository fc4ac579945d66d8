-- What is known of numbers is so.
use Rattle.std.proofs.Common.{◌≡◌, ℕ, zero, suc, ◌+◌, ◌<◌, ◌≤◌, min, max, Bool, true, false, cond, not, List, [], ◌∷◌, None, Some, refl, sym, ◌∙◌, ap, subst, arith}
use Rattle.std.specs.Prelude.{◌-◌, ◌==◌, ◌&&◌, ◌||◌, if◌then◌else◌, nat_le, nat_lt, slice_get, unwrap_or}
use Rattle.std.specs.List.{list_all, list_any}
use Rattle.std.specs.declared.option.Option.{Option}
use Rattle.std.proofs.lemmas.Bool.Decides.{nat_tests}
use Rattle.sg_facts.specs.sg_base.declared.value.Value.{Value}
use Rattle.sg_facts.specs.sg_base.declared.value.Value.TheVariants.{Word, Text}
use Rattle.sg_facts.specs.Kinds.{AreWords}
use Rattle.sg_facts.specs.Limits.{last_client}
use Rattle.sg_facts.specs.Track.{field_at, first_word, word_of}
use Rattle.sg_described.specs.declared.bounds.Bounds.{Bounds}
use Rattle.sg_described.specs.declared.description.Operand.{Operand}
use Rattle.sg_described.specs.declared.description.Operand.TheVariants.{Number, Caller, State, Argument, Own}
use Rattle.sg_described.specs.declared.description.Term.{Term}
use Rattle.sg_described.specs.declared.description.Term.TheVariants.{Only, Plus, Minus, Least, Greatest}
use Rattle.sg_described.specs.declared.description.Relation.{Relation}
use Rattle.sg_described.specs.declared.description.Relation.TheVariants.{Is, IsNot, Below, Above}
use Rattle.sg_described.specs.declared.description.Test.{Test}
use Rattle.sg_described.specs.declared.description.Verdict.{Verdict}
use Rattle.sg_described.specs.declared.description.Verdict.TheVariants.{Refuse, Wait, Give}
use Rattle.sg_described.specs.Described.{Rule}
use Rattle.sg_described.specs.Known.{Known, after_test, after_tests, after_told, between, is_give, may_stop, never, never_applies, never_stands, operand_in, surely, surely_apart, surely_applies, surely_same, surely_stands, surely_stops, term_in, told_by, with_field, with_state, word_by, word_most}
use Rattle.sg_described.specs.Meaning.{Env, applies, holds, last_word, operand_of, said, stands, term_of, verdict_of, words_in}
use Rattle.sg_described.proofs.Keeping.Answering.{lets_do}
use Rattle.sg_described.proofs.Keeping.Basics.{OneOf, both_true, clash, first, no_it, one_of, same_of, second}

abbrev pub IsIn : Bounds → ℕ → Type 0
IsIn r n = (r.least ≤ n) × (n ≤ r.most)

-- a row of this state with these fields is as it is known to be
pub record IsRowIn (k : Known) (its_state : ℕ) (its_fields : List Value) : Type 0 where
  pub state : IsIn k.state its_state
  pub fields : (x : ℕ) → IsIn (k.fields x) (word_of (field_at its_fields x))

-- arguments are as they are known to be
abbrev pub AreArgsIn : Known → List Value → Type 0
AreArgsIn k args = (a : ℕ) → IsIn (k.args a) (word_of (unwrap_or (slice_get args a) (Word 0)))

-- what rules see is as it is known to be: of a client, with these arguments, on this row
pub record IsEnv (k : Known) (e : Env) : Type 0 where
  pub client_first : 1 ≤ e.client
  pub client_last : e.client ≤ last_client
  pub args : AreArgsIn k e.args
  pub row : IsRowIn k e.state e.fields

pub args_small : (args : List Value) → AreWords args → (k : ℕ) → IsIn (between 0 last_word) (word_of (unwrap_or (slice_get args k) (Word 0)))
args_small [] are k = (omega arith, omega arith)
args_small (Word n ∷ args) are zero = let low = are.0 in (omega arith, omega (arith, low))
args_small (Word n ∷ args) are (suc k) = args_small args are.1 k
args_small (Text bytes ∷ args) are zero = (omega arith, omega arith)
args_small (Text bytes ∷ args) are (suc k) = args_small args are k

-- ---- two numbers

same_so : (p q : Bounds) (m n : ℕ) → IsIn p m → IsIn q n → surely_same p q ≡ true → (m == n) ≡ true
same_so p q m n in_p in_q is =
    let two = both_true ((p.least == p.most) && (q.least == q.most)) (p.least == q.least) is in
    let one = both_true (p.least == p.most) (q.least == q.most) two.0 in
    let a = same_of p.least p.most one.0 in
    let c = same_of q.least q.most one.1 in
    let f = same_of p.least q.least two.1 in
    let same : m ≡ n = omega (arith, a, c, f, in_p.0, in_p.1, in_q.0, in_q.1) in
    grind (arith, nat_tests, same)

apart_so : (p q : Bounds) (m n : ℕ) → IsIn p m → IsIn q n → surely_apart p q ≡ true → (m == n) ≡ false
apart_so p q m n in_p in_q is = elim (one_of (nat_lt p.most q.least) (nat_lt q.most p.least) is) [
  | first below ↦
      let a : p.most < q.least = grind (arith, nat_tests, below) in
      let less : m < n = omega (arith, a, in_p.1, in_q.0) in
      grind (arith, nat_tests, less)
  | second above ↦
      let a : q.most < p.least = grind (arith, nat_tests, above) in
      let less : n < m = omega (arith, a, in_p.0, in_q.1) in
      grind (arith, nat_tests, less)
]

below_so : (p q : Bounds) (m n : ℕ) → IsIn p m → IsIn q n → nat_lt p.most q.least ≡ true → nat_lt m n ≡ true
below_so p q m n in_p in_q is =
    let a : p.most < q.least = grind (arith, nat_tests, is) in
    let less : m < n = omega (arith, a, in_p.1, in_q.0) in
    grind (arith, nat_tests, less)

not_below : (p q : Bounds) (m n : ℕ) → IsIn p m → IsIn q n → nat_le q.most p.least ≡ true → nat_lt m n ≡ false
not_below p q m n in_p in_q is =
    let a : q.most ≤ p.least = grind (arith, nat_tests, is) in
    let less : n ≤ m = omega (arith, a, in_p.0, in_q.1) in
    grind (arith, nat_tests, less)

stands_so : (r : Relation) (p q : Bounds) (m n : ℕ) → IsIn p m → IsIn q n → surely_stands r p q ≡ true → stands r m n ≡ true
stands_so Is p q m n in_p in_q is = same_so p q m n in_p in_q is
stands_so IsNot p q m n in_p in_q is = ap not (apart_so p q m n in_p in_q is)
stands_so Below p q m n in_p in_q is = below_so p q m n in_p in_q is
stands_so Above p q m n in_p in_q is = below_so q p n m in_q in_p is

stands_never : (r : Relation) (p q : Bounds) (m n : ℕ) → IsIn p m → IsIn q n → never_stands r p q ≡ true → stands r m n ≡ false
stands_never Is p q m n in_p in_q is = apart_so p q m n in_p in_q is
stands_never IsNot p q m n in_p in_q is = ap not (same_so p q m n in_p in_q is)
stands_never Below p q m n in_p in_q is = not_below p q m n in_p in_q is
stands_never Above p q m n in_p in_q is = not_below q p n m in_q in_p is

-- ---- rules

module _ (k : Known) (e : Env) (env : IsEnv k e) where
  operand_is : (a : Operand) → IsIn (operand_in k a) (operand_of e a)
  operand_is (Number n) = (omega arith, omega arith)
  operand_is Caller = (env.client_first, env.client_last)
  operand_is State = env.row.state
  operand_is (Argument a) = env.args a
  operand_is (Own x) = env.row.fields x

  pub term_is : (t : Term) → IsIn (term_in k t) (term_of e t)
  term_is (Only a) = operand_is a
  term_is (Plus m n) = let x = operand_is m in let y = operand_is n in (omega (arith, x.0, y.0), omega (arith, x.1, y.1))
  term_is (Minus m n) = let x = operand_is m in let y = operand_is n in (omega (arith, x.0, y.1), omega (arith, x.1, y.0))
  term_is (Least m n) = let x = operand_is m in let y = operand_is n in (omega (arith, x.0, y.0), omega (arith, x.1, y.1))
  term_is (Greatest m n) = let x = operand_is m in let y = operand_is n in (omega (arith, x.0, y.0), omega (arith, x.1, y.1))

  surely_holds : (t : Test) → surely k t ≡ true → holds e t ≡ true
  surely_holds t is = stands_so t.relation (term_in k t.left) (term_in k t.right) (term_of e t.left) (term_of e t.right) (term_is t.left) (term_is t.right) is

  never_holds : (t : Test) → never k t ≡ true → holds e t ≡ false
  never_holds t is = stands_never t.relation (term_in k t.left) (term_in k t.right) (term_of e t.left) (term_of e t.right) (term_is t.left) (term_is t.right) is

  all_hold : (ts : List Test) → list_all (surely k) ts ≡ true → list_all (holds e) ts ≡ true
  all_hold [] all = refl
  all_hold (t ∷ ts) all =
      let parts = both_true (surely k t) (list_all (surely k) ts) all in
      ap (λ x. x && list_all (holds e) ts) (surely_holds t parts.0) ∙ all_hold ts parts.1

  pub applies_surely : (r : Rule) → surely_applies k r ≡ true → applies e r ≡ true
  applies_surely r is = all_hold r.tests is

  some_fails : (ts : List Test) → list_any (never k) ts ≡ true → list_all (holds e) ts ≡ false
  some_fails [] any = absurd (cc any)
  some_fails (t ∷ ts) any = elim (one_of (never k t) (list_any (never k) ts) any) [
    | first this ↦ ap (λ x. x && list_all (holds e) ts) (never_holds t this)
    | second later ↦ ap (λ x. holds e t && x) (some_fails ts later) ∙ none (holds e t)
  ]
    where
      none : (x : Bool) → (x && false) ≡ false
      none true = refl
      none false = refl

  pub applies_never : (r : Rule) → never_applies k r ≡ true → applies e r ≡ false
  applies_never r is = some_fails r.tests is

  stopped : (v : Verdict) → is_give v ≡ false → lets_do (Some v) ≡ true → ⊥
  stopped (Give t) is lets = cc is
  stopped Wait is lets = cc lets
  stopped (Refuse code) is lets = cc lets

  -- rules that surely stop a call don't let it be done
  pub stops_surely : (rules : List Rule) → surely_stops k rules ≡ true → lets_do (verdict_of e rules) ≡ true → ⊥
  stops_surely [] is lets = cc is
  stops_surely (r ∷ rules) is lets = at (is_give r.verdict) refl is (applies e r) refl lets (stops_surely rules)
    where
      at : (g : Bool) → is_give r.verdict ≡ g → cond g (never_applies k r && surely_stops k rules) (surely_applies k r || surely_stops k rules) ≡ true
          → (b : Bool) → applies e r ≡ b → lets_do (cond b (Some r.verdict) (verdict_of e rules)) ≡ true → (surely_stops k rules ≡ true → lets_do (verdict_of e rules) ≡ true → ⊥) → ⊥
      at true gives is true applied lets rest = clash (applies e r) applied (applies_never r (both_true (never_applies k r) (surely_stops k rules) is).0)
      at true gives is false applied lets rest = rest (both_true (never_applies k r) (surely_stops k rules) is).1 lets
      at false gives is true applied lets rest = stopped r.verdict gives lets
      at false gives is false applied lets rest = elim (one_of (surely_applies k r) (surely_stops k rules) is) [
        | first this ↦ clash (applies e r) (applies_surely r this) applied
        | second later ↦ rest later lets
      ]

  given : (v : Verdict) → is_give v ≡ true → lets_do (Some v) ≡ true
  given (Give t) is = refl
  given Wait is = absurd (cc is)
  given (Refuse code) is = absurd (cc is)

  -- rules none of which may stop a call let it be done
  pub lets_surely : (rules : List Rule) → list_all (λ r. not (may_stop k r)) rules ≡ true → lets_do (verdict_of e rules) ≡ true
  lets_surely [] all = refl
  lets_surely (r ∷ rules) all =
      let parts = both_true (not (may_stop k r)) (list_all (λ r. not (may_stop k r)) rules) all in
      at (is_give r.verdict) refl (never_applies k r) refl (no_it (may_stop k r) parts.0) (applies e r) refl (lets_surely rules parts.1)
    where
      at : (g : Bool) → is_give r.verdict ≡ g → (n : Bool) → never_applies k r ≡ n → (not g && not n) ≡ false → (b : Bool) → applies e r ≡ b
          → lets_do (verdict_of e rules) ≡ true → lets_do (cond b (Some r.verdict) (verdict_of e rules)) ≡ true
      at g gives n nevers out false applied rest = rest
      at true gives n nevers out true applied rest = given r.verdict gives
      at false gives true nevers out true applied rest = clash (applies e r) applied (applies_never r nevers)
      at false gives false nevers out true applied rest = absurd (cc out)

  word_given : (v : Verdict) → first_word (said 0 (words_in e (Some v))) ≤ word_by k v
  word_given (Give t) = (term_is t).1
  word_given Wait = omega arith
  word_given (Refuse code) = omega arith

  -- the word of an Ok is at most the greatest that rules give
  pub word_low : (rules : List Rule) → first_word (said 0 (words_in e (verdict_of e rules))) ≤ word_most k rules
  word_low [] = omega arith
  word_low (r ∷ rules) = at (applies e r) (word_low rules)
    where
      at : (b : Bool) → first_word (said 0 (words_in e (verdict_of e rules))) ≤ word_most k rules
          → first_word (said 0 (words_in e (cond b (Some r.verdict) (verdict_of e rules)))) ≤ max (word_by k r.verdict) (word_most k rules)
      at true rest = let own = word_given r.verdict in omega (arith, own)
      at false rest = omega (arith, rest)

-- ---- what tests that hold tell

told_is : (relation : Relation) (n v : ℕ) (r : Bounds) → stands relation v n ≡ true → IsIn r v → IsIn (told_by relation n r) v
told_is Is n v r is in_r = let same = same_of v n is in (omega (arith, same), omega (arith, same))
told_is IsNot n v r is in_r = (low (n == r.least) refl, high (n == r.most) refl)
  where
    other : v ≡ n → ⊥
    other same = grind (arith, nat_tests, is, same)

    low : (b : Bool) → (n == r.least) ≡ b → cond b (min (n + 1) last_word) r.least ≤ v
    low true same = let one = same_of n r.least same in let from = in_r.0 in omega (arith, one, from, other)
    low false same = in_r.0

    high : (b : Bool) → (n == r.most) ≡ b → v ≤ cond b (n - 1) r.most
    high true same = let one = same_of n r.most same in let to = in_r.1 in omega (arith, one, to, other)
    high false same = in_r.1
told_is Below n v r is in_r = let less : v < n = grind (arith, nat_tests, is) in let from = in_r.0 in let to = in_r.1 in (from, omega (arith, less, to))
told_is Above n v r is in_r = let less : n < v = grind (arith, nat_tests, is) in let from = in_r.0 in let to = in_r.1 in (omega (arith, less, from), to)

module _ (state : ℕ) (fields : List Value) where
  field_told : (k : Known) (x : ℕ) (r : Bounds) → IsRowIn k state fields → IsIn r (word_of (field_at fields x)) → IsRowIn (with_field k x r) state fields
  field_told k x r row is = record { state = row.state; fields = each }
    where
      each : (y : ℕ) → IsIn ((with_field k x r).fields y) (word_of (field_at fields y))
      each y = at (y == x) refl
        where
          at : (t : Bool) → (y == x) ≡ t → IsIn (cond t r (k.fields y)) (word_of (field_at fields y))
          at true same = subst (λ z. IsIn r (word_of (field_at fields z))) (sym (same_of y x same)) is
          at false other = row.fields y

  if_told : (b : Bool) (k k' : Known) → IsRowIn k' state fields → IsRowIn k state fields → IsRowIn (cond b k' k) state fields
  if_told true k k' row' row = row'
  if_told false k k' row' row = row

module _ (count : ℕ) (e : Env) where
  operand_told : (k : Known) (a : Operand) (relation : Relation) (n : ℕ) → stands relation (operand_of e a) n ≡ true → IsRowIn k e.state e.fields → IsRowIn (after_told count a relation n k) e.state e.fields
  operand_told k (Own x) relation n is row =
      if_told e.state e.fields (nat_lt x count) k (with_field k x (told_by relation n (k.fields x)))
      (field_told e.state e.fields k x (told_by relation n (k.fields x)) row (told_is relation n (word_of (field_at e.fields x)) (k.fields x) is (row.fields x))) row
  operand_told k State relation n is row = record { state = told_is relation n e.state k.state is row.state; fields = row.fields }
  operand_told k (Number m) relation n is row = row
  operand_told k Caller relation n is row = row
  operand_told k (Argument a) relation n is row = row

  abbrev after_parts : Term → Relation → Term → Known → Known
  after_parts left relation right k = elim left [
    | Only a ↦ elim right [ Only b ↦ elim b [ Number n ↦ after_told count a relation n k | _ ↦ k ] | _ ↦ k ]
    | _ ↦ k
  ]

  parts_told : (k : Known) (left : Term) (relation : Relation) (right : Term) → stands relation (term_of e left) (term_of e right) ≡ true → IsRowIn k e.state e.fields → IsRowIn (after_parts left relation right k) e.state e.fields
  parts_told k (Only a) relation (Only (Number n)) is row = operand_told k a relation n is row
  parts_told k _ relation _ is row = row

  -- tests that hold tell of the row
  pub tests_tell : (k : Known) (ts : List Test) → list_all (holds e) ts ≡ true → IsRowIn k e.state e.fields → IsRowIn (after_tests count ts k) e.state e.fields
  tests_tell k [] all row = row
  tests_tell k (t ∷ ts) all row =
      let parts = both_true (holds e t) (list_all (holds e) ts) all in
      tests_tell (after_test count t k) ts parts.1 (parts_told k t.left t.relation t.right parts.0 row)

  -- they tell nothing of arguments
  told_args : (k : Known) (a : Operand) (relation : Relation) (n : ℕ) → (after_told count a relation n k).args ≡ k.args
  told_args k (Own x) relation n = at (nat_lt x count)
    where
      at : (b : Bool) → (cond b (with_field k x (told_by relation n (k.fields x))) k).args ≡ k.args
      at true = refl
      at false = refl
  told_args k State relation n = refl
  told_args k (Number m) relation n = refl
  told_args k Caller relation n = refl
  told_args k (Argument a) relation n = refl

  parts_args : (k : Known) (left : Term) (relation : Relation) (right : Term) → (after_parts left relation right k).args ≡ k.args
  parts_args k (Only a) relation (Only (Number n)) = told_args k a relation n
  parts_args k _ relation _ = refl

  pub tests_args : (k : Known) (ts : List Test) → (after_tests count ts k).args ≡ k.args
  tests_args k [] = refl
  tests_args k (t ∷ ts) = tests_args (after_test count t k) ts ∙ parts_args k t.left t.relation t.right
