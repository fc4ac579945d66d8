-- What goes on to hold after another call was done on the same row.
use Rattle.std.proofs.Common.{◌≡◌, ℕ, zero, suc, ◌+◌, ◌<◌, ◌≤◌, min, Bool, true, false, cond, not, List, [], ◌∷◌, length, take, None, Some, refl, sym, ◌∙◌, ap, subst, arith}
use Rattle.std.specs.Prelude.{◌-◌, ◌==◌, ◌&&◌, ◌||◌, nat_lt, slice_get}
use Rattle.std.specs.List.{list_all, list_any}
use Rattle.std.specs.declared.option.Option.{Option}
use Rattle.std.proofs.lemmas.Bool.Decides.{nat_tests}
use Rattle.sg_facts.specs.sg_base.declared.value.Value.{Value}
use Rattle.sg_facts.specs.sg_base.declared.call.Call.{Call}
use Rattle.sg_facts.specs.sg_base.declared.reply.Good.{Good}
use Rattle.sg_facts.specs.declared.shape.Effect.{Effect}
use Rattle.sg_facts.specs.declared.shape.Effect.TheVariants.{SetCaller, SetArg, AddArg, SetRet, AddRet, Clear, SubOne, SubRet}
use Rattle.sg_facts.specs.Limits.{last_client}
use Rattle.sg_facts.specs.Track.{effect_of, field_at, first_word, word_of}
use Rattle.sg_facts.specs.Walks.{effect_on}
use Rattle.sg_described.specs.declared.bounds.Bounds.{Bounds}
use Rattle.sg_described.specs.declared.description.Operand.{Operand}
use Rattle.sg_described.specs.declared.description.Operand.TheVariants.{Number, Caller, State, Argument, Own}
use Rattle.sg_described.specs.declared.description.Term.{Term}
use Rattle.sg_described.specs.declared.description.Term.TheVariants.{Only, Plus, Minus, Least, Greatest}
use Rattle.sg_described.specs.declared.description.Relation.{Relation}
use Rattle.sg_described.specs.declared.description.Relation.TheVariants.{Is, IsNot, Below, Above}
use Rattle.sg_described.specs.declared.description.Test.{Test}
use Rattle.sg_described.specs.declared.description.Verdict.{Verdict}
use Rattle.sg_described.specs.declared.description.Verdict.TheVariants.{Refuse, Wait, Give}
use Rattle.sg_described.specs.Described.{Rule}
use Rattle.sg_described.specs.Known.{bounds_after, is_wait}
use Rattle.sg_described.specs.Meaning.{Env, applies, holds, operand_of, stands, term_of, verdict_of}
use Rattle.sg_described.specs.NeverZero.{all_from}
use Rattle.sg_described.specs.Waiting.{field_where, is_left, never_falls, never_lowers, never_raises, never_rises, stands_on, stays_out, term_is_left, test_is_left, test_lasts}
use Rattle.sg_described.proofs.Keeping.Basics.{OneOf, both_true, first, no_it, one_of, second}
use Rattle.sg_described.proofs.Keeping.Effects.{cleared_none}
use Rattle.sg_described.proofs.Keeping.InRanges.{IsIn}

-- ---- one field

-- a field after the effect on it, by where it was
pub bounds_left : (call : Call) (good : Good) (e : Effect) (v : Value) (most : ℕ) (r : Bounds) → 1 ≤ call.client → call.client ≤ last_client → word_of (effect_of call good e v) ≤ most → IsIn r (word_of v)
    → IsIn (bounds_after (Some e) most r) (word_of (effect_of call good e v))
bounds_left call good SetCaller v most r low high up in_r = (omega (arith, low), omega (arith, high, up))
bounds_left call good (SetArg k) v most r low high up in_r = (omega arith, up)
bounds_left call good (AddArg k) v most r low high up in_r = let from = in_r.0 in (omega (arith, from), up)
bounds_left call good SetRet v most r low high up in_r = (omega arith, up)
bounds_left call good AddRet v most r low high up in_r = let from = in_r.0 in (omega (arith, from), up)
bounds_left call good Clear v most r low high up in_r = let none = cleared_none call good v in (omega (arith, none), omega (arith, none))
bounds_left call good SubOne v most r low high up in_r = let from = in_r.0 in let to = in_r.1 in (omega (arith, from), omega (arith, to))
bounds_left call good SubRet v most r low high up in_r = let to = in_r.1 in (omega arith, omega (arith, to))

-- one that its effect never raises, and one that it never lowers
pub lowered : (call : Call) (good : Good) (e : Effect) (v : Value) → never_raises (Some e) ≡ true → word_of (effect_of call good e v) ≤ word_of v
lowered call good SetCaller v is = absurd (cc is)
lowered call good (SetArg k) v is = absurd (cc is)
lowered call good (AddArg k) v is = absurd (cc is)
lowered call good SetRet v is = absurd (cc is)
lowered call good AddRet v is = absurd (cc is)
lowered call good Clear v is = let none = cleared_none call good v in omega (arith, none)
lowered call good SubOne v is = omega arith
lowered call good SubRet v is = omega arith

pub raised : (call : Call) (good : Good) (e : Effect) (v : Value) → never_lowers (Some e) ≡ true → word_of v ≤ word_of (effect_of call good e v)
raised call good SetCaller v is = absurd (cc is)
raised call good (SetArg k) v is = absurd (cc is)
raised call good (AddArg k) v is = omega arith
raised call good SetRet v is = absurd (cc is)
raised call good AddRet v is = omega arith
raised call good Clear v is = absurd (cc is)
raised call good SubOne v is = absurd (cc is)
raised call good SubRet v is = absurd (cc is)

-- ---- terms and tests, when fields have changed by effects

-- how fields stand to those before effects
pub record Follow (es : List (ℕ × Effect)) (old new : List Value) : Type 0 where
  pub same : (x : ℕ) → list_any (λ o. o.0 == x) es ≡ false → field_at new x ≡ field_at old x
  pub lower : (x : ℕ) → never_raises (effect_on es x) ≡ true → word_of (field_at new x) ≤ word_of (field_at old x)
  pub upper : (x : ℕ) → never_lowers (effect_on es x) ≡ true → word_of (field_at old x) ≤ word_of (field_at new x)

module _ (es : List (ℕ × Effect)) (e : Env) (fields : List Value) (follow : Follow es e.fields fields) where
  abbrev later : Env
  later = record { client = e.client; args = e.args; state = e.state; fields = fields }

  operand_still : (a : Operand) → is_left es a ≡ true → operand_of later a ≡ operand_of e a
  operand_still (Number n) is = refl
  operand_still Caller is = refl
  operand_still State is = refl
  operand_still (Argument k) is = refl
  operand_still (Own x) is = ap word_of (follow.same x (no_it (list_any (λ o. o.0 == x) es) is))

  term_still : (t : Term) → term_is_left es t ≡ true → term_of later t ≡ term_of e t
  term_still (Only a) is = operand_still a is
  term_still (Plus a b) is = let p = both_true (is_left es a) (is_left es b) is in let x = operand_still a p.0 in let y = operand_still b p.1 in cc (x, y)
  term_still (Minus a b) is = let p = both_true (is_left es a) (is_left es b) is in let x = operand_still a p.0 in let y = operand_still b p.1 in cc (x, y)
  term_still (Least a b) is = let p = both_true (is_left es a) (is_left es b) is in let x = operand_still a p.0 in let y = operand_still b p.1 in cc (x, y)
  term_still (Greatest a b) is = let p = both_true (is_left es a) (is_left es b) is in let x = operand_still a p.0 in let y = operand_still b p.1 in cc (x, y)

  test_still : (t : Test) → test_is_left es t ≡ true → holds later t ≡ holds e t
  test_still t is =
      let two = both_true (term_is_left es t.left) (term_is_left es t.right) is in
      ap (λ n. stands t.relation n (term_of later t.right)) (term_still t.left two.0) ∙ ap (stands t.relation (term_of e t.left)) (term_still t.right two.1)

  -- a rule that effects leave as it is
  pub rule_still : (ts : List Test) → list_all (test_is_left es) ts ≡ true → list_all (holds later) ts ≡ list_all (holds e) ts
  rule_still [] all = refl
  rule_still (t ∷ ts) all =
      let parts = both_true (test_is_left es t) (list_all (test_is_left es) ts) all in
      ap (λ b. b && list_all (holds later) ts) (test_still t parts.0) ∙ ap (λ b. holds e t && b) (rule_still ts parts.1)

  field_falls : (t : Term) → field_where never_raises es t ≡ true → term_of later t ≤ term_of e t
  field_falls (Only (Own x)) is = follow.lower x is
  field_falls (Only (Number n)) is = absurd (cc is)
  field_falls (Only Caller) is = absurd (cc is)
  field_falls (Only State) is = absurd (cc is)
  field_falls (Only (Argument k)) is = absurd (cc is)
  field_falls (Plus a b) is = absurd (cc is)
  field_falls (Minus a b) is = absurd (cc is)
  field_falls (Least a b) is = absurd (cc is)
  field_falls (Greatest a b) is = absurd (cc is)

  field_rises : (t : Term) → field_where never_lowers es t ≡ true → term_of e t ≤ term_of later t
  field_rises (Only (Own x)) is = follow.upper x is
  field_rises (Only (Number n)) is = absurd (cc is)
  field_rises (Only Caller) is = absurd (cc is)
  field_rises (Only State) is = absurd (cc is)
  field_rises (Only (Argument k)) is = absurd (cc is)
  field_rises (Plus a b) is = absurd (cc is)
  field_rises (Minus a b) is = absurd (cc is)
  field_rises (Least a b) is = absurd (cc is)
  field_rises (Greatest a b) is = absurd (cc is)

  no_higher : (t : Term) → never_rises es t ≡ true → term_of later t ≤ term_of e t
  no_higher t is = elim (one_of (term_is_left es t) (field_where never_raises es t) is) [
    | first left ↦ let same = term_still t left in omega (arith, same)
    | second falls ↦ field_falls t falls
  ]

  no_lower : (t : Term) → never_falls es t ≡ true → term_of e t ≤ term_of later t
  no_lower t is = elim (one_of (term_is_left es t) (field_where never_lowers es t) is) [
    | first left ↦ let same = term_still t left in omega (arith, same)
    | second rises ↦ field_rises t rises
  ]

  below_on : (m n m' n' : ℕ) → nat_lt m n ≡ true → m' ≤ m → n ≤ n' → nat_lt m' n' ≡ true
  below_on m n m' n' is falls rises =
      let less : m < n = grind (arith, nat_tests, is) in
      let still : m' < n' = omega (arith, less, falls, rises) in
      grind (arith, nat_tests, still)

  on_so : (r : Relation) (a b : Term) → stands_on r es a b ≡ true → stands r (term_of e a) (term_of e b) ≡ true → stands r (term_of later a) (term_of later b) ≡ true
  on_so Is a b is stood = absurd (cc is)
  on_so IsNot a b is stood = absurd (cc is)
  on_so Below a b is stood =
      let two = both_true (never_rises es a) (never_falls es b) is in
      below_on (term_of e a) (term_of e b) (term_of later a) (term_of later b) stood (no_higher a two.0) (no_lower b two.1)
  on_so Above a b is stood =
      let two = both_true (never_falls es a) (never_rises es b) is in
      below_on (term_of e b) (term_of e a) (term_of later b) (term_of later a) stood (no_higher b two.1) (no_lower a two.0)

  test_on : (t : Test) → test_lasts es t ≡ true → holds e t ≡ true → holds later t ≡ true
  test_on t lasts is = elim (one_of (test_is_left es t) (stands_on t.relation es t.left t.right) lasts) [
    | first left ↦ test_still t left ∙ is
    | second on ↦ on_so t.relation t.left t.right on is
  ]

  -- tests that last go on to hold
  pub tests_last : (ts : List Test) → list_all (test_lasts es) ts ≡ true → list_all (holds e) ts ≡ true → list_all (holds later) ts ≡ true
  tests_last [] all is = refl
  tests_last (t ∷ ts) all is =
      let parts = both_true (test_lasts es t) (list_all (test_lasts es) ts) all in
      let held = both_true (holds e t) (list_all (holds e) ts) is in
      ap (λ b. b && list_all (holds later) ts) (test_on t parts.0 held.0) ∙ tests_last ts parts.1 held.1

  wait_of : (v : Verdict) → is_wait v ≡ true → v ≡ Wait
  wait_of Wait is = refl
  wait_of (Give t) is = absurd (cc is)
  wait_of (Refuse code) is = absurd (cc is)

  -- who waits by a rule that goes on to apply, with none before it that comes in between, goes on to wait
  pub waits_again : (rules : List Rule) (n : ℕ) (r : Rule) → slice_get rules n ≡ Some r → list_all (λ q. not (applies e q)) (take n rules) ≡ true → list_all (stays_out es) (take n rules) ≡ true
      → r.verdict ≡ Wait → applies later r ≡ true → verdict_of later rules ≡ Some Wait
  waits_again [] n r there out stay wait is = absurd (cc there)
  waits_again (q ∷ rules) zero r there out stay wait is =
      let one : q ≡ r = cc there in
      ap (λ (p : Rule). cond (applies later p) (Some p.verdict) (verdict_of later rules)) one ∙ ap (λ b. cond b (Some r.verdict) (verdict_of later rules)) is ∙ ap Some wait
  waits_again (q ∷ rules) (suc n) r there out stay wait is =
      let outs = both_true (not (applies e q)) (list_all (λ p. not (applies e p)) (take n rules)) out in
      let stays = both_true (stays_out es q) (list_all (stays_out es) (take n rules)) stay in
      at (applies later q) refl (one_of (is_wait q.verdict) (list_all (test_is_left es) q.tests) stays.0) (waits_again rules n r there outs.1 stays.1 wait is) (no_it (applies e q) outs.0)
    where
      at : (b : Bool) → applies later q ≡ b → OneOf (is_wait q.verdict) (list_all (test_is_left es) q.tests) → verdict_of later rules ≡ Some Wait → applies e q ≡ false
          → cond b (Some q.verdict) (verdict_of later rules) ≡ Some Wait
      at true now (first waits) rest was = ap Some (wait_of q.verdict waits)
      at true now (second left) rest was =
          let both : true ≡ false = sym now ∙ rule_still q.tests left ∙ was in
          absurd (cc both)
      at false now one rest was = rest

-- ---- by which rule a caller waits

pub record WaitsBy (e : Env) (rules : List Rule) : Type 0 where
  pub number : ℕ
  pub rule : Rule
  pub there : slice_get rules number ≡ Some rule
  pub out : list_all (λ q. not (applies e q)) (take number rules) ≡ true
  pub applies_so : applies e rule ≡ true
  pub wait : rule.verdict ≡ Wait

pub waits_by : (e : Env) (rules : List Rule) → verdict_of e rules ≡ Some Wait → WaitsBy e rules
waits_by e [] is = absurd (cc is)
waits_by e (r ∷ rules) is = at (applies e r) refl is (waits_by e rules)
  where
    at : (b : Bool) → applies e r ≡ b → cond b (Some r.verdict) (verdict_of e rules) ≡ Some Wait → (verdict_of e rules ≡ Some Wait → WaitsBy e rules) → WaitsBy e (r ∷ rules)
    at true so is rest = record { number = 0; rule = r; there = refl; out = refl; applies_so = so; wait = cc is }
    at false so is rest =
        let w = rest is in
        record { number = suc w.number; rule = w.rule; there = w.there; out = ap (λ b. not b && list_all (λ q. not (applies e q)) (take w.number rules)) so ∙ w.out; applies_so = w.applies_so; wait = w.wait }

-- what all numbered rules pass, the rule of a number passes
pub rule_in : (p : ℕ → Rule → Bool) (from : ℕ) (rules : List Rule) → all_from p from rules ≡ true → (n : ℕ) (r : Rule) → slice_get rules n ≡ Some r → p (from + n) r ≡ true
rule_in p from [] all n r there = absurd (cc there)
rule_in p from (q ∷ rules) all zero r there =
    let one : q ≡ r = cc there in
    let same : from ≡ from + 0 = omega arith in
    subst (λ n. p n r ≡ true) same (subst (λ x. p from x ≡ true) one (both_true (p from q) (all_from p (suc from) rules) all).0)
rule_in p from (q ∷ rules) all (suc n) r there =
    let same : suc from + n ≡ from + suc n = omega arith in
    subst (λ k. p k r ≡ true) same (rule_in p (suc from) rules (both_true (p from q) (all_from p (suc from) rules) all).1 n r there)
