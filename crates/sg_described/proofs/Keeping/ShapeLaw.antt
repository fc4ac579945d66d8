-- The shape of a described service and its answers keep to what every shape allows.
use Rattle.std.proofs.Common.{◌≡◌, ℕ, zero, suc, ◌+◌, ◌<◌, ◌≤◌, Bool, true, false, cond, not, List, [], ◌∷◌, None, Some, length, refl, sym, ◌∙◌, ap, subst, arith}
use Rattle.std.specs.Prelude.{◌==◌, ◌&&◌, ◌||◌, nat_le, if◌then◌else◌}
use Rattle.std.specs.List.{list_all, list_any}
use Rattle.std.specs.declared.option.Option.{Option}
use Rattle.std.proofs.lemmas.Bool.Decides.{nat_tests}
use Rattle.sg_facts.specs.sg_base.declared.call.Call.{Call}
use Rattle.sg_facts.specs.sg_base.declared.reply.Code.{Code}
use Rattle.sg_facts.specs.sg_base.declared.reply.Code.TheVariants.{Overflow}
use Rattle.sg_facts.specs.sg_base.declared.reply.Good.{Good}
use Rattle.sg_facts.specs.sg_base.declared.reply.Reply.TheVariants.{Ok, Refused}
use Rattle.sg_facts.specs.Allowed.{implies, wants_word}
use Rattle.sg_facts.specs.Facts.{Fun, fun_at, no_fun}
use Rattle.sg_facts.specs.Guard.{is_guards}
use Rattle.sg_facts.specs.Laws.{ShapeAllows}
use Rattle.sg_facts.specs.Object.{Object}
use Rattle.sg_facts.specs.Track.{row_at}
use Rattle.sg_slots.proofs.RowLaws.{NotGuards}
use Rattle.sg_described.specs.declared.description.Term.{Term}
use Rattle.sg_described.specs.declared.description.Test.{Test}
use Rattle.sg_described.specs.declared.description.Verdict.{Verdict}
use Rattle.sg_described.specs.declared.description.Verdict.TheVariants.{Refuse, Wait, Give}
use Rattle.sg_described.specs.Described.{Described, Rule, rules_among, rules_at}
use Rattle.sg_described.specs.Known.{is_give}
use Rattle.sg_described.specs.Meaning.{Env, answer_in, applies, described_table, env_of, holds, judged, leaves_fit, said, verdict_of, words_in}
use Rattle.sg_described.specs.Safe.{IsPlain, always_gives, are_plain_rules, is_plain_rule}
use Rattle.sg_described.proofs.Keeping.Answering.{IsBy, done_tells, judged_by, lets_do, wait_tells}
use Rattle.sg_described.proofs.Keeping.Basics.{OneOf, both_true, first, fun_in, implied, no_it, one_of, second}

module _ (d : Described) (plain : IsPlain d) (fun : ℕ) (low : 1 ≤ fun) (high : fun ≤ length d.facts.funs) where
  both : (list_all (is_plain_rule (fun_at d.facts.funs fun)) (rules_at d fun) && implies (wants_word (fun_at d.facts.funs fun)) (always_gives (rules_at d fun))) ≡ true
  both = fun_in (are_plain_rules d) d.facts.funs plain.rules fun low high

  -- each rule of a function is plain
  pub plain_rules : list_all (is_plain_rule (fun_at d.facts.funs fun)) (rules_at d fun) ≡ true
  plain_rules = (both_true (list_all (is_plain_rule (fun_at d.facts.funs fun)) (rules_at d fun)) (implies (wants_word (fun_at d.facts.funs fun)) (always_gives (rules_at d fun))) both).0

  pub gives : wants_word (fun_at d.facts.funs fun) ≡ true → always_gives (rules_at d fun) ≡ true
  gives wants =
      implied (wants_word (fun_at d.facts.funs fun)) (always_gives (rules_at d fun))
      (both_true (list_all (is_plain_rule (fun_at d.facts.funs fun)) (rules_at d fun)) (implies (wants_word (fun_at d.facts.funs fun)) (always_gives (rules_at d fun))) both).1 wants

  -- who waits calls a function that may block and makes no descriptor
  pub wait_is_plain : (e : Env) → verdict_of e (rules_at d fun) ≡ Some Wait → ((fun_at d.facts.funs fun).block ≡ true) × ((fun_at d.facts.funs fun).creation ≡ false)
  wait_is_plain e is =
      let by = judged_by e (is_plain_rule (fun_at d.facts.funs fun)) (rules_at d fun) Wait plain_rules is in
      let parts = both_true (fun_at d.facts.funs fun).block (not (fun_at d.facts.funs fun).creation) (at by.rule (fun_at d.facts.funs fun) by.verdict by.passes) in
      (parts.0, no_it (fun_at d.facts.funs fun).creation parts.1)
    where
      at : (r : Rule) (f : Fun) → r.verdict ≡ Wait → is_plain_rule f r ≡ true → (f.block && not f.creation) ≡ true
      at r f wait is = ap (λ v. is_plain_rule f (record { tests = r.tests; verdict = v })) (sym wait) ∙ is

  -- a word is given where no descriptor ends
  pub give_is_plain : (e : Env) (t : Term) → verdict_of e (rules_at d fun) ≡ Some (Give t) → (fun_at d.facts.funs fun).terminal ≡ false
  give_is_plain e t is =
      let by = judged_by e (is_plain_rule (fun_at d.facts.funs fun)) (rules_at d fun) (Give t) plain_rules is in
      no_it (fun_at d.facts.funs fun).terminal (ap (λ v. is_plain_rule (fun_at d.facts.funs fun) (record { tests = by.rule.tests; verdict = v })) (sym by.verdict) ∙ by.passes)

  -- no refusal is the guard's
  pub not_guards : (desc : ℕ) (e : Env) → NotGuards (answer_in d fun desc e)
  not_guards desc e = at (verdict_of e (rules_at d fun)) (leaves_fit d fun e (verdict_of e (rules_at d fun))) (λ code is.
      let by = judged_by e (is_plain_rule (fun_at d.facts.funs fun)) (rules_at d fun) (Refuse code) plain_rules is in
      no_it (is_guards code) (ap (λ v. is_plain_rule (fun_at d.facts.funs fun) (record { tests = by.rule.tests; verdict = v })) (sym by.verdict) ∙ by.passes)) refl
    where
      at : (v : Option Verdict) (fit : Bool) → ((code : Code) → verdict_of e (rules_at d fun) ≡ Some (Refuse code) → is_guards code ≡ false) → verdict_of e (rules_at d fun) ≡ v
          → NotGuards (judged v fit (said desc (words_in e (verdict_of e (rules_at d fun)))))
      at None true clear is = tt
      at None false clear is = refl
      at (Some (Give t)) true clear is = tt
      at (Some (Give t)) false clear is = refl
      at (Some (Refuse code)) fit clear is = clear code is
      at (Some Wait) fit clear is = tt

-- a rule without tests applies
no_tests : (e : Env) (ts : List Test) → (length ts == 0) ≡ true → list_all (holds e) ts ≡ true
no_tests e [] none = refl
no_tests e (t ∷ ts) none = absurd (impossible (length ts) none)
  where
    impossible : (n : ℕ) → (suc n == 0) ≡ true → ⊥
    impossible n is = let no : suc n ≡ 0 = grind (arith, nat_tests, is) in omega (arith, no)

-- where some rule always gives a word, there is a verdict
some_verdict : (e : Env) (rules : List Rule) → always_gives rules ≡ true → verdict_of e rules ≡ None → ⊥
some_verdict e [] any none = cc any
some_verdict e (r ∷ rules) any none = at (applies e r) refl none (one_of (is_give r.verdict && (length r.tests == 0)) (always_gives rules) any) (λ later. some_verdict e rules later)
  where
    at : (x : Bool) → applies e r ≡ x → cond x (Some r.verdict) (verdict_of e rules) ≡ None → OneOf (is_give r.verdict && (length r.tests == 0)) (always_gives rules)
        → (always_gives rules ≡ true → verdict_of e rules ≡ None → ⊥) → ⊥
    at true is none any rest = cc none
    at false is none (first this) rest =
        let so = no_tests e r.tests (both_true (is_give r.verdict) (length r.tests == 0) this).1 in
        let both_are : true ≡ false = sym so ∙ is in
        cc both_are
    at false is none (second later) rest = rest later none

-- a call that is done by a verdict has a word
done_word : (e : Env) (v : Option Verdict) → lets_do v ≡ true → (v ≡ None → ⊥) → 0 < length (words_in e v)
done_word e None done some = absurd (some refl)
done_word e (Some (Give t)) done some = omega arith
done_word e (Some (Refuse code)) done some = absurd (cc done)
done_word e (Some Wait) done some = absurd (cc done)

-- ---- numbers that name no function

rules_beyond : (answers : List (List Rule)) (n : ℕ) → length answers < n → rules_among answers n ≡ []
rules_beyond answers zero high = refl
rules_beyond [] (suc n) high = refl
rules_beyond (a ∷ answers) (suc zero) high = absurd (omega (arith, high))
rules_beyond (a ∷ answers) (suc (suc n)) high = rules_beyond answers (suc n) (omega (arith, high))

fun_beyond : (funs : List Fun) (n : ℕ) → length funs < n → fun_at funs n ≡ no_fun
fun_beyond funs zero high = refl
fun_beyond [] (suc n) high = refl
fun_beyond (f ∷ funs) (suc zero) high = absurd (omega (arith, high))
fun_beyond (f ∷ funs) (suc (suc n)) high = fun_beyond funs (suc n) (omega (arith, high))

-- a number names a function, or one without rules and flags
pub data IsOfFun (d : Described) (fun : ℕ) : Type 0 where
  named : 1 ≤ fun → fun ≤ length d.facts.funs → IsOfFun d fun
  none : rules_at d fun ≡ [] → fun_at d.facts.funs fun ≡ no_fun → IsOfFun d fun

pub of_fun : (d : Described) → IsPlain d → (fun : ℕ) → IsOfFun d fun
of_fun d plain zero = none refl refl
of_fun d plain (suc n) = at (nat_le (suc n) (length d.facts.funs)) refl
  where
    at : (b : Bool) → nat_le (suc n) (length d.facts.funs) ≡ b → IsOfFun d (suc n)
    at true is = named (omega arith) (grind (arith, nat_tests, is))
    at false is =
        let high : length d.facts.funs < suc n = grind (arith, nat_tests, is) in
        let answers = plain.answers in
        let few : length d.answers ≤ length d.facts.funs = grind (arith, nat_tests, answers) in
        none (rules_beyond d.answers (suc n) (omega (arith, high, few))) (fun_beyond d.facts.funs (suc n) high)

-- ---- the law

module _ (d : Described) (plain : IsPlain d) (fun desc : ℕ) (e : Env) where
  waits_where : verdict_of e (rules_at d fun) ≡ Some Wait → IsOfFun d fun → (fun_at d.facts.funs fun).block ≡ true
  waits_where is (named low high) = (wait_is_plain d plain fun low high e is).0
  waits_where is (none no_rules no_flags) =
      let both_are : None ≡ Some Wait = sym (ap (verdict_of e) no_rules) ∙ is in
      absurd (cc both_are)

  refuses_where : IsOfFun d fun → NotGuards (answer_in d fun desc e)
  refuses_where (named low high) = not_guards d plain fun low high desc e
  refuses_where (none no_rules no_flags) = at (verdict_of e (rules_at d fun)) (leaves_fit d fun e (verdict_of e (rules_at d fun))) (ap (verdict_of e) no_rules)
    where
      at : (v : Option Verdict) (fit : Bool) → v ≡ None → NotGuards (judged v fit (said desc (words_in e (verdict_of e (rules_at d fun)))))
      at None true is = tt
      at None false is = refl
      at (Some v) fit is = absurd (cc is)

  words_where : (good : Good) → answer_in d fun desc e ≡ Some (Ok good) → wants_word (fun_at d.facts.funs fun) ≡ true → IsOfFun d fun → 0 < length good.words
  words_where good is wants (named low high) =
      let done = done_tells d fun desc e good is in
      subst (λ g. 0 < length g.words) done.is
      (done_word e (verdict_of e (rules_at d fun)) done.done (λ no. some_verdict e (rules_at d fun) (gives d plain fun low high wants) no))
  words_where good is wants (none no_rules no_flags) =
      let both_are : false ≡ true = sym (ap wants_word no_flags) ∙ wants in
      absurd (cc both_are)

module _ (d : Described) (plain : IsPlain d) where
  abbrev desc_of : Object → Call → ℕ
  desc_of o call = if (fun_at d.facts.funs call.fun).creation then o.given + 1 else 0

  abbrev e_of : Object → Call → Env
  e_of o call = env_of d call (fun_at d.facts.funs call.fun).creation (row_at o.rows call.desc)

  -- a described service has a shape that is allowed, a call blocks only where its function may, no refusal is the guard's, and an Ok has a
  -- word where a field takes one
  pub described_shape_allows : ShapeAllows d.facts (described_table d)
  described_shape_allows = record {
    shape = plain.allowed;
    blocks = λ o call is. waits_where d plain call.fun (desc_of o call) (e_of o call) (wait_tells d call.fun (desc_of o call) (e_of o call) is) (of_fun d plain call.fun);
    refuses = λ o call code is. subst NotGuards is (refuses_where d plain call.fun (desc_of o call) (e_of o call) (of_fun d plain call.fun));
    words = λ o call good is wants. words_where d plain call.fun (desc_of o call) (e_of o call) good is wants (of_fun d plain call.fun);
  }
