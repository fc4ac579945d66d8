-- What an answer of a described service tells, and what a plain description says of a function.
use Rattle.std.proofs.Common.{◌≡◌, ℕ, ◌+◌, ◌<◌, ◌≤◌, Bool, true, false, cond, not, List, [], ◌∷◌, None, Some, length, map, refl, sym, ◌∙◌, ap, subst, arith}
use Rattle.std.specs.Prelude.{◌==◌, ◌&&◌, ◌||◌, nat_le, nat_lt}
use Rattle.std.specs.List.{list_all, list_any}
use Rattle.std.specs.declared.option.Option.{Option}
use Rattle.std.proofs.lemmas.Bool.Decides.{nat_tests}
use Rattle.sg_facts.specs.sg_base.declared.reply.Code.{Code}
use Rattle.sg_facts.specs.sg_base.declared.reply.Code.TheVariants.{Overflow}
use Rattle.sg_facts.specs.sg_base.declared.reply.Good.{Good}
use Rattle.sg_facts.specs.sg_base.declared.reply.Reply.{Reply}
use Rattle.sg_facts.specs.sg_base.declared.reply.Reply.TheVariants.{Ok, Refused}
use Rattle.sg_facts.specs.Allowed.{acts_on_one, each_replays_well, implies, is_allowed, is_never, is_replayed, is_text_field, keeps_private, keeps_to, leaves_own, replays_all, sets_once, steps_make_none}
use Rattle.sg_facts.specs.Facts.{Facts, Fun, fun_at, takes_desc, takes_parent}
use Rattle.sg_facts.proofs.Replaying.Steps.{each_fun}
use Rattle.sg_described.specs.declared.description.Verdict.{Verdict}
use Rattle.sg_described.specs.declared.description.Verdict.TheVariants.{Refuse, Wait, Give}
use Rattle.sg_described.specs.Described.{Described, Rule, rules_at}
use Rattle.sg_described.specs.Meaning.{Env, answer_by, answer_in, applies, judged, leaves_fit, said, verdict_of, words_in}
use Rattle.sg_described.specs.Safe.{IsPlain, is_plain_fun, is_plain_kind}
use Rattle.sg_described.proofs.Keeping.Basics.{both_true, fun_in, implied, no_it}

-- a verdict that lets a call be done, or none
abbrev pub lets_do : Option Verdict → Bool
lets_do None = true
lets_do (Some (Give t)) = true
lets_do (Some Wait) = false
lets_do (Some (Refuse code)) = false

module _ (d : Described) (fun desc : ℕ) (e : Env) where
  -- an Ok: the verdict lets it be done, and it leaves fields that fit
  pub record IsDone (good : Good) : Type 0 where
    pub done : lets_do (verdict_of e (rules_at d fun)) ≡ true
    pub left : leaves_fit d fun e (verdict_of e (rules_at d fun)) ≡ true
    pub is : said desc (words_in e (verdict_of e (rules_at d fun))) ≡ good

  pub done_tells : (good : Good) → answer_in d fun desc e ≡ Some (Ok good) → IsDone good
  done_tells good is = at (verdict_of e (rules_at d fun)) (leaves_fit d fun e (verdict_of e (rules_at d fun))) refl refl is
    where
      at : (v : Option Verdict) (b : Bool) → verdict_of e (rules_at d fun) ≡ v → leaves_fit d fun e (verdict_of e (rules_at d fun)) ≡ b
          → judged v b (said desc (words_in e (verdict_of e (rules_at d fun)))) ≡ Some (Ok good) → IsDone good
      at None true none left is = record { done = ap lets_do none; left = left; is = cc is }
      at None false none left is = absurd (cc is)
      at (Some (Give t)) true some left is = record { done = ap lets_do some; left = left; is = cc is }
      at (Some (Give t)) false some left is = absurd (cc is)
      at (Some (Refuse code)) b some left is = absurd (cc is)
      at (Some Wait) b some left is = absurd (cc is)

  pub done_is : lets_do (verdict_of e (rules_at d fun)) ≡ true → leaves_fit d fun e (verdict_of e (rules_at d fun)) ≡ true
      → answer_in d fun desc e ≡ Some (Ok (said desc (words_in e (verdict_of e (rules_at d fun)))))
  done_is done left = at (verdict_of e (rules_at d fun)) (leaves_fit d fun e (verdict_of e (rules_at d fun))) done left
    where
      at : (v : Option Verdict) (b : Bool) → lets_do v ≡ true → b ≡ true
          → judged v b (said desc (words_in e (verdict_of e (rules_at d fun)))) ≡ Some (Ok (said desc (words_in e (verdict_of e (rules_at d fun)))))
      at None true done left = refl
      at None false done left = absurd (cc left)
      at (Some (Give t)) true done left = refl
      at (Some (Give t)) false done left = absurd (cc left)
      at (Some (Refuse code)) b done left = absurd (cc done)
      at (Some Wait) b done left = absurd (cc done)

  -- a wait: the first rule that applies says so
  pub wait_tells : answer_in d fun desc e ≡ None → verdict_of e (rules_at d fun) ≡ Some Wait
  wait_tells is = at (verdict_of e (rules_at d fun)) (leaves_fit d fun e (verdict_of e (rules_at d fun))) is
    where
      at : (v : Option Verdict) (b : Bool) → judged v b (said desc (words_in e (verdict_of e (rules_at d fun)))) ≡ None → v ≡ Some Wait
      at None b is = absurd (cc is)
      at (Some (Give t)) b is = absurd (cc is)
      at (Some (Refuse code)) b is = absurd (cc is)
      at (Some Wait) b is = refl

  pub wait_is : verdict_of e (rules_at d fun) ≡ Some Wait → answer_in d fun desc e ≡ None
  wait_is is = ap (answer_by d fun desc e) is

-- the verdict is that of a rule that applies
pub record IsBy (e : Env) (rules : List Rule) (v : Verdict) (p : Rule → Bool) : Type 0 where
  pub rule : Rule
  pub applies_so : applies e rule ≡ true
  pub verdict : rule.verdict ≡ v
  pub passes : p rule ≡ true

pub judged_by : (e : Env) (p : Rule → Bool) (rules : List Rule) (v : Verdict) → list_all p rules ≡ true → verdict_of e rules ≡ Some v → IsBy e rules v p
judged_by e p [] v all is = absurd (cc is)
judged_by e p (r ∷ rules) v all is =
    let parts = both_true (p r) (list_all p rules) all in
    at (applies e r) refl is (judged_by e p rules v parts.1) parts.0
  where
    at : (b : Bool) → applies e r ≡ b → cond b (Some r.verdict) (verdict_of e rules) ≡ Some v → (verdict_of e rules ≡ Some v → IsBy e rules v p) → p r ≡ true → IsBy e (r ∷ rules) v p
    at true so is rest one = record { rule = r; applies_so = so; verdict = cc is; passes = one }
    at false so is rest one = let by = rest is in record { rule = by.rule; applies_so = by.applies_so; verdict = by.verdict; passes = by.passes }

-- ---- what a shape keeps to

pub record IsOneFun (g : Fun) : Type 0 where
  pub once : sets_once g.effects ≡ true
  pub no_file : g.uses_file ≡ false
  pub no_parent : takes_parent g ≡ false
  pub on : g.creation ≡ false → g.query ≡ false → takes_desc g ≡ true
  pub made : g.creation ≡ true → g.terminal ≡ false

pub one_fun : (facts : Facts) (fun : ℕ) → is_allowed facts ≡ true → is_never facts.parents ≡ true → facts.resc_data ≡ false → 1 ≤ fun → fun ≤ length facts.funs → IsOneFun (fun_at facts.funs fun)
one_fun facts fun allowed alone fileless low high =
    let n = length facts.funs in
    let a = nat_le (length facts.fields) 8 && keeps_private facts in
    let six = both_true (a && list_all (keeps_to facts) facts.funs && replays_all facts n && list_all (acts_on_one facts) facts.funs && each_replays_well facts n) (steps_make_none facts) allowed in
    let five = both_true (a && list_all (keeps_to facts) facts.funs && replays_all facts n && list_all (acts_on_one facts) facts.funs) (each_replays_well facts n) six.0 in
    let four = both_true (a && list_all (keeps_to facts) facts.funs && replays_all facts n) (list_all (acts_on_one facts) facts.funs) five.0 in
    let three = both_true (a && list_all (keeps_to facts) facts.funs) (replays_all facts n) four.0 in
    let two = both_true a (list_all (keeps_to facts) facts.funs) three.0 in
    told (fun_at facts.funs fun) (each_fun (keeps_to facts) facts.funs fun two.1 low high) (each_fun (acts_on_one facts) facts.funs fun four.1 low high)
  where
    told : (g : Fun) → keeps_to facts g ≡ true → acts_on_one facts g ≡ true → IsOneFun g
    told g keeps acts =
        let k5 = both_true (implies g.query (not (takes_desc g) && not (takes_parent g)) && implies g.uses_file (facts.resc_data && takes_desc g) && (g.creation || list_all (λ e. not (is_text_field facts.fields e.0)) g.effects)
        && sets_once g.effects && implies g.block (not g.creation && not g.terminal)) (leaves_own facts.funs g.leaves) keeps in
        let k4 = both_true (implies g.query (not (takes_desc g) && not (takes_parent g)) && implies g.uses_file (facts.resc_data && takes_desc g) && (g.creation || list_all (λ e. not (is_text_field facts.fields e.0)) g.effects)
        && sets_once g.effects) (implies g.block (not g.creation && not g.terminal)) k5.0 in
        let k3 = both_true (implies g.query (not (takes_desc g) && not (takes_parent g)) && implies g.uses_file (facts.resc_data && takes_desc g) && (g.creation || list_all (λ e. not (is_text_field facts.fields e.0)) g.effects))
        (sets_once g.effects) k4.0 in
        let k2 = both_true (implies g.query (not (takes_desc g) && not (takes_parent g)) && implies g.uses_file (facts.resc_data && takes_desc g)) (g.creation || list_all (λ e. not (is_text_field facts.fields e.0)) g.effects) k3.0 in
        let k1 = both_true (implies g.query (not (takes_desc g) && not (takes_parent g))) (implies g.uses_file (facts.resc_data && takes_desc g)) k2.0 in
        let a2 = both_true (implies g.creation (not g.query && not g.terminal && not (takes_desc g)) && (g.creation || g.query || (takes_desc g && not (takes_parent g)))) (implies (is_never facts.parents) (not (takes_parent g))) acts in
        let a1 = both_true (implies g.creation (not g.query && not g.terminal && not (takes_desc g))) (g.creation || g.query || (takes_desc g && not (takes_parent g))) a2.0 in
        record {
          once = k3.1;
          no_file = unused g.uses_file (takes_desc g) (ap (λ b. implies g.uses_file (b && takes_desc g)) (sym fileless) ∙ k1.1);
          no_parent = no_it (takes_parent g) (implied (is_never facts.parents) (not (takes_parent g)) a2.1 alone);
          on = λ makes asks. (both_true (takes_desc g) (not (takes_parent g)) (third g.creation g.query (takes_desc g && not (takes_parent g)) a1.1 makes asks)).0;
          made = λ makes. no_it g.terminal (both_true (not g.query) (not g.terminal) (both_true (not g.query && not g.terminal) (not (takes_desc g)) (implied g.creation (not g.query && not g.terminal && not (takes_desc g)) a1.0 makes)).0).1;
        }
      where
        unused : (x y : Bool) → implies x (false && y) ≡ true → x ≡ false
        unused true y is = absurd (cc is)
        unused false y is = refl

        third : (x y z : Bool) → (x || y || z) ≡ true → x ≡ false → y ≡ false → z ≡ true
        third false false z is isn't none = is
        third true y z is isn't none = absurd (cc isn't)
        third false true z is isn't none = absurd (cc none)

-- ---- what a function of single rows is

pub record IsPlainFun (d : Described) (fun : ℕ) (f : Fun) : Type 0 where
  pub no_query : f.query ≡ false
  pub no_file : f.uses_file ≡ false
  pub no_parent : takes_parent f ≡ false
  pub on : f.creation ≡ false → takes_desc f ≡ true
  pub made : f.creation ≡ true → f.terminal ≡ false
  pub once : sets_once f.effects ≡ true
  pub within : list_all (λ e. nat_lt e.0 (length d.most)) f.effects ≡ true
  pub kinds : is_replayed d.facts fun ≡ true → list_all is_plain_kind f.kinds ≡ true

pub plain_fun : (d : Described) → IsPlain d → (fun : ℕ) → 1 ≤ fun → fun ≤ length d.facts.funs → IsPlainFun d fun (fun_at d.facts.funs fun)
plain_fun d plain fun low high =
    at (fun_at d.facts.funs fun) (fun_in (is_plain_fun d) d.facts.funs plain.funs fun low high) (one_fun d.facts fun plain.allowed plain.no_parents plain.fileless low high)
  where
    at : (f : Fun) → is_plain_fun d fun f ≡ true → IsOneFun f → IsPlainFun d fun f
    at f is one =
        let two = both_true (not f.query && list_all (λ e. nat_lt e.0 (length d.most)) f.effects) (implies (is_replayed d.facts fun) (list_all is_plain_kind f.kinds)) is in
        let first = both_true (not f.query) (list_all (λ e. nat_lt e.0 (length d.most)) f.effects) two.0 in
        let no_query = no_it f.query first.0 in
        record {
          no_query = no_query;
          no_file = one.no_file;
          no_parent = one.no_parent;
          on = λ makes. one.on makes no_query;
          made = one.made;
          once = one.once;
          within = first.1;
          kinds = λ replayed. implied (is_replayed d.facts fun) (list_all is_plain_kind f.kinds) two.1 replayed;
        }
