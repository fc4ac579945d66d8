-- The shape of a text with which nothing is wrong keeps to what every shape keeps to.
use Rattle.std.proofs.Common.{◌≡◌, ℕ, zero, suc, ◌<◌, ◌≤◌, ◌==◌, Bool, true, false, ◌&&◌, ◌||◌, not, List, [], ◌∷◌, length, None, Some, refl, sym, ◌∙◌, ap, arith}
use Rattle.std.specs.Prelude.{count_by, nat_le, slice_get, unwrap_or}
use Rattle.std.specs.declared.option.Option.{Option}
use Rattle.std.specs.List.{list_all, list_any}
use Rattle.std.proofs.lemmas.Bool.{and_from, eq-eqb, le-leb, not-false}
use Rattle.sg_check_statements.specs.sg_facts.Allowed.{acts_on_one, count_args, each_arg, each_replays_well, has_no_parents, implies, is_allowed, is_cross, is_never, is_replayed, is_text_field, keeps_private, keeps_to, leaves_known, leaves_own, replays_all, replays_well, sets_once, steps_make_none, takes_among}
use Rattle.sg_check_statements.specs.sg_facts.Facts.{Facts, Fun, fun_at, no_fun, takes_desc, takes_parent, writes}
use Rattle.sg_check_statements.specs.sg_facts.Walks.{sets_caller}
use Rattle.sg_shape.specs.declared.fault.ShapeFaultKind.{ShapeFaultKind}
use Rattle.sg_shape.specs.declared.fault.ShapeFaultKind.TheVariants.{PrivateLooksAround, QueryTakes, FileWithoutDesc, TextChanged, BlocksOrMakes, StateOfOther, MakesOn, ActsOnNone, NoParents, ReplayWrites, ArgumentLost, ReplayUnknown, RecoverMakes}
use Rattle.sg_shape.specs.Flaws.{is_forbidden}
use Rattle.sg_shape.proofs.Places.{all_pass, some_passes}

-- ---- what tests say together

takes_none : (q d t : Bool) → (q && (d || t)) ≡ false → implies q (not d && not t) ≡ true
takes_none false d t is = refl
takes_none true false false is = refl
takes_none true false true is = absurd (cc is)
takes_none true true t is = absurd (cc is)

has_both : (u r d : Bool) → (u ≡ true → r ≡ true) → (u && not d) ≡ false → implies u (r && d) ≡ true
has_both false r d file is = refl
has_both true r true file is = ap (λ b. b && true) (file refl)
has_both true r false file is = absurd (cc is)

one_of : (c t : Bool) → (not c && t) ≡ false → (c || not t) ≡ true
one_of true t is = refl
one_of false false is = refl
one_of false true is = absurd (cc is)

neither_of : (b c t : Bool) → (b && (c || t)) ≡ false → implies b (not c && not t) ≡ true
neither_of b c t is = takes_none b c t is

none_of_three : (c q t d : Bool) → (c && (q || t || d)) ≡ false → implies c (not q && not t && not d) ≡ true
none_of_three false q t d is = refl
none_of_three true false false false is = refl
none_of_three true false false true is = absurd (cc is)
none_of_three true false true d is = absurd (cc is)
none_of_three true true t d is = absurd (cc is)

some_of_three : (c q d p : Bool) → (not c && not q && not d) ≡ false → (d && p) ≡ false → (c || q || (d && not p)) ≡ true
some_of_three true q d p is apart = refl
some_of_three false true d p is apart = refl
some_of_three false false false p is apart = absurd (cc is)
some_of_three false false true false is apart = refl
some_of_three false false true true is apart = absurd (cc apart)

not_both : (a b : Bool) → (a && b) ≡ false → implies a (not b) ≡ true
not_both false b is = refl
not_both true false is = refl
not_both true true is = absurd (cc is)

then_it : (a b : Bool) → (a && not b) ≡ false → implies a b ≡ true
then_it false b is = refl
then_it true true is = refl
then_it true false is = absurd (cc is)

well : (r w a n h l : Bool) → (r && w) ≡ false → a ≡ true → n ≡ true → (r && not h && not l) ≡ false → implies r (not w && a && n && (h || l)) ≡ true
well false w a n h l first all one known = refl
well true true a n h l first all one known = absurd (cc first)
well true false a n true l first all one known = ap (λ b. b && n && true) all ∙ ap (λ b. b && true) one
well true false a n false true first all one known = ap (λ b. b && n && true) all ∙ ap (λ b. b && true) one
well true false a n false false first all one known = absurd (cc known)

not_any : {X : Type 0} (test : X → Bool) (xs : List X) → list_all (λ x. not (test x)) xs ≡ not (list_any test xs)
not_any test [] = refl
not_any test (x ∷ xs) = ap (λ b. not (test x) && b) (not_any test xs) ∙ by (test x) (list_any test xs)
  where
    by : (a b : Bool) → (not a && not b) ≡ not (a || b)
    by true b = refl
    by false b = refl

-- ---- a function that has no flaw

-- what is known of a function of a shape with its number: it has no flaw, its effects are on different fields and take arguments that it has, at
-- most one of them sets the caller, and it takes not both a descriptor and a parent
pub record IsGood (facts : Facts) (n : ℕ) (f : Fun) : Type 0 where
  pub none : (kind : ShapeFaultKind) → is_forbidden kind facts n f ≡ false
  pub once : sets_once f.effects ≡ true
  pub among : list_all (λ e. takes_among (count_args f.kinds) e.1) f.effects ≡ true
  pub callers : nat_le (count_by (λ e. sets_caller e.1) f.effects) 1 ≡ true
  pub apart : (takes_desc f && takes_parent f) ≡ false
  pub file : f.uses_file ≡ true → facts.resc_data ≡ true

keeps : (facts : Facts) (n : ℕ) (f : Fun) → IsGood facts n f → keeps_to facts f ≡ true
keeps facts n f good =
    all_of_six (implies f.query (not (takes_desc f) && not (takes_parent f))) (implies f.uses_file (facts.resc_data && takes_desc f))
    (f.creation || list_all (λ e. not (is_text_field facts.fields e.0)) f.effects) (sets_once f.effects)
    (implies f.block (not f.creation && not f.terminal)) (leaves_own facts.funs f.leaves)
    (takes_none f.query (takes_desc f) (takes_parent f) (good.none QueryTakes))
    (has_both f.uses_file facts.resc_data (takes_desc f) good.file (good.none FileWithoutDesc))
    (ap (λ b. f.creation || b) (not_any (λ e. is_text_field facts.fields e.0) f.effects)
    ∙ one_of f.creation (list_any (λ e. is_text_field facts.fields e.0) f.effects) (good.none TextChanged))
    good.once
    (neither_of f.block f.creation f.terminal (good.none BlocksOrMakes))
    (not-false (leaves_own facts.funs f.leaves) (good.none StateOfOther))
  where
    all_of_six : (a b c d e g : Bool) → a ≡ true → b ≡ true → c ≡ true → d ≡ true → e ≡ true → g ≡ true → (a && b && c && d && e && g) ≡ true
    all_of_six a b c d e g ha hb hc hd he hg =
        and_from (a && b && c && d && e) g (and_from (a && b && c && d) e (and_from (a && b && c) d (and_from (a && b) c (and_from a b ha hb) hc) hd) he) hg

acts : (facts : Facts) (n : ℕ) (f : Fun) → IsGood facts n f → acts_on_one facts f ≡ true
acts facts n f good =
    and_from (implies f.creation (not f.query && not f.terminal && not (takes_desc f)) && (f.creation || f.query || (takes_desc f && not (takes_parent f)))) (implies (is_never facts.parents) (not (takes_parent f)))
    (and_from (implies f.creation (not f.query && not f.terminal && not (takes_desc f))) (f.creation || f.query || (takes_desc f && not (takes_parent f)))
    (none_of_three f.creation f.query f.terminal (takes_desc f) (good.none MakesOn))
    (some_of_three f.creation f.query (takes_desc f) (takes_parent f) (good.none ActsOnNone) good.apart))
    (not_both (is_never facts.parents) (takes_parent f) (good.none NoParents))

-- ---- a shape of such functions

module _ (facts : Facts) (good : (k : ℕ) (f : Fun) → slice_get facts.funs k ≡ Some f → IsGood facts (suc k) f) where
  at_place : (k : ℕ) (f : Fun) → slice_get facts.funs k ≡ Some f → fun_at facts.funs (suc k) ≡ f
  at_place k f at = ap (λ o. unwrap_or o no_fun) at

  -- each number up to the count is that of a function
  there : (funs : List Fun) (k : ℕ) → k < length funs → (f : Fun) × (slice_get funs k ≡ Some f)
  there [] k within = absurd (omega (arith, within))
  there (f ∷ funs) zero within = (f, refl)
  there (f ∷ funs) (suc k) within = there funs k (omega (arith, within))

  each_carried : (n : ℕ) → n ≤ length facts.funs → replays_all facts n ≡ true
  each_carried zero within = refl
  each_carried (suc n) within =
      let f = there facts.funs n (omega arith) in
      let lost : (is_replayed facts (suc n) && not (each_arg (fun_at facts.funs (suc n)).effects (count_args (fun_at facts.funs (suc n)).kinds))) ≡ false =
      ap (is_forbidden ArgumentLost facts (suc n)) (at_place n f.0 f.1) ∙ (good n f.0 f.1).none ArgumentLost in
      and_from (implies (is_replayed facts (suc n)) (each_arg (fun_at facts.funs (suc n)).effects (count_args (fun_at facts.funs (suc n)).kinds))) (replays_all facts n)
      (then_it (is_replayed facts (suc n)) (each_arg (fun_at facts.funs (suc n)).effects (count_args (fun_at facts.funs (suc n)).kinds)) lost)
      (each_carried n (omega arith))

  each_well : (n : ℕ) → n ≤ length facts.funs → each_replays_well facts n ≡ true
  each_well zero within = refl
  each_well (suc n) within =
      let f = there facts.funs n (omega arith) in
      and_from (implies (is_replayed facts (suc n)) (replays_well facts (fun_at facts.funs (suc n)))) (each_replays_well facts n)
      (ap (λ g. implies (g.creation || list_any (λ s. s.1 == suc n) facts.steps) (replays_well facts g)) (at_place n f.0 f.1)
      ∙ well (f.0.creation || list_any (λ s. s.1 == suc n) facts.steps) (writes f.0) (list_all (λ e. takes_among (count_args f.0.kinds) e.1) f.0.effects)
      (nat_le (count_by (λ e. sets_caller e.1) f.0.effects) 1) (has_no_parents facts) (list_all (λ e. leaves_known e.1) f.0.effects)
      ((good n f.0 f.1).none ReplayWrites) (good n f.0 f.1).among (good n f.0 f.1).callers ((good n f.0 f.1).none ReplayUnknown))
      (each_well n (omega arith))

  -- a function that is a recover step makes no descriptor
  not_made : (c s : Bool) → s ≡ true → (c && s) ≡ false → not c ≡ true
  not_made false s is none = refl
  not_made true true is none = absurd (cc none)
  not_made true false is none = absurd (cc is)

  no_maker : (n : ℕ) (o : Option Fun) → slice_get facts.funs n ≡ o → list_any (λ t. t.1 == suc n) facts.steps ≡ true → not (unwrap_or o no_fun).creation ≡ true
  no_maker n None at told = refl
  no_maker n (Some f) at told = not_made f.creation (list_any (λ t. t.1 == suc n) facts.steps) told ((good n f at).none RecoverMakes)

  no_step_maker : (n : ℕ) → list_any (λ t. t.1 == n) facts.steps ≡ true → not (fun_at facts.funs n).creation ≡ true
  no_step_maker zero told = refl
  no_step_maker (suc n) told = no_maker n (slice_get facts.funs n) refl told

  no_step_makes : steps_make_none facts ≡ true
  no_step_makes =
      all_pass (λ s. not (fun_at facts.funs s.1).creation) facts.steps
      (λ k s at. no_step_maker s.1 (some_passes (λ t. t.1 == s.1) facts.steps k s at (eq-eqb s.1 s.1 refl)))

  -- a private service doesn't look around
  none_looks : not facts.global ≡ true → list_all (λ f. not f.all) facts.funs ≡ true
  none_looks told = all_pass (λ f. not f.all) facts.funs (λ k f at. not_all f.all (ap (λ b. b && f.all) (sym told) ∙ (good k f at).none PrivateLooksAround))
    where
      not_all : (a : Bool) → (true && a) ≡ false → not a ≡ true
      not_all false told = refl
      not_all true told = absurd (cc told)

  keeps_apart : (not facts.global && is_cross facts.parents) ≡ false → keeps_private facts ≡ true
  keeps_apart none = by (not facts.global) (is_cross facts.parents) refl none
    where
      by : (g x : Bool) → not facts.global ≡ g → (g && x) ≡ false → implies g (not x && list_all (λ f. not f.all) facts.funs) ≡ true
      by false x told is = refl
      by true true told is = absurd (cc is)
      by true false told is = none_looks told

  pub allowed : length facts.fields ≤ 8 → (not facts.global && is_cross facts.parents) ≡ false → is_allowed facts ≡ true
  allowed few none =
      let small : Bool = nat_le (length facts.fields) 8 in
      let kept : Bool = list_all (keeps_to facts) facts.funs in
      let carried : Bool = replays_all facts (length facts.funs) in
      let acting : Bool = list_all (acts_on_one facts) facts.funs in
      let wells : Bool = each_replays_well facts (length facts.funs) in
      and_from (small && keeps_private facts && kept && carried && acting && wells) (steps_make_none facts)
      (and_from (small && keeps_private facts && kept && carried && acting) wells
      (and_from (small && keeps_private facts && kept && carried) acting
      (and_from (small && keeps_private facts && kept) carried
      (and_from (small && keeps_private facts) kept
      (and_from small (keeps_private facts) (le-leb (length facts.fields) 8 few) (keeps_apart none))
      (all_pass (keeps_to facts) facts.funs (λ k f at. keeps facts (suc k) f (good k f at))))
      (each_carried (length facts.funs) (omega arith)))
      (all_pass (acts_on_one facts) facts.funs (λ k f at. acts facts (suc k) f (good k f at))))
      (each_well (length facts.funs) (omega arith)))
      no_step_makes
