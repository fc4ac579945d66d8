-- Where there is no reason, and what a reason refutes.
use Rattle.std.proofs.Common.{◌≡◌, ℕ, suc, Bool, true, false, cond, not, List, [], ◌∷◌, None, Some, refl, sym, ◌∙◌, ap, subst}
use Rattle.std.specs.Prelude.{◌&&◌, ◌||◌, ◌-◌, take}
use Rattle.std.specs.Bool.{then_some}
use Rattle.std.specs.List.{list_all}
use Rattle.std.specs.Option.{is_some, option_map, option_or}
use Rattle.std.specs.declared.option.Option.{Option}
use Rattle.sg_known.specs.sg_facts.Allowed.{implies, is_replayed}
use Rattle.sg_known.specs.sg_facts.Counted.{is_counted}
use Rattle.sg_known.specs.sg_facts.Facts.{Fun, fun_at}
use Rattle.sg_known.specs.sg_facts.Walks.{Spot, next_spot}
use Rattle.sg_known.specs.sg_described.Described.{Described, Rule, rules_at}
use Rattle.sg_known.specs.sg_described.Known.{is_wait, may_stop}
use Rattle.sg_known.specs.sg_described.NeverZero.{all_from}
use Rattle.sg_known.specs.sg_described.Safe.{IsPlain, IsSafe, adds, counts_slowly, replays_slowly}
use Rattle.sg_known.specs.sg_described.Waiting.{leaves_waiting, rule_waits, waits_well}
use Rattle.sg_known.specs.sg_described.Walking.{begins_well, blank, caller_fits, effect_fits, is_lost, is_step, known_at, replays_well, spots_of, steps_well, walks_well}
use Rattle.sg_safe.specs.declared.reason.FailingCall.{FailingCall}
use Rattle.sg_safe.specs.declared.reason.Obstacle.TheVariants.{ByRule, NoClient, PastMost}
use Rattle.sg_safe.specs.declared.reason.Unsafe.{Unsafe}
use Rattle.sg_safe.specs.declared.reason.Unsafe.TheVariants.{CountsFar, Recounts, Overtaken, Fails}
use Rattle.sg_safe.specs.Inside.Replays.{IsLater}
use Rattle.sg_safe.specs.Inside.Stages.{IsFound}
use Rattle.sg_safe.specs.Reasons.{IsReason, IsTold, LeadsTo, Refutes, but_walk, counts_far, counts_in, failing, failing_at, fails_at, fails_by, fails_first, fails_in, fails_on, first_from, first_in, led_by, no_client, obstacle_at, overtaken, overtaken_at, overtaken_by, past_most, recounts, stopping_rule, unsafe_in, waits_in}

-- ---- whether there is none

-- whether there is none
abbrev pub none : {A : Type 0} → Option A → Bool
none o = not (is_some o)

pub is_none : {A : Type 0} (o : Option A) → none o ≡ true → o ≡ None
is_none None is = refl
is_none (Some x) is = absurd (cc is)

both : (a b c d : Bool) → a ≡ b → c ≡ d → (a && c) ≡ (b && d)
both a b c d one two = ap (λ v. v && c) one ∙ ap (λ v. b && v) two

none_or : {A : Type 0} (o p : Option A) → none (option_or o p) ≡ (none o && none p)
none_or None p = refl
none_or (Some x) p = refl

none_map : {A B : Type 0} (f : A → B) (o : Option A) → none (option_map f o) ≡ none o
none_map f None = refl
none_map f (Some x) = refl

-- there is one exactly where a test fails
none_unless : {A : Type 0} (b : Bool) (x : A) → none (then_some (not b) x) ≡ b
none_unless true x = refl
none_unless false x = refl

none_where : {A : Type 0} (b : Bool) (x : A) → none (then_some b x) ≡ not b
none_where true x = refl
none_where false x = refl

none_in : {A B : Type 0} (p : A → Option B) (q : A → Bool) → ((x : A) → none (p x) ≡ q x) → (xs : List A) → none (first_in p xs) ≡ list_all q xs
none_in p q same [] = refl
none_in p q same (x ∷ xs) =
    none_or (p x) (first_in p xs) ∙ both (none (p x)) (q x) (none (first_in p xs)) (list_all q xs) (same x) (none_in p q same xs)

none_from : {A B : Type 0} (p : ℕ → A → Option B) (q : ℕ → A → Bool) → ((n : ℕ) (x : A) → none (p n x) ≡ q n x) → (n : ℕ) (xs : List A)
    → none (first_from p n xs) ≡ all_from q n xs
none_from p q same n [] = refl
none_from p q same n (x ∷ xs) =
    none_or (p n x) (first_from p (suc n) xs)
    ∙ both (none (p n x)) (q n x) (none (first_from p (suc n) xs)) (all_from q (suc n) xs) (same n x) (none_from p q same (suc n) xs)

-- where something is looked for only under a condition
none_if : {A : Type 0} (b : Bool) (o : Option A) (c : Bool) → none o ≡ c → none (cond b o None) ≡ implies b c
none_if true o c same = same
none_if false o c same = refl

-- ---- none of each kind

pub none_far : (d : Described) (x most : ℕ) → none (counts_far d x most) ≡ counts_slowly d x most
none_far d x most = none_unless (counts_slowly d x most) (CountsFar x)

counted_once : {A : Type 0} (a b : Bool) (x : A) → none (then_some (a && b) x) ≡ implies a (not b)
counted_once true b x = none_where b x
counted_once false b x = refl

pub none_recounts : (d : Described) (fun : ℕ) (f : Fun) → none (recounts d fun f) ≡ replays_slowly d fun f
none_recounts d fun f =
    none_if (is_replayed d.facts fun) (first_in (λ e. then_some (is_counted d.facts e.0 && adds e.1) (Recounts fun e.0)) f.effects) (list_all (λ e. implies (is_counted d.facts e.0) (not (adds e.1))) f.effects)
    (none_in (λ e. then_some (is_counted d.facts e.0 && adds e.1) (Recounts fun e.0)) (λ e. implies (is_counted d.facts e.0) (not (adds e.1)))
    (λ e. counted_once (is_counted d.facts e.0) (adds e.1) (Recounts fun e.0)) f.effects)

none_overtaken_at : (d : Described) (waiter n : ℕ) (r : Rule) → none (overtaken_at d waiter n r) ≡ rule_waits d waiter n r
none_overtaken_at d waiter n r =
    none_if (is_wait r.verdict) (first_from (overtaken_by d waiter n r) 1 d.facts.funs) (all_from (leaves_waiting d waiter (take (n - 1) (rules_at d waiter)) r) 1 d.facts.funs)
    (none_from (overtaken_by d waiter n r) (leaves_waiting d waiter (take (n - 1) (rules_at d waiter)) r)
    (λ fun f. none_unless (leaves_waiting d waiter (take (n - 1) (rules_at d waiter)) r fun f) (Overtaken waiter n fun)) 1 d.facts.funs)

pub none_overtaken : (d : Described) (waiter : ℕ) (f : Fun) → none (overtaken d waiter f) ≡ waits_well d waiter f
none_overtaken d waiter f = none_from (overtaken_at d waiter) (rule_waits d waiter) (none_overtaken_at d waiter) 1 (rules_at d waiter)

-- the test of rules counts none
stops_none : (d : Described) (fun : ℕ) (s : Spot) (n : ℕ) (rules : List Rule)
    → none (first_from (λ m r. then_some (may_stop (known_at d fun s) r) (ByRule m)) n rules) ≡ list_all (λ r. not (may_stop (known_at d fun s) r)) rules
stops_none d fun s n [] = refl
stops_none d fun s n (r ∷ rules) =
    none_or (then_some (may_stop (known_at d fun s) r) (ByRule n)) (first_from (λ m q. then_some (may_stop (known_at d fun s) q) (ByRule m)) (suc n) rules)
    ∙ both (none (then_some (may_stop (known_at d fun s) r) (ByRule n))) (not (may_stop (known_at d fun s) r))
    (none (first_from (λ m q. then_some (may_stop (known_at d fun s) q) (ByRule m)) (suc n) rules)) (list_all (λ q. not (may_stop (known_at d fun s) q)) rules)
    (none_where (may_stop (known_at d fun s) r) (ByRule n)) (stops_none d fun s (suc n) rules)

-- of three
none_three : {A : Type 0} (o p q : Option A) (a b c : Bool) → none o ≡ a → none p ≡ b → none q ≡ c → none (option_or o (option_or p q)) ≡ (a && b && c)
none_three None p q true b c one two three = none_or p q ∙ both (none p) b (none q) c two three
none_three None p q false b c one two three = absurd (cc one)
none_three (Some x) p q true b c one two three = absurd (cc one)
none_three (Some x) p q false b c one two three = refl

none_lost : {A : Type 0} (b : Bool) (o : Option A) (c : Bool) → none o ≡ c → none (cond b None o) ≡ (b || c)
none_lost true o c same = refl
none_lost false o c same = same

none_obstacle : (d : Described) (fun : ℕ) (s : Spot) → none (obstacle_at d fun s) ≡ replays_well d fun s
none_obstacle d fun s =
    none_lost (is_lost d (next_spot d.facts fun s)) (option_or (no_client d fun s) (option_or (stopping_rule d fun s) (past_most d fun s)))
    (list_all (caller_fits d (next_spot d.facts fun s).state) (fun_at d.facts.funs fun).effects && list_all (λ r. not (may_stop (known_at d fun s) r)) (rules_at d fun)
    && list_all (effect_fits d fun s) (fun_at d.facts.funs fun).effects)
    (none_three (no_client d fun s) (stopping_rule d fun s) (past_most d fun s)
    (list_all (caller_fits d (next_spot d.facts fun s).state) (fun_at d.facts.funs fun).effects) (list_all (λ r. not (may_stop (known_at d fun s) r)) (rules_at d fun))
    (list_all (effect_fits d fun s) (fun_at d.facts.funs fun).effects)
    (none_in (λ e. then_some (not (caller_fits d (next_spot d.facts fun s).state e)) (NoClient e.0)) (caller_fits d (next_spot d.facts fun s).state)
    (λ e. none_unless (caller_fits d (next_spot d.facts fun s).state e) (NoClient e.0)) (fun_at d.facts.funs fun).effects)
    (stops_none d fun s 1 (rules_at d fun))
    (none_in (λ e. then_some (not (effect_fits d fun s e)) (PastMost e.0)) (effect_fits d fun s)
    (λ e. none_unless (effect_fits d fun s e) (PastMost e.0)) (fun_at d.facts.funs fun).effects))

none_fails : (d : Described) (fun : ℕ) (s : Spot) → none (fails_at d fun s) ≡ replays_well d fun s
none_fails d fun s = none_map (failing_at d fun s) (obstacle_at d fun s) ∙ none_obstacle d fun s

pub none_fails_first : (d : Described) (fun : ℕ) (f : Fun) → none (fails_first d fun f) ≡ begins_well d fun f
none_fails_first d fun f = none_if f.creation (fails_at d fun (blank d fun)) (replays_well d fun (blank d fun)) (none_fails d fun (blank d fun))

none_fails_by : (d : Described) (s : Spot) (step : ℕ × ℕ) → none (fails_by d s step) ≡ steps_well d s step
none_fails_by d s step = none_if (is_step d s step) (fails_at d step.1 s) (replays_well d step.1 s) (none_fails d step.1 s)

pub none_fails_on : (d : Described) (s : Spot) → none (fails_on d s) ≡ walks_well d s
none_fails_on d s = none_in (fails_by d s) (steps_well d s) (none_fails_by d s) d.facts.steps

-- ---- no reason

pub far_none : (d : Described) → none (first_from (counts_far d) 0 d.most) ≡ all_from (counts_slowly d) 0 d.most
far_none d = none_from (counts_far d) (counts_slowly d) (none_far d) 0 d.most

pub recounts_none : (d : Described) → none (first_from (recounts d) 1 d.facts.funs) ≡ all_from (replays_slowly d) 1 d.facts.funs
recounts_none d = none_from (recounts d) (replays_slowly d) (none_recounts d) 1 d.facts.funs

pub waits_none : (d : Described) → none (first_from (overtaken d) 1 d.facts.funs) ≡ all_from (waits_well d) 1 d.facts.funs
waits_none d = none_from (overtaken d) (waits_well d) (none_overtaken d) 1 d.facts.funs

pub begins_none : (d : Described) → none (first_from (fails_first d) 1 d.facts.funs) ≡ all_from (begins_well d) 1 d.facts.funs
begins_none d = none_from (fails_first d) (begins_well d) (none_fails_first d) 1 d.facts.funs

pub walks_none : (d : Described) → none (first_in (fails_on d) (spots_of d)) ≡ list_all (walks_well d) (spots_of d)
walks_none d = none_in (fails_on d) (walks_well d) (none_fails_on d) (spots_of d)

-- where none is found, a test holds; where one is, it doesn't
pub holds_at_none : {A : Type 0} (o : Option A) (b : Bool) → none o ≡ b → o ≡ None → b ≡ true
holds_at_none o b same is = sym same ∙ ap none is

pub fails_at_some : {A : Type 0} (o : Option A) (b : Bool) (x : A) → none o ≡ b → o ≡ Some x → b ≡ false
fails_at_some o b x same is = sym same ∙ ap none is

-- neither of two
pub neither_is : {A : Type 0} (o p : Option A) → option_or o p ≡ None → (o ≡ None) × (p ≡ None)
neither_is None p is = (refl, is)
neither_is (Some x) p is = absurd (cc is)

pub map_none : {A B : Type 0} (f : A → B) (o : Option A) → option_map f o ≡ None → o ≡ None
map_none f None is = refl
map_none f (Some x) is = absurd (cc is)

-- a description without a reason is safe
pub safe_without : (d : Described) → IsPlain d → unsafe_in d ≡ None → IsSafe d
safe_without d plain is =
    let counting = neither_is (counts_in d) (option_or (waits_in d) (fails_in d)) is in
    let counts = neither_is (first_from (counts_far d) 0 d.most) (first_from (recounts d) 1 d.facts.funs) counting.0 in
    let waiting = neither_is (waits_in d) (fails_in d) counting.1 in
    let failed = neither_is (option_map failing (first_from (fails_first d) 1 d.facts.funs)) (option_map failing (first_in (fails_on d) (spots_of d))) waiting.1 in
    record {
      plain = plain;
      counts = holds_at_none (first_from (counts_far d) 0 d.most) _ (far_none d) counts.0;
      recounts = holds_at_none (first_from (recounts d) 1 d.facts.funs) _ (recounts_none d) counts.1;
      waits = holds_at_none (waits_in d) _ (waits_none d) waiting.0;
      begins = holds_at_none (first_from (fails_first d) 1 d.facts.funs) _ (begins_none d) (map_none failing _ failed.0);
      walks = holds_at_none (first_in (fails_on d) (spots_of d)) _ (walks_none d) (map_none failing _ failed.1);
    }

-- ---- what a reason refutes

-- a reason that tells no walk
pub record IsBare (d : Described) (reason : Unsafe) : Type 0 where
  pub same : but_walk reason ≡ reason
  pub told : IsTold d reason
  pub refutes : Refutes d reason

some_where : {A : Type 0} (P : A → Type 0) (b : Bool) (x r : A) → then_some b x ≡ Some r → P x → P r
some_where P true x r is here = let same : x ≡ r = cc is in subst P same here
some_where P false x r is here = absurd (cc is)

each_in : {A B : Type 0} (P : B → Type 0) (p : A → Option B) → ((x : A) (r : B) → p x ≡ Some r → P r) → (xs : List A) (r : B) → first_in p xs ≡ Some r → P r
each_in {A = A} {B = B} P p each [] r is = absurd (cc is)
each_in {A = A} {B = B} P p each (x ∷ xs) r is = at (p x) refl is (each_in P p each xs r)
  where
    at : (o : Option B) → p x ≡ o → option_or o (first_in p xs) ≡ Some r → (first_in p xs ≡ Some r → P r) → P r
    at None here is rest = rest is
    at (Some y) here is rest = each x r (here ∙ is)

each_from : {A B : Type 0} (P : B → Type 0) (p : ℕ → A → Option B) → ((n : ℕ) (x : A) (r : B) → p n x ≡ Some r → P r) → (n : ℕ) (xs : List A) (r : B)
    → first_from p n xs ≡ Some r → P r
each_from {A = A} {B = B} P p each n [] r is = absurd (cc is)
each_from {A = A} {B = B} P p each n (x ∷ xs) r is = at (p n x) refl is (each_from P p each (suc n) xs r)
  where
    at : (o : Option B) → p n x ≡ o → option_or o (first_from p (suc n) xs) ≡ Some r → (first_from p (suc n) xs ≡ Some r → P r) → P r
    at None here is rest = rest is
    at (Some y) here is rest = each n x r (here ∙ is)

some_if : {A : Type 0} (b : Bool) (o : Option A) (r : A) → cond b o None ≡ Some r → o ≡ Some r
some_if true o r is = is
some_if false o r is = absurd (cc is)

pub far_bare : (d : Described) (r : Unsafe) → first_from (counts_far d) 0 d.most ≡ Some r → IsBare d r
far_bare d r is =
    let fails = fails_at_some (first_from (counts_far d) 0 d.most) (all_from (counts_slowly d) 0 d.most) r (far_none d) is in
    each_from (IsBare d) (counts_far d)
    (λ x most q here. some_where (IsBare d) (not (counts_slowly d x most)) (CountsFar x) q here (record { same = refl; told = tt; refutes = fails })) 0 d.most r is

pub recounts_bare : (d : Described) (r : Unsafe) → first_from (recounts d) 1 d.facts.funs ≡ Some r → IsBare d r
recounts_bare d r is =
    let fails = fails_at_some (first_from (recounts d) 1 d.facts.funs) (all_from (replays_slowly d) 1 d.facts.funs) r (recounts_none d) is in
    each_from (IsBare d) (recounts d)
    (λ fun f q here. each_in (IsBare d) (λ e. then_some (is_counted d.facts e.0 && adds e.1) (Recounts fun e.0))
    (λ e o there. some_where (IsBare d) (is_counted d.facts e.0 && adds e.1) (Recounts fun e.0) o there (record { same = refl; told = tt; refutes = fails })) f.effects q
    (some_if (is_replayed d.facts fun) (first_in (λ e. then_some (is_counted d.facts e.0 && adds e.1) (Recounts fun e.0)) f.effects) q here)) 1 d.facts.funs r is

pub waits_bare : (d : Described) (r : Unsafe) → waits_in d ≡ Some r → IsBare d r
waits_bare d r is =
    let fails = fails_at_some (waits_in d) (all_from (waits_well d) 1 d.facts.funs) r (waits_none d) is in
    each_from (IsBare d) (overtaken d)
    (λ waiter f q here. each_from (IsBare d) (overtaken_at d waiter)
    (λ n rule o there. each_from (IsBare d) (overtaken_by d waiter n rule)
    (λ fun g p at. some_where (IsBare d) (not (leaves_waiting d waiter (take (n - 1) (rules_at d waiter)) rule fun g)) (Overtaken waiter n fun) p at
    (record { same = refl; told = tt; refutes = fails })) 1 d.facts.funs o
    (some_if (is_wait rule.verdict) (first_from (overtaken_by d waiter n rule) 1 d.facts.funs) o there)) 1 (rules_at d waiter) q here) 1 d.facts.funs r is

-- ---- stage by stage

-- a reason that tells no walk, of the first of two that there are
pub bare_first : (d : Described) (o p : Option Unsafe) (r : Unsafe) → o ≡ Some r → IsBare d r → IsReason d (option_or o p) r
bare_first d o p r is bare = record { same = ap (λ q. option_or q p) is ∙ ap Some (sym bare.same); told = bare.told; refutes = bare.refutes }

pub found_bare : (d : Described) (o : Option Unsafe) → ((r : Unsafe) → o ≡ Some r → IsBare d r) → IsFound d o o
found_bare d None bare = refl
found_bare d (Some r) bare = let its = bare r refl in record { same = ap Some (sym its.same); told = its.told; refutes = its.refutes }

-- where the first isn't there it is the second
pub found_second : (d : Described) (o p found : Option Unsafe) → o ≡ None → IsFound d p found → IsFound d (option_or o p) found
found_second d o p found is later = subst (λ q. IsFound d (option_or q p) found) (sym is) later

-- where it is, whatever the second is
pub reason_first : (d : Described) (o p : Option Unsafe) (r : Unsafe) → IsReason d o r → IsReason d (option_or o p) r
reason_first d o p r its = record { same = ap (λ q. option_or q p) its.same; told = its.told; refutes = its.refutes }

-- the first call of a walk may fail
pub found_begin : (d : Described) (walk : List ℕ) (call : FailingCall) → walk ≡ [] → first_from (fails_first d) 1 d.facts.funs ≡ Some call → IsReason d (fails_in d) (Fails walk call)
found_begin d walk call is here = subst (λ w. IsReason d (fails_in d) (Fails w call)) (sym is) (record {
  same = ap (λ o. option_or (option_map failing o) (option_map failing (first_in (fails_on d) (spots_of d)))) here;
  told = tt;
  refutes = fails_at_some (first_from (fails_first d) 1 d.facts.funs) (all_from (begins_well d) 1 d.facts.funs) call (begins_none d) here;
})

-- a later call may fail, or none
later_reason : (d : Described) (walk : List ℕ) (call : FailingCall) → first_from (fails_first d) 1 d.facts.funs ≡ None → first_in (fails_on d) (spots_of d) ≡ Some call → LeadsTo d walk call
    → IsReason d (fails_in d) (Fails walk call)
later_reason d [] call first here leads = absurd (cc (leads.led))
later_reason d (fun ∷ walk) call first here leads = record {
  same = ap (λ o. option_or (option_map failing o) (option_map failing (first_in (fails_on d) (spots_of d)))) first ∙ ap (λ o. option_map failing o) here;
  told = leads;
  refutes = fails_at_some (first_in (fails_on d) (spots_of d)) (list_all (walks_well d) (spots_of d)) call (walks_none d) here;
}

found_later_at : (d : Described) (found : Option Unsafe) → first_from (fails_first d) 1 d.facts.funs ≡ None → IsLater d (first_in (fails_on d) (spots_of d)) found → IsFound d (fails_in d) found
found_later_at d None first later =
    ap (λ o. option_or (option_map failing o) (option_map failing (first_in (fails_on d) (spots_of d)))) first ∙ ap (λ o. option_map failing o) later
found_later_at d (Some (Fails walk call)) first later = later_reason d walk call first later.0 later.1
found_later_at d (Some (CountsFar x)) first later = absurd later
found_later_at d (Some (Recounts fun x)) first later = absurd later
found_later_at d (Some (Overtaken waiter n by)) first later = absurd later

pub found_later : (d : Described) (places : List Spot) (found : Option Unsafe) → places ≡ spots_of d → first_from (fails_first d) 1 d.facts.funs ≡ None
    → IsLater d (first_in (fails_on d) places) found → IsFound d (fails_in d) found
found_later d places found all first later = found_later_at d found first (subst (λ l. IsLater d (first_in (fails_on d) l) found) all later)

-- ---- where walks come to, one after another

pub next_found : (d : Described) (s : Spot) (rest : Option FailingCall) (walk : List ℕ) (call : FailingCall) → fails_on d s ≡ Some call → led_by d walk ≡ Some s
    → IsLater d (option_or (fails_on d s) rest) (Some (Fails walk call))
next_found d s rest walk call is led = (ap (λ o. option_or o rest) is, record { spot = s; led = led; fails = is })

pub next_none : (d : Described) (s : Spot) (rest : Option FailingCall) (found : Option Unsafe) → fails_on d s ≡ None → IsLater d rest found
    → IsLater d (option_or (fails_on d s) rest) found
next_none d s rest found is later = subst (λ o. IsLater d (option_or o rest) found) (sym is) later
