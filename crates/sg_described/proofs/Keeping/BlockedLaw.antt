-- Who waits for a described service goes on to wait, until a wake-up or the end of the descriptor.
use Rattle.std.proofs.Common.{◌≡◌, ℕ, zero, suc, ◌+◌, ◌<◌, ◌≤◌, Bool, true, false, cond, not, List, [], ◌∷◌, ◌++◌, None, Some, length, map, filter, take, refl, sym, ◌∙◌, ap, subst, arith}
use Rattle.std.specs.Prelude.{◌-◌, ◌==◌, ◌&&◌, ◌||◌, nat_le, nat_lt, if◌then◌else◌, slice_get, unwrap_or}
use Rattle.std.specs.List.{list_all, list_any}
use Rattle.std.specs.declared.option.Option.{Option}
use Rattle.std.proofs.lemmas.Bool.Decides.{nat_tests}
use Rattle.sg_facts.specs.sg_base.declared.value.Value.{Value}
use Rattle.sg_facts.specs.sg_base.declared.value.Value.TheVariants.{Word}
use Rattle.sg_facts.specs.sg_base.declared.call.Call.{Call}
use Rattle.sg_facts.specs.sg_base.declared.reply.Good.{Good}
use Rattle.sg_facts.specs.sg_base.declared.reply.Reply.TheVariants.{Ok}
use Rattle.sg_facts.specs.declared.row.Row.{Row}
use Rattle.sg_facts.specs.declared.shape.Effect.{Effect}
use Rattle.sg_facts.specs.Allowed.{implies}
use Rattle.sg_facts.specs.Facts.{Fun, fun_at, state_after}
use Rattle.sg_facts.specs.Interface.{has_pair}
use Rattle.sg_facts.specs.Laws.{BlockedStays, Passes, leaves_blocked, state_in}
use Rattle.sg_facts.specs.Object.{Object, after}
use Rattle.sg_facts.specs.Track.{row_at, effect_of, ends_with, fields_after, field_at, new_row, word_of}
use Rattle.sg_facts.specs.Inside.Rows.{row_after}
use Rattle.sg_facts.specs.Walks.{effect_on}
use Rattle.sg_facts.proofs.RowLists.{id_of_row, row_at-more, row_at-changed, row_at-left}
use Rattle.sg_facts.proofs.Replaying.Found.{met, to_map}
use Rattle.sg_slots.proofs.RowLaws.{row_of_call}
use Rattle.sg_described.specs.declared.bounds.Bounds.{Bounds}
use Rattle.sg_described.specs.declared.description.Verdict.TheVariants.{Wait}
use Rattle.sg_described.specs.Described.{Described, Rule, rules_at}
use Rattle.sg_described.specs.DescribedSound.{IsDescribedRow, IsDescribedSound, are_up_to}
use Rattle.sg_described.specs.Known.{Known, after_tests, bounds_after, greatest, is_wait, surely_applies, surely_stops}
use Rattle.sg_described.specs.Meaning.{Env, answer_of, applies, described_table, env_of, fits, most_at, verdict_of}
use Rattle.sg_described.specs.NeverZero.{all_from}
use Rattle.sg_described.specs.Safe.{IsPlain, is_plain_move}
use Rattle.sg_described.specs.Waiting.{is_met_at, is_within, keeps_state, known_after, known_of_all, known_where, leaves_waiting, never_lowers, never_meet, never_raises, rule_waits, stays_out, test_lasts, waits_on, waits_well}
use Rattle.sg_described.proofs.Keeping.Answering.{IsDone, IsPlainFun, done_tells, plain_fun, wait_is, wait_tells}
use Rattle.sg_described.proofs.Keeping.Basics.{OneOf, both_true, clash, first, fun_in, implied, no_it, one_of, own_test, pair_passes, same_of, second}
use Rattle.sg_described.proofs.Keeping.Effects.{by_effect, left_none, untouched}
use Rattle.sg_described.proofs.Keeping.Fitting.{greatest_length, up_at, up_length, word_low}
use Rattle.sg_described.proofs.Keeping.Guarded.{in_its_state}
use Rattle.sg_described.proofs.Keeping.InRanges.{AreArgsIn, IsEnv, IsIn, IsRowIn, applies_surely, args_small, stops_surely, tests_args, tests_tell}
use Rattle.sg_described.proofs.Keeping.Lasting.{Follow, WaitsBy, lowered, raised, bounds_left, rule_in, tests_last, waits_again, waits_by}
use Rattle.sg_described.proofs.Keeping.ShapeLaw.{wait_is_plain}
use Rattle.sg_described.proofs.Keeping.SoundLaw.{after_is, after_some, left_fits, turned, up_left}

-- ---- a call that is done beside one that waits, on one row

module _ (d : Described) (plain : IsPlain d) (o : Object) (other call : Call) (good : Good) (passes : Passes d.facts o other) (passes_too : Passes d.facts o call) (row : Row) (is_row : IsDescribedRow d row)
    (waits_in : has_pair d.facts.moves row.state other.fun ≡ true) (calls_in : has_pair d.facts.moves row.state call.fun ≡ true)
    (waits : verdict_of (env_of d other false (Some row)) (rules_at d other.fun) ≡ Some Wait) (done : IsDone d call.fun 0 (env_of d call false (Some row)) good) where
  abbrev e : Env
  e = env_of d other false (Some row)

  abbrev rules : List Rule
  rules = rules_at d other.fun

  abbrev es : List (ℕ × Effect)
  es = (fun_at d.facts.funs call.fun).effects

  abbrev left : List Value
  left = fields_after call good (fun_at d.facts.funs call.fun).effects row.fields

  by : WaitsBy (env_of d other false (Some row)) (rules_at d other.fun)
  by = waits_by e rules waits

  -- what is known of the row where the rule applies
  row_in_all : IsRowIn (known_of_all d) row.state row.fields
  row_in_all = record {
    state = let low = pair_passes (is_plain_move d) d.facts.moves plain.moves row.state call.fun calls_in in (omega arith, grind (arith, nat_tests, low));
    fields = λ x. (omega arith, word_low (most_at (greatest d) x) x row.fields (up_at (greatest d) row.fields is_row.fields x));
  }

  row_in : IsRowIn (known_where d by.rule) row.state row.fields
  row_in = tests_tell (length d.most) e (known_of_all d) by.rule.tests by.applies_so row_in_all

  args_in : (args : List Value) → AreArgsIn (known_of_all d) args → AreArgsIn (known_where d by.rule) args
  args_in args are = subst (λ (f : ℕ → Bounds). (a : ℕ) → IsIn (f a) (word_of (unwrap_or (slice_get args a) (Word 0)))) (sym (tests_args (length d.most) e (known_of_all d) by.rule.tests)) are

  -- the two meet in this state
  meet : is_met_at d other.fun call.fun (known_where d by.rule).state (row.state, call.fun) ≡ true
  meet =
      let low = row_in.state.0 in
      let high = row_in.state.1 in
      let from : nat_le (known_where d by.rule).state.least row.state ≡ true = grind (arith, nat_tests, low) in
      let to : nat_le row.state (known_where d by.rule).state.most ≡ true = grind (arith, nat_tests, high) in
      ap (λ b. b && is_within (known_where d by.rule).state row.state && has_pair d.facts.moves row.state other.fun) (own_test call.fun)
      ∙ ap (λ b. b && nat_le row.state (known_where d by.rule).state.most && has_pair d.facts.moves row.state other.fun) from
      ∙ ap (λ b. b && has_pair d.facts.moves row.state other.fun) to ∙ waits_in

  they_meet : never_meet d other.fun call.fun (known_where d by.rule).state ≡ true → ⊥
  they_meet all =
      clash (is_met_at d other.fun call.fun (known_where d by.rule).state (row.state, call.fun)) meet
      (no_it (is_met_at d other.fun call.fun (known_where d by.rule).state (row.state, call.fun))
      (pair_passes (λ m. not (is_met_at d other.fun call.fun (known_where d by.rule).state m)) d.facts.moves all row.state call.fun calls_in))

  -- the call isn't stopped
  not_stopped : surely_stops (known_where d by.rule) (rules_at d call.fun) ≡ true → ⊥
  not_stopped stops =
      stops_surely (known_where d by.rule) (env_of d call false (Some row))
      (record { client_first = passes_too.within.client_first; client_last = passes_too.within.client_last; args = args_in call.args (args_small call.args passes_too.words); row = row_in })
      (rules_at d call.fun) stops done.done

  -- ---- it leaves the caller waiting

  same : length row.fields ≡ length d.most
  same = up_length (greatest d) row.fields is_row.fields ∙ greatest_length d

  changed : (x : ℕ) (f : Effect) → effect_on es x ≡ Some f → word_of (field_at left x) ≡ word_of (effect_of call good f (field_at row.fields x))
  changed x f some = ap word_of (after_some d plain call good passes_too.is_call.first passes_too.is_call.last row.fields same x f some)

  follow : Follow es row.fields left
  follow = record {
    same = λ x none. untouched call good es row.fields x none;
    lower = λ x is. by_effect es x (word_of (field_at left x) ≤ word_of (field_at row.fields x))
        (λ none. let stays = ap word_of (left_none call good es row.fields x none) in omega (arith, stays))
        (λ f some. let new = changed x f some in let low = lowered call good f (field_at row.fields x) (ap never_raises (sym some) ∙ is) in omega (arith, new, low));
    upper = λ x is. by_effect es x (word_of (field_at row.fields x) ≤ word_of (field_at left x))
        (λ none. let stays = ap word_of (left_none call good es row.fields x none) in omega (arith, stays))
        (λ f some. let new = changed x f some in let low = raised call good f (field_at row.fields x) (ap never_lowers (sym some) ∙ is) in omega (arith, new, low));
  }

  left_up : are_up_to (greatest d) left ≡ true
  left_up =
      up_left d plain call good passes_too.is_call.first passes_too.is_call.last row.fields same (up_at (greatest d) row.fields is_row.fields) passes_too.within.client_last (left_fits d call good false (Some row) 0 done)

  row_after_in : IsRowIn (known_after d call.fun (known_where d by.rule)) row.state left
  row_after_in = record { state = row_in.state; fields = each }
    where
      each : (x : ℕ) → IsIn (bounds_after (effect_on es x) (most_at (greatest d) x) ((known_where d by.rule).fields x)) (word_of (field_at left x))
      each x = by_effect es x (IsIn (bounds_after (effect_on es x) (most_at (greatest d) x) ((known_where d by.rule).fields x)) (word_of (field_at left x)))
          (λ none.
          subst (λ f. IsIn (bounds_after f (most_at (greatest d) x) ((known_where d by.rule).fields x)) (word_of (field_at left x))) (sym none)
          (subst (λ v. IsIn ((known_where d by.rule).fields x) (word_of v)) (sym (left_none call good es row.fields x none)) (row_in.fields x)))
          (λ f some.
          let new = changed x f some in
          let up = word_low (most_at (greatest d) x) x left (up_at (greatest d) left left_up x) in
          subst (λ g. IsIn (bounds_after g (most_at (greatest d) x) ((known_where d by.rule).fields x)) (word_of (field_at left x))) (sym some)
          (subst (IsIn (bounds_after (Some f) (most_at (greatest d) x) ((known_where d by.rule).fields x))) (sym new)
          (bounds_left call good f (field_at row.fields x) (most_at (greatest d) x) ((known_where d by.rule).fields x) passes_too.within.client_first passes_too.within.client_last (omega (arith, new, up)) (row_in.fields x))))

  abbrev later : Env
  later = record { client = other.client; args = other.args; state = row.state; fields = fields_after call good (fun_at d.facts.funs call.fun).effects row.fields }

  goes_on : waits_on d call.fun (take by.number (rules_at d other.fun)) by.rule (known_where d by.rule) ≡ true
      → verdict_of (record { client = other.client; args = other.args; state = row.state; fields = fields_after call good (fun_at d.facts.funs call.fun).effects row.fields }) (rules_at d other.fun) ≡ Some Wait
  goes_on is =
      let parts = both_true (list_all (stays_out es) (take by.number rules)) (surely_applies (known_after d call.fun (known_where d by.rule)) by.rule || list_all (test_lasts es) by.rule.tests) is in
      waits_again es e left follow rules by.number by.rule by.there by.out parts.0 by.wait
      (elim (one_of (surely_applies (known_after d call.fun (known_where d by.rule)) by.rule) (list_all (test_lasts es) by.rule.tests) parts.1) [
        | first surely ↦
            applies_surely (known_after d call.fun (known_where d by.rule)) later
            (record { client_first = passes.within.client_first; client_last = passes.within.client_last; args = args_in other.args (args_small other.args passes.words); row = row_after_in }) by.rule surely
        | second lasts ↦ tests_last es e left follow by.rule.tests lasts by.applies_so
      ])

  keeps : keeps_state d other.fun call.fun (known_where d by.rule).state ≡ true → state_after d.facts call.fun row.state ≡ row.state
  keeps all =
      same_of (state_after d.facts call.fun row.state) row.state
      (implied (is_met_at d other.fun call.fun (known_where d by.rule).state (row.state, call.fun)) (state_after d.facts call.fun row.state == row.state)
      (pair_passes (λ m. implies (is_met_at d other.fun call.fun (known_where d by.rule).state m) (state_after d.facts call.fun m.0 == m.0)) d.facts.moves all row.state call.fun calls_in) meet)

  -- what the other call leaves of the row
  pub record Leaves : Type 0 where
    pub still : verdict_of (record { client = other.client; args = other.args; state = row.state; fields = fields_after call good (fun_at d.facts.funs call.fun).effects row.fields }) (rules_at d other.fun) ≡ Some Wait
    pub kept : state_after d.facts call.fun row.state ≡ row.state

  leaves_of : (a b w m s l p : Bool) → a ≡ false → b ≡ false → w ≡ false → (m ≡ true → ⊥) → (s ≡ true → ⊥) → (a || b || w || m || s || (l && p)) ≡ true → (l ≡ true) × (p ≡ true)
  leaves_of true b w m s l p no_a no_b no_w no_m no_s is = absurd (cc no_a)
  leaves_of false true w m s l p no_a no_b no_w no_m no_s is = absurd (cc no_b)
  leaves_of false false true m s l p no_a no_b no_w no_m no_s is = absurd (cc no_w)
  leaves_of false false false true s l p no_a no_b no_w no_m no_s is = absurd (no_m refl)
  leaves_of false false false false true l p no_a no_b no_w no_m no_s is = absurd (no_s refl)
  leaves_of false false false false false l p no_a no_b no_w no_m no_s is = both_true l p is

  -- a function that may be done beside who waits leaves it waiting
  pub leaves : waits_well d other.fun (fun_at d.facts.funs other.fun) ≡ true → (fun_at d.facts.funs call.fun).creation ≡ false → (fun_at d.facts.funs call.fun).terminal ≡ false → (fun_at d.facts.funs call.fun).wakeup ≡ false → Leaves
  leaves well makes ends wakes =
      let rule_well = rule_in (rule_waits d other.fun) 1 rules well by.number by.rule by.there in
      let number : (1 + by.number) - 1 ≡ by.number = omega arith in
      let all : all_from (leaves_waiting d other.fun (take by.number rules) by.rule) 1 d.facts.funs ≡ true
      = some (is_wait by.rule.verdict) (all_from (leaves_waiting d other.fun (take by.number rules) by.rule) 1 d.facts.funs) (ap is_wait by.wait)
      (subst (λ n. (not (is_wait by.rule.verdict) || all_from (leaves_waiting d other.fun (take n rules) by.rule) 1 d.facts.funs) ≡ true) number rule_well) in
      let one = fun_in (leaves_waiting d other.fun (take by.number rules) by.rule) d.facts.funs all call.fun passes_too.is_call.first passes_too.is_call.last in
      let k = known_where d by.rule in
      let two = leaves_of (fun_at d.facts.funs call.fun).creation (fun_at d.facts.funs call.fun).terminal (fun_at d.facts.funs call.fun).wakeup (never_meet d other.fun call.fun k.state)
      (surely_stops k (rules_at d call.fun)) (keeps_state d other.fun call.fun k.state) (waits_on d call.fun (take by.number rules) by.rule k) makes ends wakes they_meet not_stopped one in
      record { still = goes_on two.1; kept = keeps two.0 }
    where
      some : (a b : Bool) → a ≡ true → (not a || b) ≡ true → b ≡ true
      some true b a_is is = is
      some false b a_is is = absurd (cc a_is)

-- ---- the law

module _ (d : Described) (plain : IsPlain d) (waits_all : all_from (waits_well d) 1 d.facts.funs ≡ true) (o : Object) (other call : Call) (good : Good) (sound : IsDescribedSound d o) (passes : Passes d.facts o other)
    (blocked : described_table d o other ≡ None) (passes_too : Passes d.facts o call) (is : described_table d o call ≡ Some (Ok good)) (leaves_it : leaves_blocked d.facts o call other ≡ true) where
  its : IsPlainFun d call.fun (fun_at d.facts.funs call.fun)
  its = plain_fun d plain call.fun passes_too.is_call.first passes_too.is_call.last

  its_other : IsPlainFun d other.fun (fun_at d.facts.funs other.fun)
  its_other = plain_fun d plain other.fun passes.is_call.first passes.is_call.last

  abbrev e_other : Env
  e_other = env_of d other (fun_at d.facts.funs other.fun).creation (row_at o.rows other.desc)

  first_waits : verdict_of e_other (rules_at d other.fun) ≡ Some Wait
  first_waits = wait_tells d other.fun (if (fun_at d.facts.funs other.fun).creation then o.given + 1 else 0) e_other blocked

  makes_none : (fun_at d.facts.funs other.fun).creation ≡ false
  makes_none = (wait_is_plain d plain other.fun passes.is_call.first passes.is_call.last e_other first_waits).1

  -- the row of who waits
  found : (r : Row) × (row_at o.rows other.desc ≡ Some r)
  found = row_of_call d.facts o other passes its_other.no_query (its_other.on makes_none)

  found_is : (r : Row) → row_at o.rows other.desc ≡ Some r → IsDescribedRow d r
  found_is r there = met (IsDescribedRow d) 0 o.given other.desc o.rows r sound.rows there

  waits_at : (r : Row) → row_at o.rows other.desc ≡ Some r → verdict_of (env_of d other false (Some r)) (rules_at d other.fun) ≡ Some Wait
  waits_at r there =
      ap (λ row. verdict_of (env_of d other false row) (rules_at d other.fun)) (sym there)
      ∙ ap (λ b. verdict_of (env_of d other b (row_at o.rows other.desc)) (rules_at d other.fun)) (sym makes_none) ∙ first_waits

  -- the row that it waits on afterwards
  record StillWaits (row : Option Row) (r : Row) : Type 0 where
    pub new : Row
    pub there : row ≡ Some new
    pub waits : verdict_of (env_of d other false (Some new)) (rules_at d other.fun) ≡ Some Wait
    pub state : new.state ≡ r.state

  same_row : (row : Option Row) (r : Row) → row_at o.rows other.desc ≡ Some r → row ≡ Some r → StillWaits row r
  same_row row r there same = record { new = r; there = same; waits = waits_at r there; state = refl }

  by_rows : (makes ends : Bool) → (fun_at d.facts.funs call.fun).creation ≡ makes → (fun_at d.facts.funs call.fun).terminal ≡ ends → (r : Row)
      → StillWaits (row_at (turned d.facts o call good false makes ends false).rows other.desc) r → StillWaits (row_at (after d.facts o call (Ok good)).rows other.desc) r
  by_rows makes ends is_making is_end r still =
      subst (λ obj. StillWaits (row_at obj.rows other.desc) r) (sym (after_is d.facts o call good makes ends its.no_query its.no_file is_making is_end)) still

  -- ---- both on one row

  abbrev change : Row → Row
  change r = if r.id == call.desc then row_after d.facts call good r else r

  change_id : (r : Row) → (change r).id ≡ r.id
  change_id r = at (r.id == call.desc)
    where
      at : (b : Bool) → (cond b (row_after d.facts call good r) r).id ≡ r.id
      at true = refl
      at false = refl

  -- a wake-up on the other's descriptor doesn't leave it blocked
  no_wakeup : (call.desc == other.desc) ≡ true → (fun_at d.facts.funs call.fun).wakeup ≡ false
  no_wakeup same = at (fun_at d.facts.funs call.fun).wakeup (call.desc == other.desc) same (both_true _ _ leaves_it).0
    where
      at : (w t : Bool) → t ≡ true → implies w (not t) ≡ true → w ≡ false
      at true true same is = absurd (cc is)
      at true false same is = absurd (cc same)
      at false t same is = refl

  after_change : (r : Row) → row_at o.rows other.desc ≡ Some r → row_at o.rows call.desc ≡ Some r → (fun_at d.facts.funs call.fun).creation ≡ false → (fun_at d.facts.funs call.fun).terminal ≡ false
      → (call.desc == other.desc) ≡ true → r.id ≡ call.desc → StillWaits (row_at (map change o.rows) other.desc) r
  after_change r there own makes ends same id =
      let done = done_tells d call.fun 0 (env_of d call false (Some r)) good (ap (λ row. answer_of d call false o.given row) (sym own) ∙ ap (λ b. answer_of d call b o.given (row_at o.rows call.desc)) (sym makes) ∙ is) in
      let waits_in = in_its_state d.facts o other r passes its_other.no_query (its_other.on makes_none) there in
      let calls_in = in_its_state d.facts o call r passes_too its.no_query (its.on makes) own in
      let well = fun_in (waits_well d) d.facts.funs waits_all other.fun passes.is_call.first passes.is_call.last in
      let left = leaves d plain o other call good passes passes_too r (found_is r there) waits_in calls_in (waits_at r there) done well makes ends (no_wakeup same) in
      let here : (r.id == call.desc) ≡ true = grind (arith, nat_tests, id) in
      record {
        new = row_after d.facts call good r;
        there = to_map change change_id o.rows other.desc r there ∙ ap (λ b. Some (cond b (row_after d.facts call good r) r)) here;
        waits = ap (λ n. verdict_of (record { client = other.client; args = other.args; state = n; fields = fields_after call good (fun_at d.facts.funs call.fun).effects r.fields }) (rules_at d other.fun)) left.kept ∙ left.still;
        state = left.kept;
      }

  by_change : (fun_at d.facts.funs call.fun).creation ≡ false → (fun_at d.facts.funs call.fun).terminal ≡ false → (r : Row) → row_at o.rows other.desc ≡ Some r → StillWaits (row_at (map change o.rows) other.desc) r
  by_change makes ends r there = at (other.desc == call.desc) refl
    where
      at : (b : Bool) → (other.desc == call.desc) ≡ b → StillWaits (row_at (map change o.rows) other.desc) r
      at false apart = same_row (row_at (map change o.rows) other.desc) r there (row_at-changed (row_after d.facts call good) (λ x. refl) o.rows call.desc other.desc apart ∙ there)
      at true same =
          let one = same_of other.desc call.desc same in
          let turned_test : (call.desc == other.desc) ≡ true = grind (arith, nat_tests, one) in
          let own : row_at o.rows call.desc ≡ Some r = ap (row_at o.rows) (sym one) ∙ there in
          after_change r there own makes ends turned_test (id_of_row o.rows other.desc r there ∙ one)

  still : (r : Row) → row_at o.rows other.desc ≡ Some r → StillWaits (row_at (after d.facts o call (Ok good)).rows other.desc) r
  still r there = at (fun_at d.facts.funs call.fun).creation (fun_at d.facts.funs call.fun).terminal refl refl
    where
      ends_not : (fun_at d.facts.funs call.fun).terminal ≡ true → not (ends_with d.facts o.rows call.desc other.desc) ≡ true
      ends_not ends = implied (fun_at d.facts.funs call.fun).terminal (not (ends_with d.facts o.rows call.desc other.desc))
          (both_true (implies (fun_at d.facts.funs call.fun).wakeup (not (call.desc == other.desc))) (implies (fun_at d.facts.funs call.fun).terminal (not (ends_with d.facts o.rows call.desc other.desc))) leaves_it).1 ends

      at : (makes ends : Bool) → (fun_at d.facts.funs call.fun).creation ≡ makes → (fun_at d.facts.funs call.fun).terminal ≡ ends → StillWaits (row_at (after d.facts o call (Ok good)).rows other.desc) r
      at true ends makes is_end = by_rows true ends makes is_end r (same_row (row_at (o.rows ++ new_row d.facts call good ∷ []) other.desc) r there (row_at-more o.rows (new_row d.facts call good) r other.desc there))
      at false true makes is_end =
          by_rows false true makes is_end r
          (same_row (row_at (filter (λ r. not (ends_with d.facts o.rows call.desc r.id)) o.rows) other.desc) r there
          (row_at-left (λ id. not (ends_with d.facts o.rows call.desc id)) o.rows other.desc (ends_not is_end) ∙ there))
      at false false makes is_end = by_rows false false makes is_end r (by_change makes is_end r there)

  pub still_blocked : described_table d (after d.facts o call (Ok good)) other ≡ None
  still_blocked =
      let w = still found.0 found.1 in
      ap (λ b. answer_of d other b (after d.facts o call (Ok good)).given (row_at (after d.facts o call (Ok good)).rows other.desc)) makes_none
      ∙ ap (λ row. answer_of d other false (after d.facts o call (Ok good)).given row) w.there ∙ wait_is d other.fun 0 (env_of d other false (Some w.new)) w.waits

  pub still_in_state : state_in (row_at (after d.facts o call (Ok good)).rows other.desc) ≡ state_in (row_at o.rows other.desc)
  still_in_state = let w = still found.0 found.1 in ap state_in w.there ∙ w.state ∙ ap state_in (sym found.1)

-- who waits for a described service stays blocked after any call that neither wakes it nor ends its descriptor
pub described_blocked_stays : (d : Described) → IsPlain d → all_from (waits_well d) 1 d.facts.funs ≡ true → BlockedStays d.facts (described_table d) (IsDescribedSound d)
described_blocked_stays d plain waits_all = record {
  blocked = λ o other call good sound passes blocked passes_too is leaves_it. still_blocked d plain waits_all o other call good sound passes blocked passes_too is leaves_it;
  state = λ o other call good sound passes blocked passes_too is leaves_it. still_in_state d plain waits_all o other call good sound passes blocked passes_too is leaves_it;
}
