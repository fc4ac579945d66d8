-- A described service rebuilds its rows.
use Rattle.std.proofs.Common.{◌≡◌, ℕ, zero, suc, ◌+◌, ◌<◌, ◌≤◌, Bool, true, false, cond, not, List, [], ◌∷◌, ◌++◌, length, map, None, Some, refl, sym, ◌∙◌, ap, subst, ◌⊎◌, inl, inr, arith}
use Rattle.std.specs.Prelude.{◌==◌, ◌&&◌, ◌||◌, nat_le, nat_lt}
use Rattle.std.specs.List.{list_all}
use Rattle.std.specs.declared.option.Option.{Option}
use Rattle.std.proofs.lemmas.Bool.Decides.{nat_tests}
use Rattle.std.proofs.lemmas.List.{length-append}
use Rattle.sg_facts.specs.sg_base.Lists.{Each}
use Rattle.sg_facts.specs.sg_base.declared.value.Value.{Value}
use Rattle.sg_facts.specs.sg_base.declared.value.Value.TheVariants.{Word}
use Rattle.sg_facts.specs.sg_base.declared.call.Call.{Call}
use Rattle.sg_facts.specs.sg_base.declared.reply.Good.{Good}
use Rattle.sg_facts.specs.sg_base.declared.reply.Reply.TheVariants.{Ok}
use Rattle.sg_facts.specs.declared.row.Row.{Row}
use Rattle.sg_facts.specs.declared.shape.Effect.{Effect}
use Rattle.sg_facts.specs.Alike.{named}
use Rattle.sg_facts.specs.Allowed.{implies, is_replayed}
use Rattle.sg_facts.specs.Facts.{fun_at, state_after}
use Rattle.sg_facts.specs.Fits.{Fits}
use Rattle.sg_facts.specs.Held.{FieldsHold, set_of}
use Rattle.sg_facts.specs.Interface.{Declared, has_pair}
use Rattle.sg_facts.specs.Laws.{WalkGoesOn, next_call}
use Rattle.sg_facts.specs.Limits.{last_client}
use Rattle.sg_facts.specs.Object.{Object}
use Rattle.sg_facts.specs.Sound.{AreFields, IsRow}
use Rattle.sg_facts.specs.Track.{effect_of, field_at, fields_after, first_word, row_at, word_of}
use Rattle.sg_facts.specs.Fields.{empty_field}
use Rattle.sg_facts.specs.Walks.{Spot, effect_on, first_spot, good, next_spot, replay_args, replay_caller, spot_from, spot_of, unset}
use Rattle.sg_facts.specs.Inside.Walking.{may_begin, may_go_on}
use Rattle.sg_facts.specs.Replaying.Replays.{AnswersCreations, AnswersReplays, AnswersSteps, IsAnsweredOk}
use Rattle.sg_facts.proofs.Replaying.Carried.{are_from}
use Rattle.sg_facts.proofs.Replaying.Found.{met}
use Rattle.sg_facts.proofs.Replaying.Goes.{walk_goes_on}
use Rattle.sg_facts.proofs.Replaying.Marks.{AreFrom, IsFrom, none_holds}
use Rattle.sg_facts.proofs.Replaying.Service.{ends, of_facts, step_of}
use Rattle.sg_facts.proofs.Replaying.Steps.{IsReplayedFun, begins, declared_within, first_of, first_replayed, goes_on_with, replayed_fun, rest_meets, step_makes_none, step_replayed}
use Rattle.sg_described.specs.Described.{Described, rules_at}
use Rattle.sg_described.specs.DescribedSound.{IsDescribedRow, IsDescribedSound}
use Rattle.sg_described.specs.Known.{greatest, may_stop, word_most}
use Rattle.sg_described.specs.Meaning.{Env, answer_of, call_in, described_table, fits, last_word, leaves_fit, most_at, said, verdict_of, words_in}
use Rattle.sg_described.specs.NeverZero.{all_from, is_never_zero}
use Rattle.sg_described.specs.Safe.{IsPlain}
use Rattle.sg_described.specs.Walking.{begins_well, blank, caller_fits, effect_fits, field_known, is_lost, is_step, known_at, left_most, mark_at, replays_well, spots_within, steps_well, walks_well}
use Rattle.sg_described.proofs.Keeping.Answering.{IsPlainFun, done_is, lets_do, plain_fun}
use Rattle.sg_described.proofs.Keeping.Basics.{OneOf, both_true, first, fun_in, implied, one_of, own_test, pair_passes, second}
use Rattle.sg_described.proofs.Keeping.Effects.{fields_same, fits_same}
use Rattle.sg_described.proofs.Keeping.Fitting.{IsWordTo, empty_at, empty_length, fields_at, fields_length, up_at, word_up_to}
use Rattle.sg_described.proofs.Keeping.InRanges.{IsEnv, IsIn, lets_surely, word_low}
use Rattle.sg_described.proofs.Keeping.Marking.{args_fit, args_in, caller_is, effect_left, hold_at, mark_in, unset_at}
use Rattle.sg_described.proofs.Keeping.SoundLaw.{described_answers_and_keeps, never_zero_on, words_left}
use Rattle.sg_described.proofs.Keeping.Spots.{IsKnown, IsLost, begin_among, is_among, known_by, lost_never, lost_on, lost_tells, more_within, next_among, spot_passes}

-- what is known of a replayed call, by the tests of where it leads to
pub record LeadsWell (d : Described) (fun : ℕ) (s : Spot) : Type 0 where
  pub calls : list_all (caller_fits d (next_spot d.facts fun s).state) (fun_at d.facts.funs fun).effects ≡ true
  pub clear : list_all (λ r. not (may_stop (known_at d fun s) r)) (rules_at d fun) ≡ true
  pub fit : list_all (effect_fits d fun s) (fun_at d.facts.funs fun).effects ≡ true

leads_well : (d : Described) (fun : ℕ) (s : Spot) → replays_well d fun s ≡ true → LeadsWell d fun s ⊎ IsLost d (next_spot d.facts fun s)
leads_well d fun s is = elim (one_of (is_lost d (next_spot d.facts fun s))
    (list_all (caller_fits d (next_spot d.facts fun s).state) (fun_at d.facts.funs fun).effects && list_all (λ r. not (may_stop (known_at d fun s) r)) (rules_at d fun)
    && list_all (effect_fits d fun s) (fun_at d.facts.funs fun).effects) is) [
      | first lost ↦ inr (lost_tells d (next_spot d.facts fun s) lost)
      | second well ↦
          let two = both_true (list_all (caller_fits d (next_spot d.facts fun s).state) (fun_at d.facts.funs fun).effects && list_all (λ r. not (may_stop (known_at d fun s) r)) (rules_at d fun))
          (list_all (effect_fits d fun s) (fun_at d.facts.funs fun).effects) well in
          let one = both_true (list_all (caller_fits d (next_spot d.facts fun s).state) (fun_at d.facts.funs fun).effects) (list_all (λ r. not (may_stop (known_at d fun s) r)) (rules_at d fun)) two.0 in
          inl (record { calls = one.0; clear = one.1; fit = two.1 })
    ]

module _ (d : Described) (plain : IsPlain d) where
  -- ---- one replayed call

  module _ (r : Row) (row : IsDescribedRow d r) (low : 1 ≤ r.creator) (high : r.creator ≤ last_client) (fun : ℕ) (first_fun : 1 ≤ fun) (last_fun : fun ≤ length d.facts.funs) (its : IsReplayedFun d.facts (fun_at d.facts.funs fun))
      (s : Spot) (state : ℕ) (state_is : state ≡ s.state) (ws : List Value) (same : length ws ≡ length d.most) (words : (x : ℕ) → IsWordTo last_word ws x) (hold : FieldsHold s.marks r.fields ws)
      (never_here : (x : ℕ) → mark_at s.marks x ≡ good → is_never_zero d.facts s.state x ≡ true → 1 ≤ word_of (field_at r.fields x))
      (never_next : (x : ℕ) → is_never_zero d.facts (next_spot d.facts fun s).state x ≡ true → 1 ≤ word_of (field_at r.fields x)) (well : LeadsWell d fun s) where
    abbrev es : List (ℕ × Effect)
    es = (fun_at d.facts.funs fun).effects

    -- what rules see of the call
    abbrev pub seen : Env
    seen = record { client = replay_caller (fun_at d.facts.funs fun).effects r; args = replay_args (fun_at d.facts.funs fun).effects r 0 (fun_at d.facts.funs fun).kinds; state = state; fields = ws }

    pub client_is : (1 ≤ replay_caller (fun_at d.facts.funs fun).effects r) × (replay_caller (fun_at d.facts.funs fun).effects r ≤ last_client)
    client_is = caller_is d r row (next_spot d.facts fun s).state es well.calls never_next low high

    field_in : (x : ℕ) → IsIn (field_known d s x) (word_of (field_at ws x))
    field_in x =
        mark_in (mark_at s.marks x) (is_never_zero d.facts s.state x) (most_at (greatest d) x) (field_at r.fields x) (field_at ws x) (hold_at s.marks r.fields ws x hold) (up_at (greatest d) r.fields row.fields x) (words x)
        (never_here x)

    env : IsEnv (known_at d fun s) seen
    env = record {
      client_first = client_is.0;
      client_last = client_is.1;
      args = args_in d r row fun;
      row = record { state = (omega (arith, state_is), omega (arith, state_is)); fields = field_in };
    }

    pub lets : lets_do (verdict_of seen (rules_at d fun)) ≡ true
    lets = lets_surely (known_at d fun s) seen env (rules_at d fun) well.clear

    reply : Good
    reply = said 0 (words_in seen (verdict_of seen (rules_at d fun)))

    from : AreFrom (call_in seen) r.fields es
    from = are_from r (call_in seen) es (fun_at d.facts.funs fun).kinds refl refl its.args its.takes its.caller

    all_fit : (xs : List (ℕ × Effect)) → Each (λ e. IsFrom (call_in seen) (field_at r.fields e.0) e.1) xs → list_all (effect_fits d fun s) xs ≡ true
        → fits d.most (call_in seen) (said 0 (words_in seen (verdict_of seen (rules_at d fun)))) xs ws ≡ true
    all_fit [] each all = refl
    all_fit (e ∷ xs) each all =
        let parts = both_true (effect_fits d fun s e) (list_all (effect_fits d fun s) xs) all in
        let held = field_in e.0 in
        let one = effect_left (call_in seen) (said 0 (words_in seen (verdict_of seen (rules_at d fun)))) e.1 (field_at r.fields e.0) (field_at ws e.0) (field_known d s e.0).most (most_at (greatest d) e.0)
        (word_most (known_at d fun s) (rules_at d fun)) each.0 (up_at (greatest d) r.fields row.fields e.0) (words e.0) held.1 (word_low (known_at d fun s) seen env (rules_at d fun)) in
        let fit = parts.0 in
        let most : left_most e.1 (field_known d s e.0).most (most_at (greatest d) e.0) (word_most (known_at d fun s) (rules_at d fun)) ≤ most_at d.most e.0 = grind (arith, nat_tests, fit) in
        let up = one.2 in
        let own = word_up_to (most_at d.most e.0) one.0 (effect_of (call_in seen) (said 0 (words_in seen (verdict_of seen (rules_at d fun)))) e.1 (field_at ws e.0)) one.1 (omega (arith, most, up)) in
        ap (λ b. b && fits d.most (call_in seen) (said 0 (words_in seen (verdict_of seen (rules_at d fun)))) xs ws) own ∙ all_fit xs each.1 parts.1

    pub left_fit : leaves_fit d fun seen (verdict_of seen (rules_at d fun)) ≡ true
    left_fit = all_fit es from well.fit

    -- what any Ok of the call with these words leaves
    pub left_fields : (call : Call) (desc : ℕ) → call.client ≡ replay_caller (fun_at d.facts.funs fun).effects r → call.args ≡ replay_args (fun_at d.facts.funs fun).effects r 0 (fun_at d.facts.funs fun).kinds → call.fun ≡ fun
        → AreFields d.facts.fields (fields_after call (said desc (words_in seen (verdict_of seen (rules_at d fun)))) (fun_at d.facts.funs fun).effects ws)
    left_fields call desc client args fun_is =
        let own : Call = record { client = replay_caller (fun_at d.facts.funs fun).effects r; seq = 0; fun = fun; desc = 0; args = replay_args (fun_at d.facts.funs fun).effects r 0 (fun_at d.facts.funs fun).kinds } in
        let good : Good = said desc (words_in seen (verdict_of seen (rules_at d fun))) in
        let one = words_left d plain own good first_fun last_fun ws same words (fits_same d.most own (call_in seen) good (said 0 (words_in seen (verdict_of seen (rules_at d fun)))) refl refl refl es ws ∙ left_fit) in
        subst (AreFields d.facts.fields) (fields_same own call good good (sym client) (sym args) refl es ws) one

  -- ---- where walks come to

  module _ (begins_all : all_from (begins_well d) 1 d.facts.funs ≡ true) (more : ℕ) (enough : 6 ≤ more) (walks_all : list_all (walks_well d) (spots_within d more) ≡ true) (own : Declared) where
    abbrev i : Declared
    i = record own { facts = d.facts }

    module _ (fits_i : Fits i) where
      within_funs : (f : ℕ) → may_begin i f ≡ true → (1 ≤ f) × (f ≤ length d.facts.funs)
      within_funs f may = let b = begins i f may in declared_within i f fits_i b.declared

      begin_well : (f : ℕ) → may_begin i f ≡ true → LeadsWell d f (blank d f) ⊎ IsLost d (first_spot d.facts f)
      begin_well f may =
          let b = begins i f may in
          let range = within_funs f may in
          leads_well d f (blank d f) (implied (fun_at d.facts.funs f).creation (replays_well d f (blank d f)) (fun_in (begins_well d) d.facts.funs begins_all f range.0 range.1) b.makes)

      begin_known : (f : ℕ) → may_begin i f ≡ true → IsKnown d 0 (first_spot d.facts f)
      begin_known f may =
          let b = begins i f may in
          let range = within_funs f may in
          known_by d 0 (first_spot d.facts f) (λ kept. begin_among d f range.0 range.1 b.makes kept)

      lost_further : (s : Spot) (f : ℕ) → IsLost d s → may_go_on i s f ≡ true → IsLost d (next_spot d.facts f s)
      lost_further s f lost may = lost_on d s f lost (step_of i s f fits_i may)

      next_known : (n : ℕ) (s : Spot) (f : ℕ) → IsKnown d n s → may_go_on i s f ≡ true → IsKnown d (suc n) (next_spot d.facts f s)
      next_known n s f (inl listed) may =
          let goes = goes_on_with i s f may in
          known_by d (suc n) (next_spot d.facts f s) (λ kept. next_among d n s f listed (step_of i s f fits_i may) goes.no_end kept)
      next_known n s f (inr lost) may = inr (lost_further s f lost may)

      split : (b : Bool) (x : Option Spot) (last : Spot) → cond b x None ≡ Some last → (b ≡ true) × (x ≡ Some last)
      split true x last is = (refl, is)
      split false x last is = absurd (cc is)

      known_from : (m n : ℕ) (s last : Spot) (walk : List ℕ) → n + length walk ≤ m → IsKnown d n s → spot_from i s walk ≡ Some last → IsKnown d m last
      known_from m n s last [] low known led =
          let one : s ≡ last = cc led in
          subst (IsKnown d m) one (later known)
        where
          later : IsKnown d n s → IsKnown d m s
          later (inl listed) = inl (more_within d n m s (omega (arith, low)) listed)
          later (inr lost) = inr lost
      known_from m n s last (f ∷ walk) low known led =
          let parts = split (may_go_on i s f) (spot_from i (next_spot d.facts f s) walk) last led in
          known_from m (suc n) (next_spot d.facts f s) last walk (omega (arith, low)) (next_known n s f known parts.0) parts.1

      -- where a walk of at most so many calls leads to
      known_spot : (f : ℕ) (done : List ℕ) (last : Spot) → length done ≤ more → spot_of i (f ∷ done) ≡ Some last → IsKnown d more last
      known_spot f done last few led =
          let parts = split (may_begin i f) (spot_from i (first_spot d.facts f) done) last led in
          known_from more 0 (first_spot d.facts f) last done (omega (arith, few)) (begin_known f parts.0) parts.1

      step_well : (s : Spot) (f : ℕ) → is_among s (spots_within d more) ≡ true → may_go_on i s f ≡ true → LeadsWell d f s ⊎ IsLost d (next_spot d.facts f s)
      step_well s f listed may =
          let goes = goes_on_with i s f may in
          let pair = step_of i s f fits_i may in
          let all = spot_passes (walks_well d) (spots_within d more) s walks_all listed in
          let so = pair_passes (steps_well d s) d.facts.steps all s.state f pair in
          let is : is_step d s (s.state, f) ≡ true = ap (λ b. b && not (fun_at d.facts.funs f).terminal) (own_test s.state) ∙ ap not goes.no_end in
          leads_well d f s (implied (is_step d s (s.state, f)) (replays_well d f s) so is)

      -- what is never 0 stays so
      never_after : (x : ℕ) (s : Spot) (f : ℕ) → is_never_zero d.facts s.state x ≡ true → may_go_on i s f ≡ true → is_never_zero d.facts (next_spot d.facts f s).state x ≡ true
      never_after x s f never may = never_zero_on d.facts x s.state never f (step_of i s f fits_i may)

      -- what holds where a walk begins, and after each step, holds at its end
      along : (P : Spot → Type 0) → ((s : Spot) (f : ℕ) → P s → may_go_on i s f ≡ true → P (next_spot d.facts f s)) → (last s : Spot) (walk : List ℕ) → P s → spot_from i s walk ≡ Some last → P last
      along P on last s [] is led = let one : s ≡ last = cc led in subst P one is
      along P on last s (f ∷ walk) is led =
          let parts = split (may_go_on i s f) (spot_from i (next_spot d.facts f s) walk) last led in
          along P on last (next_spot d.facts f s) walk (on s f is parts.0) parts.1

    -- ---- the two laws

    rows_of_o : (o : Object) (r : Row) → IsDescribedSound d o → row_at o.rows r.id ≡ Some r → IsRow d.facts o.rows r × IsDescribedRow d r
    rows_of_o o r sound there = (met (IsRow d.facts o.rows) 0 o.given r.id o.rows r sound.general.rows there, met (IsDescribedRow d) 0 o.given r.id o.rows r sound.rows there)

    creates : AnswersCreations i (described_table d) (IsDescribedSound d)
    creates names o held r rest half there fresh parent walk =
        let rows = rows_of_o o r half.is_sound there in
        let fits_i : Fits i = half.fits in
        let end = ends i (r.made ∷ rest) r.made r.state (set_of r) walk in
        let begun = (first_of i end.spot r.made rest end.led).0 in
        let b = begins i r.made begun in
        let range = within_funs fits_i r.made begun in
        let its = replayed_fun d.facts r.made plain.allowed range.0 range.1 (first_replayed d.facts r.made b.makes) in
        let p = plain_fun d plain r.made range.0 range.1 in
        let from : spot_from i (first_spot d.facts r.made) rest ≡ Some end.spot = ap (λ t. cond t (spot_from i (first_spot d.facts r.made) rest) None) (sym begun) ∙ end.led in
        let well : LeadsWell d r.made (blank d r.made) = elim (begin_well fits_i r.made begun) [
          | inl so ↦ so
          | inr lost ↦
              let last = along fits_i (IsLost d) (lost_further fits_i) end.spot (first_spot d.facts r.made) rest lost from in
              absurd (lost_never end.spot.marks (set_of r) last.field last.lost end.marks)
        ] in
        let never_next : (x : ℕ) → is_never_zero d.facts (first_spot d.facts r.made).state x ≡ true → 1 ≤ word_of (field_at r.fields x)
        = λ x never.
        let last = along fits_i (λ s. is_never_zero d.facts s.state x ≡ true) (never_after fits_i x) end.spot (first_spot d.facts r.made) rest never from in
        rows.1.some x (subst (λ n. is_never_zero d.facts n x ≡ true) end.state_is last) in
        let never_here : (x : ℕ) → mark_at (blank d r.made).marks x ≡ good → is_never_zero d.facts (blank d r.made).state x ≡ true → 1 ≤ word_of (field_at r.fields x)
        = λ x is never. let no : unset ≡ good = sym (unset_at d.facts.fields x) ∙ is in absurd (cc no) in
        let ws : List Value = map empty_field d.facts.fields in
        let same : length ws ≡ length d.most = empty_length d.facts.fields ∙ sym plain.fields in
        let words : (x : ℕ) → IsWordTo last_word ws x = λ x. (0, empty_at d.facts.fields plain.words x, omega arith) in
        let hold = none_holds d.facts.fields r.fields rows.0.fields in
        let call = next_call d.facts names r [] r.made in
        let client = client_is r rows.1 rows.0.creator_first rows.0.creator_last r.made range.0 range.1 its (blank d r.made) r.made refl ws same words hold never_here never_next well in
        let lets_it = lets r rows.1 rows.0.creator_first rows.0.creator_last r.made range.0 range.1 its (blank d r.made) r.made refl ws same words hold never_here never_next well in
        let fit = left_fit r rows.1 rows.0.creator_first rows.0.creator_last r.made range.0 range.1 its (blank d r.made) r.made refl ws same words hold never_here never_next well in
        let e : Env = record { client = replay_caller (fun_at d.facts.funs r.made).effects r; args = replay_args (fun_at d.facts.funs r.made).effects r 0 (fun_at d.facts.funs r.made).kinds; state = r.made; fields = ws } in
        record {
          client_first = client.0;
          client_last = client.1;
          args = args_fit d r rows.1 (fun_at d.facts.funs r.made).effects (fun_at d.facts.funs r.made).kinds (p.kinds (first_replayed d.facts r.made b.makes));
          good = said (held.given + 1) (words_in e (verdict_of e (rules_at d r.made)));
          answered = ap (λ t. answer_of d call t held.given (row_at held.rows call.desc)) b.makes ∙ done_is d r.made (held.given + 1) e lets_it fit;
          fields = left_fields r rows.1 rows.0.creator_first rows.0.creator_last r.made range.0 range.1 its (blank d r.made) r.made refl ws same words hold never_here never_next well call (held.given + 1) refl refl refl;
        }

    steps_on_it : AnswersSteps i (described_table d) (IsDescribedSound d)
    steps_on_it names o held r w first_fun done rest fun half there found walk part may =
        let fits_i : Fits i = half.fits in
        let rows = rows_of_o o r half.is_sound there in
        let end = ends i ((first_fun ∷ done) ++ fun ∷ rest) r.made r.state (set_of r) walk in
        let goes = goes_on_with i part.spot fun may in
        let pair = step_of i part.spot fun fits_i may in
        let range = declared_within i fun fits_i goes.declared in
        let its = replayed_fun d.facts fun plain.allowed range.0 range.1 (step_replayed d.facts part.spot.state fun pair) in
        let p = plain_fun d plain fun range.0 range.1 in
        let makes = step_makes_none d.facts part.spot.state fun plain.allowed pair in
        let not_lost : IsLost d (next_spot d.facts fun part.spot) → ⊥
        = λ lost.
        let last = rest_meets i (IsLost d) (lost_further fits_i) part.spot end.spot first_fun done rest fun part.led end.led lost in
        lost_never end.spot.marks (set_of r) last.field last.lost end.marks in
        let short = walk.short in
        let long = length-append (first_fun ∷ done) (fun ∷ rest) in
        let few : length done ≤ more = omega (arith, short, long, enough) in
        let listed : is_among part.spot (spots_within d more) ≡ true
        = elim (known_spot fits_i first_fun done part.spot few part.led) [ inl so ↦ so | inr lost ↦ absurd (not_lost (lost_further fits_i part.spot fun lost may)) ] in
        let well : LeadsWell d fun part.spot = elim (step_well fits_i part.spot fun listed may) [ inl so ↦ so | inr lost ↦ absurd (not_lost lost) ] in
        let never_next : (x : ℕ) → is_never_zero d.facts (next_spot d.facts fun part.spot).state x ≡ true → 1 ≤ word_of (field_at r.fields x)
        = λ x never.
        let last = rest_meets i (λ s. is_never_zero d.facts s.state x ≡ true) (never_after fits_i x) part.spot end.spot first_fun done rest fun part.led end.led never in
        rows.1.some x (subst (λ n. is_never_zero d.facts n x ≡ true) end.state_is last) in
        let never_here : (x : ℕ) → mark_at part.spot.marks x ≡ good → is_never_zero d.facts part.spot.state x ≡ true → 1 ≤ word_of (field_at r.fields x)
        = λ x is never. never_next x (never_after fits_i x part.spot fun never may) in
        let held_row = met (IsRow d.facts held.rows) 0 held.given (named names r.id) held.rows w half.holds.held_sound.rows found in
        let same : length w.fields ≡ length d.most = fields_length d.facts.fields w.fields held_row.fields ∙ sym plain.fields in
        let words : (x : ℕ) → IsWordTo last_word w.fields x = fields_at d.facts.fields w.fields plain.words held_row.fields in
        let call = next_call d.facts names r (first_fun ∷ done) fun in
        let client = client_is r rows.1 rows.0.creator_first rows.0.creator_last fun range.0 range.1 its part.spot w.state part.state w.fields same words part.fields never_here never_next well in
        let lets_it = lets r rows.1 rows.0.creator_first rows.0.creator_last fun range.0 range.1 its part.spot w.state part.state w.fields same words part.fields never_here never_next well in
        let fit = left_fit r rows.1 rows.0.creator_first rows.0.creator_last fun range.0 range.1 its part.spot w.state part.state w.fields same words part.fields never_here never_next well in
        let e : Env = record { client = replay_caller (fun_at d.facts.funs fun).effects r; args = replay_args (fun_at d.facts.funs fun).effects r 0 (fun_at d.facts.funs fun).kinds; state = w.state; fields = w.fields } in
        record {
          client_first = client.0;
          client_last = client.1;
          args = args_fit d r rows.1 (fun_at d.facts.funs fun).effects (fun_at d.facts.funs fun).kinds (p.kinds (step_replayed d.facts part.spot.state fun pair));
          good = said 0 (words_in e (verdict_of e (rules_at d fun)));
          answered = ap (λ t. answer_of d call t held.given (row_at held.rows call.desc)) makes ∙ ap (λ x. answer_of d call false held.given x) found ∙ done_is d fun 0 e lets_it fit;
          fields = left_fields r rows.1 rows.0.creator_first rows.0.creator_last fun range.0 range.1 its part.spot w.state part.state w.fields same words part.fields never_here never_next well call 0 refl refl refl;
        }

  module _ (begins_all : all_from (begins_well d) 1 d.facts.funs ≡ true) (more : ℕ) (enough : 6 ≤ more) (walks_all : list_all (walks_well d) (spots_within d more) ≡ true) where
    -- in the middle of a recovery a described service answers Ok to each replayed creation and to each recover step
    pub described_answers_replays : AnswersReplays d.facts (described_table d) (IsDescribedSound d)
    described_answers_replays = record {
      creations = of_facts (λ i. AnswersCreations i (described_table d) (IsDescribedSound d)) d.facts (creates begins_all more enough walks_all);
      steps = of_facts (λ i. AnswersSteps i (described_table d) (IsDescribedSound d)) d.facts (steps_on_it begins_all more enough walks_all);
    }

    -- in the middle of a recovery the next call of the walk of a row is answered Ok, and brings it one step on
    pub described_walk_goes_on : WalkGoesOn d.facts (described_table d) (IsDescribedSound d)
    described_walk_goes_on = walk_goes_on d.facts (described_table d) (IsDescribedSound d) plain.allowed (described_answers_and_keeps d plain) described_answers_replays
