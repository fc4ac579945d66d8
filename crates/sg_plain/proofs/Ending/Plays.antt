-- The play of a script without stops ends.
use Rattle.std.proofs.Common.{◌≡◌, ℕ, zero, suc, ◌+◌, ◌-◌, ◌*◌, ◌<◌, ◌≤◌, Bool, true, false, cond, not, List, [], ◌∷◌, ◌++◌, None, Some, length, map, refl, sym, ◌∙◌, ap, subst, arith, slice_set}
use Rattle.std.specs.Prelude.{slice_get, nat_le, nat_lt, unwrap_or, ◌==◌, ◌&&◌, ◌||◌}
use Rattle.std.specs.List.{list_all, list_any}
use Rattle.std.specs.declared.option.Option.{Option}
use Rattle.std.proofs.lemmas.Bool.Decides.{nat_tests}
use Rattle.sg_facts.specs.sg_base.declared.call.Call.{Call}
use Rattle.sg_facts.specs.sg_base.declared.reply.Code.{Code}
use Rattle.sg_facts.specs.sg_base.declared.reply.Reply.{Reply}
use Rattle.sg_facts.specs.sg_base.declared.reply.Reply.TheVariants.{Refused}
use Rattle.sg_facts.specs.Facts.{Facts, fun_at, is_visible}
use Rattle.sg_facts.specs.Guard.{guard}
use Rattle.sg_facts.specs.Interface.{Declared}
use Rattle.sg_facts.specs.Legal.{Table}
use Rattle.sg_facts.specs.Object.{Object, object_of}
use Rattle.sg_facts.specs.declared.entry.Entry.{Entry}
use Rattle.sg_plain.specs.Calls.{ascending_from, call_after, most_client, part_of, resolved_by, script_calls}
use Rattle.sg_plain.specs.Inside.Turns.{IsPlainPlay, after_call, after_guard, after_turn, first_of, handed_over, in_a_circle, is_under_way, resolved, served, some_or, stage_after}
use Rattle.sg_plain.specs.OneService.{one_service, workload_of}
use Rattle.sg_plain.specs.Plain.{PlainPhase, Player, Stage, appended, at_phase, blocked, left_after_first, first_stage, gone_on, holding, left_schedule, may_turn, next_stage, next_turn, player_at, player_of, ready, replied, stage_from, through, turned, woken_phase}
use Rattle.sg_plain.specs.Ending.Left.{FitScript, FitsCalls, IsPlayStage, all_before, all_to_come, entries_to_come, turns_before, turns_left}
use Rattle.sg_plain.proofs.Ending.Players.{before_set, fit_at, fit_set, fit_woken, length_set, length_woken, to_come_set, to_come_woken, woken_at, woken_from}
use Rattle.sg_script.specs.declared.script.Script.{Script}
use Rattle.sg_script.specs.declared.script.ScriptCall.{ScriptCall}

-- ---- sums

times_less : (x y m : ℕ) → y ≤ x → y * m ≤ x * m
times_less x zero m le = omega arith
times_less zero (suc y) m le = absurd (omega (arith, le))
times_less (suc x) (suc y) m le = omega (arith, times_less x y m (omega (arith, le)))

-- fewer entries to come, whatever the turns before them, as those are bounded
fewer : (a b a' b' n : ℕ) → a' + 1 ≤ a → b' ≤ 3 * n → a' * (3 * n + 1) + b' < a * (3 * n + 1) + b
fewer zero b a' b' n less most = absurd (omega (arith, less))
fewer (suc a) b a' b' n less most = omega (arith, most, times_less a a' (3 * n + 1) (omega (arith, less)))

-- as many entries to come, and fewer turns before
sooner : (a b a' b' n : ℕ) → a' ≡ a → b' < b → a' * (3 * n + 1) + b' < a * (3 * n + 1) + b
sooner a b a' b' n same less = omega (arith, ap (λ m. m * (3 * n + 1)) same, less)

-- ---- a client's turn

-- a stage goes on to one with fewer turns left
pub record GoesOn (facts : Facts) (script : Script) (s later : Stage Entry) : Type 0 where
  pub stage : IsPlayStage facts script later
  pub less : turns_left script later < turns_left script s

lt_of : (n m : ℕ) → nat_lt n m ≡ true → n < m
lt_of n m is = grind (arith, nat_tests)

ge_of : (n m : ℕ) → nat_lt n m ≡ false → m ≤ n
ge_of n m is = grind (arith, nat_tests)

-- a client at its next call fits
next_fits : (facts : Facts) (script : Script) (client done : ℕ) → FitsCalls facts (script_calls script client) done (player_at (workload_of script) client done).phase
next_fits facts script client done = by (nat_lt done (length (script_calls script client))) refl
  where
    by : (b : Bool) → nat_lt done (length (script_calls script client)) ≡ b → FitsCalls facts (script_calls script client) done (cond b ready through)
    by true is = lt_of done (length (script_calls script client)) is
    by false is = ge_of done (length (script_calls script client)) is

next_to_come : (script : Script) (client done left : ℕ) → entries_to_come left (player_at (workload_of script) client done).phase ≡ left
next_to_come script client done left = by (nat_lt done (length (script_calls script client)))
  where
    by : (b : Bool) → entries_to_come left (cond b ready through) ≡ left
    by true = refl
    by false = refl

next_before : (script : Script) (client done : ℕ) → turns_before (player_at (workload_of script) client done).phase ≤ 2
next_before script client done = by (nat_lt done (length (script_calls script client)))
  where
    by : (b : Bool) → turns_before (cond b ready through) ≤ 2
    by true = omega arith
    by false = omega arith

-- who has a call left has a next one
pub has_next : (calls : List ScriptCall) (k : ℕ) → k < length calls → (c : ScriptCall) × (slice_get calls k ≡ Some c)
has_next [] k below = absurd (omega (arith, below))
has_next (c ∷ calls) zero below = (c, refl)
has_next (c ∷ calls) (suc k) below = has_next calls k (omega (arith, below))

module _ (i : Declared) (ask : Table) (script : Script) (blocks : (o : Object) (call : Call) → ask o call ≡ None → (fun_at i.facts.funs call.fun).block ≡ true) where
  module _ (s : Stage Entry) (is : IsPlayStage i.facts script s) (client : ℕ) (first : 1 ≤ client) (p : Player) (there : slice_get s.players (client - 1) ≡ Some p) where
    abbrev calls : List ScriptCall
    calls = script_calls script client

    number : 1 + (client - 1) ≡ client
    number = omega (arith, first)

    its : player_of s client ≡ p
    its = ap (λ o. unwrap_or o (record { done = 0; phase = through })) there

    fits : FitsCalls i.facts calls p.done p.phase
    fits = subst (λ n. FitsCalls i.facts (script_calls script n) p.done p.phase) number (fit_at i.facts script 1 s.players (client - 1) p there is.fit)

    -- the client is at something else, without an entry
    set_only : (q : Player) → FitsCalls i.facts calls q.done q.phase → entries_to_come (length calls - q.done) q.phase ≡ entries_to_come (length calls - p.done) p.phase
        → turns_before q.phase < turns_before p.phase → GoesOn i.facts script s (record s { players = slice_set s.players (client - 1) q })
    set_only q fit same less =
        let length_is = length_set s.players (client - 1) q in
        let to_come = to_come_set script 1 s.players (client - 1) p q there in
        let was = ap (λ n. entries_to_come (length (script_calls script n) - p.done) p.phase) number in
        let new = ap (λ n. entries_to_come (length (script_calls script n) - q.done) q.phase) number in
        let as_many : all_to_come script 1 (slice_set s.players (client - 1) q) ≡ all_to_come script 1 s.players = omega (arith, to_come, was, new, same) in
        let fewer_turns : all_before (slice_set s.players (client - 1) q) < all_before s.players = omega (arith, before_set s.players (client - 1) p q there, less) in
        record {
          stage = record {
            fit = fit_set i.facts script 1 s.players (client - 1) q is.fit (subst (λ n. FitsCalls i.facts (script_calls script n) q.done q.phase) (sym number) fit);
            some = omega (arith, length_is, is.some);
            turns = is.turns;
          };
          less = subst (λ n. all_to_come script 1 (slice_set s.players (client - 1) q) * (3 * n + 1) + all_before (slice_set s.players (client - 1) q) < turns_left script s) (sym length_is)
              (sooner (all_to_come script 1 s.players) (all_before s.players) (all_to_come script 1 (slice_set s.players (client - 1) q)) (all_before (slice_set s.players (client - 1) q)) (length s.players) as_many fewer_turns);
        }

    -- the client makes an entry, which may wake others, and is at something else
    enter : (call : Call) (reply : Reply) (q : Player) → ((b : Bool) → woken_phase b p.phase ≡ p.phase) → FitsCalls i.facts calls q.done q.phase
        → entries_to_come (length calls - q.done) q.phase + 1 ≡ entries_to_come (length calls - p.done) p.phase
        → turns_before q.phase ≤ 3 → GoesOn i.facts script s (record (appended (one_service i ask script) s call reply) { players = slice_set (appended (one_service i ask script) s call reply).players (client - 1) q })
    enter call reply q stays fit one_less few =
        let rows = (object_of i.facts s.history).rows in
        let woken = woken_from i.facts script s.history rows call reply 1 s.players in
        let at_woken = woken_at i.facts script s.history rows call reply 1 s.players (client - 1) p there stays in
        let length_is : length (slice_set woken (client - 1) q) ≡ length s.players = length_set woken (client - 1) q ∙ length_woken i.facts script s.history rows call reply 1 s.players in
        let to_come = to_come_set script 1 woken (client - 1) p q at_woken in
        let was = ap (λ n. entries_to_come (length (script_calls script n) - p.done) p.phase) number in
        let new = ap (λ n. entries_to_come (length (script_calls script n) - q.done) q.phase) number in
        let less : all_to_come script 1 (slice_set woken (client - 1) q) + 1 ≤ all_to_come script 1 s.players
        = omega (arith, to_come, was, new, one_less, to_come_woken i.facts script s.history rows call reply 1 s.players) in
        let most : all_before (slice_set woken (client - 1) q) ≤ 3 * length s.players
        = all_few (slice_set woken (client - 1) q) (length s.players) length_is in
        record {
          stage = record {
            fit = fit_set i.facts script 1 woken (client - 1) q (fit_woken i.facts script s.history rows call reply 1 s.players is.fit)
                (subst (λ n. FitsCalls i.facts (script_calls script n) q.done q.phase) (sym number) fit);
            some = omega (arith, length_is, is.some);
            turns = is.turns;
          };
          less = subst (λ n. all_to_come script 1 (slice_set woken (client - 1) q) * (3 * n + 1) + all_before (slice_set woken (client - 1) q) < turns_left script s) (sym length_is)
              (fewer (all_to_come script 1 s.players) (all_before s.players) (all_to_come script 1 (slice_set woken (client - 1) q)) (all_before (slice_set woken (client - 1) q)) (length s.players) less most);
        }
      where
        few_before : (f : PlainPhase) → turns_before f ≤ 3
        few_before ready = omega arith
        few_before replied = omega arith
        few_before (holding reply) = omega arith
        few_before blocked = omega arith
        few_before through = omega arith

        all_at_most : (players : List Player) → all_before players ≤ 3 * length players
        all_at_most [] = omega arith
        all_at_most (x ∷ players) = omega (arith, few_before x.phase, all_at_most players)

        all_few : (players : List Player) (n : ℕ) → length players ≡ n → all_before players ≤ 3 * n
        all_few players n same = omega (arith, all_at_most players, same)

    -- and goes on to its next call
    set_next : entries_to_come (length calls - (p.done + 1)) (player_at (workload_of script) client (p.done + 1)).phase ≡ length calls - (p.done + 1)
    set_next = next_to_come script client (p.done + 1) (length calls - (p.done + 1))

    gone : (later : Stage Entry) → slice_get later.players (client - 1) ≡ Some p → gone_on (workload_of script) client later ≡ record later { players = slice_set later.players (client - 1) (player_at (workload_of script) client (p.done + 1)) }
    gone later at = ap (λ (o : Option Player). record later { players = slice_set later.players (client - 1) (player_at (workload_of script) client ((unwrap_or o (record { done = 0; phase = through })).done + 1)) }) at

    put : (later : Stage Entry) (f : PlainPhase) → slice_get later.players (client - 1) ≡ Some p → at_phase client f later ≡ record later { players = slice_set later.players (client - 1) (record p { phase = f }) }
    put later f at = ap (λ (o : Option Player). record later { players = slice_set later.players (client - 1) (record (unwrap_or o (record { done = 0; phase = through })) { phase = f }) }) at

    enter_next : (call : Call) (reply : Reply) → ((b : Bool) → woken_phase b p.phase ≡ p.phase) → p.done < length calls → entries_to_come (length calls - p.done) p.phase ≡ length calls - p.done
        → GoesOn i.facts script s (gone_on (workload_of script) client (appended (one_service i ask script) s call reply))
    enter_next call reply stays below all =
        let at = woken_at i.facts script s.history (object_of i.facts s.history).rows call reply 1 s.players (client - 1) p there stays in
        subst (GoesOn i.facts script s) (sym (gone (appended (one_service i ask script) s call reply) at))
        (enter call reply (player_at (workload_of script) client (p.done + 1)) stays (next_fits i.facts script client (p.done + 1)) (omega (arith, set_next, below, all)) (omega (arith, next_before script client (p.done + 1))))

    -- a client that is ready, in a call
    module _ (is_ready : p.phase ≡ ready) (c : ScriptCall) (c_there : slice_get calls p.done ≡ Some c) where
      abbrev call : Call
      call = resolved_by i.facts s.history client (p.done + 1) c

      below : p.done < length calls
      below = subst (FitsCalls i.facts calls p.done) is_ready fits

      all_left : entries_to_come (length calls - p.done) p.phase ≡ length calls - p.done
      all_left = ap (entries_to_come (length calls - p.done)) is_ready

      stays : (b : Bool) → woken_phase b p.phase ≡ p.phase
      stays b = subst (λ f. woken_phase b f ≡ f) (sym is_ready) (same b)
        where
          same : (b : Bool) → woken_phase b ready ≡ ready
          same true = refl
          same false = refl

      two : turns_before p.phase ≡ 2
      two = ap turns_before is_ready

      shown : (visible : Bool) (reply : Reply) → GoesOn i.facts script s (cond visible (at_phase client replied (appended (one_service i ask script) s call reply)) (at_phase client (holding reply) s))
      shown true reply =
          let at = woken_at i.facts script s.history (object_of i.facts s.history).rows call reply 1 s.players (client - 1) p there stays in
          subst (GoesOn i.facts script s) (sym (put (appended (one_service i ask script) s call reply) replied at))
          (enter call reply (record p { phase = replied }) stays below (omega (arith, below, all_left)) (omega arith))
      shown false reply =
          subst (GoesOn i.facts script s) (sym (put s (holding reply) there)) (set_only (record p { phase = holding reply }) below (sym all_left) (omega (arith, two)))

      answered : (reply : Option Reply) → ask (object_of i.facts s.history) call ≡ reply → GoesOn i.facts script s (served (one_service i ask script) client s call reply)
      answered None none =
          subst (GoesOn i.facts script s) (sym (put s blocked there))
          (set_only (record p { phase = blocked }) (record { call = c; there = c_there; may_wait = blocks (object_of i.facts s.history) call none }) (sym all_left) (omega (arith, two)))
      answered (Some reply) some = shown (is_visible i.facts call.fun) reply

      guarded : (code : Option Code) → GoesOn i.facts script s (after_guard (one_service i ask script) (workload_of script) client s call code)
      guarded (Some code) = enter_next call (Refused code) stays below all_left
      guarded None = answered (ask (object_of i.facts s.history) call) refl

    next_call : (c : ScriptCall) → slice_get calls p.done ≡ Some c → call_after i.facts script s.history client p.done ≡ Some (resolved_by i.facts s.history client (p.done + 1) c)
    next_call c at = ap (λ o. resolved i.facts s.history client (p.done + 1) o) at

    -- a turn of a client that can take one
    turn_by : (f : PlainPhase) → p.phase ≡ f → is_under_way f ≡ true → GoesOn i.facts script s (turned (one_service i ask script) (workload_of script) client s f)
    turn_by ready same may =
        let below : p.done < length calls = subst (FitsCalls i.facts calls p.done) same fits in
        let next = has_next calls p.done below in
        subst (λ d. GoesOn i.facts script s (after_call (one_service i ask script) (workload_of script) client s (call_after i.facts script s.history client d.done))) (sym its)
        (subst (λ o. GoesOn i.facts script s (after_call (one_service i ask script) (workload_of script) client s o)) (sym (next_call next.0 next.1))
        (guarded same next.0 next.1 (guard i (object_of i.facts s.history) (resolved_by i.facts s.history client (p.done + 1) next.0))))
    turn_by replied same may =
        let below : p.done < length calls = subst (FitsCalls i.facts calls p.done) same fits in
        subst (GoesOn i.facts script s) (sym (gone s there))
        (set_only (player_at (workload_of script) client (p.done + 1)) (next_fits i.facts script client (p.done + 1)) (set_next ∙ one_less (length calls) p.done ∙ ap (entries_to_come (length calls - p.done)) (sym same))
        (omega (arith, ap turns_before same, next_before script client (p.done + 1))))
      where
        one_less : (n k : ℕ) → n - (k + 1) ≡ n - k - 1
        one_less n k = omega arith
    turn_by (holding reply) same may =
        let below : p.done < length calls = subst (FitsCalls i.facts calls p.done) same fits in
        let next = has_next calls p.done below in
        subst (λ d. GoesOn i.facts script s (handed_over (one_service i ask script) (workload_of script) client s reply (call_after i.facts script s.history client d.done))) (sym its)
        (subst (λ o. GoesOn i.facts script s (handed_over (one_service i ask script) (workload_of script) client s reply o)) (sym (next_call next.0 next.1))
        (enter_next (resolved_by i.facts s.history client (p.done + 1) next.0) reply (λ b. subst (λ f. woken_phase b f ≡ f) (sym same) (held b)) below (ap (entries_to_come (length calls - p.done)) same)))
      where
        held : (b : Bool) → woken_phase b (holding reply) ≡ holding reply
        held true = refl
        held false = refl
    turn_by blocked same may = absurd (cc may)
    turn_by through same may = absurd (cc may)

  -- ---- whose turn it is

  -- who may take a turn is there
  there_is : (players : List Player) (k : ℕ) → is_under_way (unwrap_or (slice_get players k) (record { done = 0; phase = through })).phase ≡ true → (p : Player) × (slice_get players k ≡ Some p) × (is_under_way p.phase ≡ true)
  there_is [] k may = absurd (cc may)
  there_is (p ∷ players) zero may = (p, refl, may)
  there_is (p ∷ players) (suc k) may = there_is players k may

  -- a stage at which a client is to take a turn
  turn_of : (s : Stage Entry) → IsPlayStage i.facts script s → (client : ℕ) → 1 ≤ client → may_turn s client ≡ true → GoesOn i.facts script s (turned (one_service i ask script) (workload_of script) client s (player_of s client).phase)
  turn_of s is client first may =
      let found = there_is s.players (client - 1) may in
      let same : (player_of s client).phase ≡ found.0.phase = ap (λ (o : Option Player). (unwrap_or o (record { done = 0; phase = through })).phase) found.1 in
      subst (λ f. GoesOn i.facts script s (turned (one_service i ask script) (workload_of script) client s f)) (sym same) (turn_by s is client first found.0 found.1 found.0.phase refl found.2)

  -- the first of some that may
  pub record IsFirstOf (s : Stage Entry) (client : ℕ) : Type 0 where
    pub from : 1 ≤ client
    pub may : may_turn s client ≡ true

  le_of : (c : ℕ) → nat_le 1 c ≡ true → 1 ≤ c
  le_of c is = grind (arith, nat_tests)

  first_is : (s : Stage Entry) (clients : List ℕ) (client : ℕ) → list_all (λ c. nat_le 1 c) clients ≡ true → first_of s clients ≡ Some client → IsFirstOf s client
  first_is s [] client all is = absurd (cc is)
  first_is s (c ∷ clients) client all is = by (may_turn s c) refl (nat_le 1 c) refl is all (λ rest found. first_is s clients client rest found)
    where
      by : (b : Bool) → may_turn s c ≡ b → (from : Bool) → nat_le 1 c ≡ from → cond b (Some c) (first_of s clients) ≡ Some client → from && list_all (λ c. nat_le 1 c) clients ≡ true
          → (list_all (λ c. nat_le 1 c) clients ≡ true → first_of s clients ≡ Some client → IsFirstOf s client) → IsFirstOf s client
      by true may true from is all more = let same : c ≡ client = cc is in record { from = subst (λ n. 1 ≤ n) same (le_of c from); may = ap (may_turn s) (sym same) ∙ may }
      by true may false from is all more = absurd (cc all)
      by false may true from is all more = more all is
      by false may false from is all more = absurd (cc all)

  rest_of : (s : Stage Entry) (clients : List ℕ) → list_all (λ c. nat_le 1 c) clients ≡ true → list_all (λ c. nat_le 1 c) (left_after_first s clients) ≡ true
  rest_of s [] all = refl
  rest_of s (c ∷ clients) all = by (may_turn s c) (nat_le 1 c) all (λ rest. rest_of s clients rest)
    where
      by : (b from : Bool) → from && list_all (λ c. nat_le 1 c) clients ≡ true → (list_all (λ c. nat_le 1 c) clients ≡ true → list_all (λ c. nat_le 1 c) (left_after_first s clients) ≡ true)
          → list_all (λ c. nat_le 1 c) (cond b clients (left_after_first s clients)) ≡ true
      by true true all more = all
      by true false all more = absurd (cc all)
      by false true all more = more all
      by false false all more = absurd (cc all)

  ascend : (n count : ℕ) → 1 ≤ n → list_all (λ c. nat_le 1 c) (ascending_from n count) ≡ true
  ascend n zero from = refl
  ascend n (suc count) from = ap (λ b. b && list_all (λ c. nat_le 1 c) (ascending_from (n + 1) count)) (le n from) ∙ ascend (n + 1) count (omega (arith, from))
    where
      le : (n : ℕ) → 1 ≤ n → nat_le 1 n ≡ true
      le n from = grind (arith, nat_tests)

  all_of_two : (xs ys : List ℕ) → list_all (λ c. nat_le 1 c) xs ≡ true → list_all (λ c. nat_le 1 c) ys ≡ true → list_all (λ c. nat_le 1 c) (xs ++ ys) ≡ true
  all_of_two [] ys one two = two
  all_of_two (x ∷ xs) ys one two = by (nat_le 1 x) one (λ rest. all_of_two xs ys rest two)
    where
      by : (b : Bool) → b && list_all (λ c. nat_le 1 c) xs ≡ true → (list_all (λ c. nat_le 1 c) xs ≡ true → list_all (λ c. nat_le 1 c) (xs ++ ys) ≡ true) → b && list_all (λ c. nat_le 1 c) (xs ++ ys) ≡ true
      by true all more = more all
      by false all more = absurd (cc all)

  none_first : (s : Stage Entry) (clients : List ℕ) → first_of s clients ≡ None → (client : ℕ) → list_any (λ c. c == client) clients ≡ true → may_turn s client ≡ false
  none_first s [] none client among = absurd (cc among)
  none_first s (c ∷ clients) none client among = by (may_turn s c) refl none (c == client) refl among (λ rest more. none_first s clients rest client more)
    where
      same_client : (c == client) ≡ true → c ≡ client
      same_client is = grind (arith, nat_tests)

      by : (b : Bool) → may_turn s c ≡ b → cond b (Some c) (first_of s clients) ≡ None → (same : Bool) → (c == client) ≡ same → same || list_any (λ c. c == client) clients ≡ true
          → (first_of s clients ≡ None → list_any (λ c. c == client) clients ≡ true → may_turn s client ≡ false) → may_turn s client ≡ false
      by true may none same is among more = absurd (cc none)
      by false may none true is among more = ap (may_turn s) (sym (same_client is)) ∙ may
      by false may none false is among more = more none among

  one_among : (n count : ℕ) → n ≡ 1 → 1 ≤ count → list_any (λ c. c == 1) (ascending_from n count) ≡ true
  one_among n zero is some = absurd (omega (arith, some))
  one_among n (suc count) is some = ap (λ m. (m == 1) || list_any (λ c. c == 1) (ascending_from (n + 1) count)) is

  among_two : (xs ys : List ℕ) → list_any (λ c. c == 1) ys ≡ true → list_any (λ c. c == 1) (xs ++ ys) ≡ true
  among_two [] ys among = among
  among_two (x ∷ xs) ys among = ap (λ b. (x == 1) || b) (among_two xs ys among) ∙ or_true (x == 1)
    where
      or_true : (b : Bool) → (b || true) ≡ true
      or_true true = refl
      or_true false = refl

  among_one : (xs ys : List ℕ) → list_any (λ c. c == 1) xs ≡ true → list_any (λ c. c == 1) (xs ++ ys) ≡ true
  among_one [] ys among = absurd (cc among)
  among_one (x ∷ xs) ys among = by (x == 1) among (λ rest. among_one xs ys rest)
    where
      by : (b : Bool) → b || list_any (λ c. c == 1) xs ≡ true → (list_any (λ c. c == 1) xs ≡ true → list_any (λ c. c == 1) (xs ++ ys) ≡ true) → b || list_any (λ c. c == 1) (xs ++ ys) ≡ true
      by true among more = refl
      by false among more = more among

  circle_has : (s : Stage Entry) → 1 ≤ length s.players → list_any (λ c. c == 1) (in_a_circle s) ≡ true
  circle_has s some = by s.last refl
    where
      by : (last : ℕ) → s.last ≡ last → list_any (λ c. c == 1) (in_a_circle s) ≡ true
      by zero is = among_one (ascending_from (s.last + 1) (length s.players - s.last)) (ascending_from 1 s.last) (one_among (s.last + 1) (length s.players - s.last) (omega (arith, is)) (omega (arith, is, some)))
      by (suc last) is = among_two (ascending_from (s.last + 1) (length s.players - s.last)) (ascending_from 1 s.last) (one_among 1 s.last refl (omega (arith, is)))

  -- where nobody has the next turn, client 1 can't take one
  pub nobody : (s : Stage Entry) → next_turn (workload_of script) s ≡ None → 1 ≤ length s.players → may_turn s 1 ≡ false
  nobody s over some = none_first s (in_a_circle s) (by (nat_lt (player_of s 1).done (length script.setup)) (first_of s s.schedule) over) 1 (circle_has s some)
    where
      by : (b : Bool) (one : Option ℕ) → cond b (Some 1) (some_or one (first_of s (in_a_circle s))) ≡ None → first_of s (in_a_circle s) ≡ None
      by true one none = absurd (cc none)
      by false None none = none
      by false (Some c) none = absurd (cc none)

  -- client 1 is at a call of the setup, which doesn't wait
  module _ (setup : list_all (λ (c : ScriptCall). not (fun_at i.facts.funs c.fun).block) script.setup ≡ true) where
    setup_at : (front back : List ScriptCall) (k : ℕ) (c : ScriptCall) → k < length front → slice_get (front ++ back) k ≡ Some c → list_all (λ (c : ScriptCall). not (fun_at i.facts.funs c.fun).block) front ≡ true
        → not (fun_at i.facts.funs c.fun).block ≡ true
    setup_at [] back k c below at all = absurd (omega (arith, below))
    setup_at (d ∷ front) back zero c below at all =
        let same : d ≡ c = cc at in
        subst (λ (x : ScriptCall). not (fun_at i.facts.funs x.fun).block ≡ true) same (left (not (fun_at i.facts.funs d.fun).block) all)
      where
        left : (b : Bool) → b && list_all (λ (c : ScriptCall). not (fun_at i.facts.funs c.fun).block) front ≡ true → b ≡ true
        left true all = refl
        left false all = absurd (cc all)
    setup_at (d ∷ front) back (suc k) c below at all = setup_at front back k c (omega (arith, below)) at (right (not (fun_at i.facts.funs d.fun).block) all)
      where
        right : (b : Bool) → b && list_all (λ (c : ScriptCall). not (fun_at i.facts.funs c.fun).block) front ≡ true → list_all (λ (c : ScriptCall). not (fun_at i.facts.funs c.fun).block) front ≡ true
        right true all = all
        right false all = absurd (cc all)

    -- so it may take its turn
    setting_up : (s : Stage Entry) → IsPlayStage i.facts script s → nat_lt (player_of s 1).done (length script.setup) ≡ true → may_turn s 1 ≡ true
    setting_up s is less =
        let found = first_there s.players is.some in
        let same : player_of s 1 ≡ found.0 = ap (λ (o : Option Player). unwrap_or o (record { done = 0; phase = through })) found.1 in
        let below : found.0.done < length script.setup = lt_of found.0.done (length script.setup) (subst (λ (p : Player). nat_lt p.done (length script.setup) ≡ true) same less) in
        ap (λ (p : Player). is_under_way p.phase) same ∙ by found.0 below found.0.phase (fit_at i.facts script 1 s.players 0 found.0 found.1 is.fit)
      where
        first_there : (players : List Player) → 1 ≤ length players → (p : Player) × (slice_get players 0 ≡ Some p)
        first_there [] some = absurd (omega (arith, some))
        first_there (p ∷ players) some = (p, refl)

        more : (front back : List ScriptCall) → length front ≤ length (front ++ back)
        more [] back = omega arith
        more (c ∷ front) back = omega (arith, more front back)

        by : (p : Player) → p.done < length script.setup → (f : PlainPhase) → FitsCalls i.facts (script_calls script 1) p.done f → is_under_way f ≡ true
        by p below ready fits = refl
        by p below replied fits = refl
        by p below (holding reply) fits = refl
        by p below blocked fits = absurd (cc (sym (setup_at script.setup (part_of 1 script.clients) p.done fits.call below fits.there setup) ∙ ap not fits.may_wait))
        by p below through fits = absurd (omega (arith, below, fits, more script.setup (part_of 1 script.clients)))

    -- ---- a play goes on until nobody can

    pub next_is : (s : Stage Entry) → IsPlayStage i.facts script s → (client : ℕ) → next_turn (workload_of script) s ≡ Some client → IsFirstOf s client
    next_is s is client next = by (nat_lt (player_of s 1).done (length script.setup)) refl next
      where
        circle : list_all (λ c. nat_le 1 c) (in_a_circle s) ≡ true
        circle = all_of_two (ascending_from (s.last + 1) (length s.players - s.last)) (ascending_from 1 s.last) (ascend (s.last + 1) (length s.players - s.last) (omega arith)) (ascend 1 s.last (omega arith))

        found : (one : Option ℕ) → first_of s s.schedule ≡ one → some_or one (first_of s (in_a_circle s)) ≡ Some client → IsFirstOf s client
        found (Some c) first is_some = first_is s s.schedule client is.turns (first ∙ is_some)
        found None first is_some = first_is s (in_a_circle s) client circle is_some

        by : (b : Bool) → nat_lt (player_of s 1).done (length script.setup) ≡ b → cond b (Some 1) (some_or (first_of s s.schedule) (first_of s (in_a_circle s))) ≡ Some client → IsFirstOf s client
        by true less is_some = let same : 1 ≡ client = cc is_some in record { from = omega (arith, same); may = ap (may_turn s) (sym same) ∙ setting_up s is less }
        by false more is_some = found (first_of s s.schedule) refl is_some

    rest_is : (s : Stage Entry) → IsPlayStage i.facts script s → list_all (λ c. nat_le 1 c) (left_schedule (workload_of script) s) ≡ true
    rest_is s is = by (nat_lt (player_of s 1).done (length script.setup))
      where
        by : (b : Bool) → list_all (λ c. nat_le 1 c) (cond b s.schedule (left_after_first s s.schedule)) ≡ true
        by true = is.turns
        by false = rest_of s s.schedule is.turns

    pub goes_on : (s : Stage Entry) → IsPlayStage i.facts script s → (client : ℕ) → next_turn (workload_of script) s ≡ Some client → GoesOn i.facts script s (next_stage (one_service i ask script) (workload_of script) s)
    goes_on s is client next =
        let first = next_is s is client next in
        let turn = turn_of (record s { schedule = left_schedule (workload_of script) s; last = client }) (record { fit = is.fit; some = is.some; turns = rest_is s is }) client first.from first.may in
        subst (λ o. GoesOn i.facts script s (after_turn (one_service i ask script) (workload_of script) s o)) (sym next) (record { stage = turn.stage; less = turn.less })

    -- some number of turns leads to the end
    record Ends (s : Stage Entry) : Type 0 where
      turns : ℕ
      over : next_turn (workload_of script) (stage_from (one_service i ask script) (workload_of script) s turns) ≡ None

    choose : (s : Stage Entry) → ((client : ℕ) → next_turn (workload_of script) s ≡ Some client → Ends s) → Ends s
    choose s more = by (next_turn (workload_of script) s) refl
      where
        by : (o : Option ℕ) → next_turn (workload_of script) s ≡ o → Ends s
        by None over = record { turns = 0; over = over }
        by (Some client) next = more client next

    ends_within : (fuel : ℕ) (s : Stage Entry) → IsPlayStage i.facts script s → turns_left script s ≤ fuel → Ends s
    ends_within zero s is few = choose s (λ client next. absurd (omega (arith, (goes_on s is client next).less, few)))
    ends_within (suc fuel) s is few = choose s (λ client next.
        let on = goes_on s is client next in
        let e = ends_within fuel (next_stage (one_service i ask script) (workload_of script) s) on.stage (omega (arith, on.less, few)) in
        record { turns = suc e.turns; over = e.over })

    -- the first stage
    first_players : (n count : ℕ) → FitScript i.facts script n (map (λ client. player_at (workload_of script) client 0) (ascending_from n count))
    first_players n zero = tt
    first_players n (suc count) = (next_fits i.facts script n 0, first_players (n + 1) count)

    first_length : (n count : ℕ) → length (map (λ client. player_at (workload_of script) client 0) (ascending_from n count)) ≡ count
    first_length n zero = refl
    first_length n (suc count) = ap suc (first_length (n + 1) count)

    pub first_is_stage : 1 ≤ most_client script.clients → list_all (λ c. nat_le 1 c) script.schedule ≡ true → IsPlayStage i.facts script (first_stage (workload_of script))
    first_is_stage some turns = record { fit = first_players 1 (most_client script.clients); some = omega (arith, some, first_length 1 (most_client script.clients)); turns = turns }

    -- the play without stops ends
    pub plain_ends : 1 ≤ most_client script.clients → list_all (λ c. nat_le 1 c) script.schedule ≡ true → (history : List Entry) × IsPlainPlay i ask script history
    plain_ends some turns =
        let e = ends_within (turns_left script (first_stage (workload_of script))) (first_stage (workload_of script)) (first_is_stage some turns) (omega arith) in
        ((stage_after i ask script e.turns).history, record { turns = e.turns; over = e.over; is = refl })
