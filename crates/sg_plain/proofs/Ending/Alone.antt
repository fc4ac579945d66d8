-- Where client 1 alone has calls, the play without stops is the only history that is legal and complete.
use Rattle.std.proofs.Common.{◌≡◌, ◌≢◌, ℕ, zero, suc, ◌+◌, ◌-◌, ◌<◌, ◌≤◌, Bool, true, false, cond, not, List, [], ◌∷◌, ◌++◌, None, Some, filter, length, map, refl, sym, ◌∙◌, ap, subst, arith, append_assoc, append-nil}
use Rattle.std.specs.Prelude.{slice_get, nat_le, nat_lt, unwrap_or, ◌==◌, ◌&&◌, ◌||◌}
use Rattle.std.specs.List.{list_all, list_any}
use Rattle.std.specs.declared.option.Option.{Option}
use Rattle.std.proofs.lemmas.Bool.Decides.{nat_tests}
use Rattle.sg_facts.specs.sg_base.declared.call.Call.{Call}
use Rattle.sg_facts.specs.sg_base.declared.reply.Code.{Code}
use Rattle.sg_facts.specs.sg_base.declared.reply.Reply.{Reply}
use Rattle.sg_facts.specs.sg_base.declared.reply.Reply.TheVariants.{Refused}
use Rattle.sg_facts.specs.sg_base.Lists.{Each}
use Rattle.sg_facts.specs.Facts.{Facts, fun_at, is_visible}
use Rattle.sg_facts.specs.Guard.{guard}
use Rattle.sg_facts.specs.Interface.{Declared}
use Rattle.sg_facts.specs.Legal.{IsLegal, Table, answer}
use Rattle.sg_facts.specs.Inside.Rows.{refused_or}
use Rattle.sg_facts.specs.Object.{Object, object_of}
use Rattle.sg_facts.specs.declared.entry.Entry.{Entry}
use Rattle.sg_facts.specs.declared.row.Row.{Row}
use Rattle.sg_clients.specs.sg_hist.Clients.{calls_of}
use Rattle.sg_clients.specs.sg_hist.declared.ended.End.{End}
use Rattle.sg_clients.specs.sg_hist.declared.ended.End.TheVariants.{Done, Blocked}
use Rattle.sg_plain.specs.Calls.{AreEnds, IsEnd, ascending_from, call_after, callers, most_client, resolved_by, script_calls}
use Rattle.sg_plain.specs.Inside.Turns.{IsPlainPlay, after_call, after_guard, after_turn, handed_over, is_under_way, is_woken_by, resolved, served, stage_after, waits_on}
use Rattle.sg_plain.specs.Inside.Kept.{EachEnd, GetsPlainAlone}
use Rattle.sg_plain.specs.OneService.{one_service, workload_of}
use Rattle.sg_plain.specs.Plain.{PlainPhase, Player, Stage, after_wakes, appended, at_phase, blocked, first_stage, holding, left_schedule, may_turn, next_stage, next_turn, player_at, player_of, ready, replied, stage_from, through, turned, woken_phase}
use Rattle.sg_clients.specs.sg_hist.Wakes.{wakes}
use Rattle.sg_plain.specs.Promises.{AreFirstCalls, AreScriptsCalls}
use Rattle.sg_plain.specs.Script.{call_fits, calls_fit}
use Rattle.sg_plain.proofs.Ending.Plays.{first_is_stage, goes_on, has_next, next_is, nobody}
use Rattle.sg_plain.specs.Ending.Left.{FitScript, FitsCalls, IsPlayStage}
use Rattle.sg_plain.proofs.Playing.Resolving.{fits_at, resolved_more}
use Rattle.sg_facts.proofs.Replaying.Found.{other_test}
use Rattle.sg_script.specs.declared.script.Script.{Script}
use Rattle.sg_script.specs.declared.script.ScriptCall.{ScriptCall}

-- ---- a history of one client

all_its : (history : List Entry) → list_all (λ e. e.call.client == 1) history ≡ true → calls_of history 1 ≡ history
all_its [] all = refl
all_its (e ∷ history) all = by (e.call.client == 1) refl all (λ rest. all_its history rest)
  where
    by : (b : Bool) → (e.call.client == 1) ≡ b → b && list_all (λ e. e.call.client == 1) history ≡ true → (list_all (λ e. e.call.client == 1) history ≡ true → calls_of history 1 ≡ history)
        → cond b (e ∷ calls_of history 1) (calls_of history 1) ≡ e ∷ history
    by true is all more = ap (λ l. e ∷ l) (more all)
    by false is all more = absurd (cc all)

front_all : (test : Entry → Bool) (front rest : List Entry) → list_all test (front ++ rest) ≡ true → list_all test front ≡ true
front_all test [] rest all = refl
front_all test (e ∷ front) rest all = by (test e) all (λ more. front_all test front rest more)
  where
    by : (b : Bool) → b && list_all test (front ++ rest) ≡ true → (list_all test (front ++ rest) ≡ true → list_all test front ≡ true) → b && list_all test front ≡ true
    by true all more = more all
    by false all more = absurd (cc all)

-- a call comes to the same by a front of the history, where it names earlier calls
by_front : (i : Declared) (seq : ℕ) (c : ScriptCall) → call_fits i seq c ≡ true → (front rest : List Entry) → list_all (λ e. e.call.client == 1) (front ++ rest) ≡ true → seq ≤ length front + 1
    → resolved_by i.facts (front ++ rest) 1 seq c ≡ resolved_by i.facts front 1 seq c
by_front i seq c fits front [] all few = ap (λ h. resolved_by i.facts h 1 seq c) (append-nil front)
by_front i seq c fits front (x ∷ rest) all few =
    let shifted : (front ++ x ∷ []) ++ rest ≡ front ++ x ∷ rest = append_assoc front (x ∷ []) rest in
    let all_now : list_all (λ e. e.call.client == 1) ((front ++ x ∷ []) ++ rest) ≡ true = ap (list_all (λ e. e.call.client == 1)) shifted ∙ all in
    let ones : list_all (λ e. e.call.client == 1) (front ++ x ∷ []) ≡ true = front_all (λ e. e.call.client == 1) (front ++ x ∷ []) rest all_now in
    let own : calls_of front 1 ≡ front = all_its front (front_all (λ e. e.call.client == 1) front (x ∷ rest) all) in
    let grown : calls_of (front ++ x ∷ []) 1 ≡ calls_of front 1 ++ x ∷ [] = all_its (front ++ x ∷ []) ones ∙ ap (λ l. l ++ x ∷ []) (sym own) in
    let longer : length (front ++ x ∷ []) ≡ length front + 1 = more front x in
    ap (λ h. resolved_by i.facts h 1 seq c) (sym shifted)
    ∙ by_front i seq c fits (front ++ x ∷ []) rest all_now (omega (arith, few, longer))
    ∙ resolved_more i front (front ++ x ∷ []) x 1 seq c grown (omega (arith, few, ap length own)) fits
  where
    more : (l : List Entry) (x : Entry) → length (l ++ x ∷ []) ≡ length l + 1
    more [] x = refl
    more (y ∷ l) x = omega (arith, more l x)

-- the entry after a front is the next call
entry_at : (facts : Facts) (history : List Entry) (seq : ℕ) (front : List Entry) (e : Entry) (rest : List Entry) (calls : List ScriptCall) (c : ScriptCall)
    → AreFirstCalls facts history 1 seq (front ++ e ∷ rest) calls → slice_get calls (length front) ≡ Some c → e.call ≡ resolved_by facts history 1 (seq + length front) c
entry_at facts history seq [] e rest [] c are at = absurd (cc at)
entry_at facts history seq [] e rest (d ∷ calls) c are at =
    let same : d ≡ c = cc at in
    are.0 ∙ ap (λ x. resolved_by facts history 1 seq x) same ∙ ap (λ n. resolved_by facts history 1 n c) (omega arith)
entry_at facts history seq (x ∷ front) e rest [] c are at = absurd are
entry_at facts history seq (x ∷ front) e rest (d ∷ calls) c are at =
    entry_at facts history (seq + 1) front e rest calls c are.1 at ∙ ap (λ n. resolved_by facts history 1 n c) (omega arith)

no_more : (facts : Facts) (history : List Entry) (seq : ℕ) (es : List Entry) (calls : List ScriptCall) → AreFirstCalls facts history 1 seq es calls → length es ≤ length calls
no_more facts history seq [] calls are = omega arith
no_more facts history seq (e ∷ es) [] are = absurd are
no_more facts history seq (e ∷ es) (c ∷ calls) are = omega (arith, no_more facts history (seq + 1) es calls are.1)

-- the end of a client among ends
end_for : (i : Declared) (ask : Table) (history : List Entry) (script : Script) (client : ℕ) (ends : List (ℕ × End)) → EachEnd i ask history script ends → list_any (λ c. c == client) (map (λ e. e.0) ends) ≡ true
    → (end : End) × IsEnd i ask history script client end
end_for i ask history script client [] each among = absurd (cc among)
end_for i ask history script client (e ∷ ends) each among = by (e.0 == client) refl among (λ rest. end_for i ask history script client ends each.1 rest)
  where
    by : (b : Bool) → (e.0 == client) ≡ b → list_any (λ c. c == client) (e.0 ∷ map (λ e. e.0) ends) ≡ true
        → (list_any (λ c. c == client) (map (λ e. e.0) ends) ≡ true → (end : End) × IsEnd i ask history script client end) → (end : End) × IsEnd i ask history script client end
    by true is among more = let same : e.0 ≡ client = grind (arith, nat_tests) in (e.1, subst (λ n. IsEnd i ask history script n e.1) same each.0)
    by false is among more = more (sym (ap (λ b. b || list_any (λ c. c == client) (map (λ e. e.0) ends)) is) ∙ among)

-- ---- the stages

-- nobody of these can take a turn
abbrev AreThrough : List Player → Type 0
AreThrough [] = Unit {0}
AreThrough (p ∷ players) = (p.phase ≡ through) × AreThrough players

through_at : (players : List Player) (k : ℕ) → AreThrough players → is_under_way (unwrap_or (slice_get players k) (record { done = 0; phase = through })).phase ≡ false
through_at [] k all = refl
through_at (p ∷ players) zero all = ap is_under_way all.0
through_at (p ∷ players) (suc k) all = through_at players k all.1

through_woken : (facts : Facts) (script : Script) (history : List Entry) (rows : List Row) (call : Call) (reply : Reply) (n : ℕ) (players : List Player) → AreThrough players
    → AreThrough (after_wakes (is_woken_by facts script history rows call reply) n players)
through_woken facts script history rows call reply n [] all = tt
through_woken facts script history rows call reply n (p ∷ players) all =
    (by p.phase all.0 (wakes facts rows call reply (waits_on (call_after facts script history n p.done))), through_woken facts script history rows call reply (n + 1) players all.1)
  where
    by : (f : PlainPhase) → f ≡ through → (b : Bool) → woken_phase b f ≡ through
    by through is true = refl
    by through is false = refl
    by ready is b = absurd (cc is)
    by replied is b = absurd (cc is)
    by (holding reply) is b = absurd (cc is)
    by blocked is b = absurd (cc is)

-- where client 1 stands with its calls, by what is still to come of the history
abbrev StandsAt : ℕ → ℕ → List Entry → PlainPhase → Type 0
StandsAt done entries rest ready = done ≡ entries
StandsAt done entries rest replied = done + 1 ≡ entries
StandsAt done entries rest (holding reply) = (done ≡ entries) × (e : Entry) × (more : List Entry) × (rest ≡ e ∷ more) × (e.reply ≡ reply)
StandsAt done entries rest blocked = (done ≡ entries) × (rest ≡ [])
StandsAt done entries rest through = done ≡ entries

-- a stage is a front of the history
record IsFront (history : List Entry) (s : Stage Entry) : Type 0 where
  rest : List Entry
  is : history ≡ s.history ++ rest
  p : Player
  others : List Player
  players : s.players ≡ p ∷ others
  stands : StandsAt p.done (length s.history) rest p.phase
  through : AreThrough others

longer : (l : List Entry) (x : Entry) → length (l ++ x ∷ []) ≡ length l + 1
longer [] x = refl
longer (y ∷ l) x = omega (arith, longer l x)

-- client 1 at its next call
stands_next : (script : Script) (done entries : ℕ) (rest : List Entry) → done ≡ entries → StandsAt done entries rest (player_at (workload_of script) 1 done).phase
stands_next script done entries rest same = by (nat_lt done (length (script_calls script 1)))
  where
    by : (b : Bool) → StandsAt done entries rest (cond b ready through)
    by true = same
    by false = same

-- what guard and table say where the answer is so
answer_by_guard : (i : Declared) (ask : Table) (o : Object) (call : Call) (code : Code) (reply : Reply) → guard i o call ≡ Some code → answer i ask o call ≡ Some reply → Refused code ≡ reply
answer_by_guard i ask o call code reply guarded is = let same : Some (Refused code) ≡ Some reply = sym (ap (λ g. refused_or g (ask o call)) guarded) ∙ is in cc same

module _ (i : Declared) (ask : Table) (script : Script) (history : List Entry) (ends : List (ℕ × End)) (legal : IsLegal i ask history)
    (made : AreFirstCalls i.facts history 1 1 history (script_calls script 1)) (ones : list_all (λ e. e.call.client == 1) history ≡ true) (fit : calls_fit i 1 (script_calls script 1) ≡ true)
    (are : AreEnds i ask history script ends) (among : script_calls script 1 ≢ [] → list_any (λ c. c == 1) (callers script) ≡ true) where
  abbrev calls : List ScriptCall
  calls = script_calls script 1

  below_length : (calls : List ScriptCall) (k : ℕ) (c : ScriptCall) → slice_get calls k ≡ Some c → (k < length calls) × (calls ≢ [])
  below_length [] k c there = absurd (cc there)
  below_length (d ∷ calls) zero c there = (omega arith, λ none. cc none)
  below_length (d ∷ calls) (suc k) c there = (omega (arith, (below_length calls k c there).0), λ none. cc none)

  module _ (front rest : List Entry) (is : history ≡ front ++ rest) (c : ScriptCall) (there : slice_get (script_calls script 1) (length front) ≡ Some c) where
    fits : call_fits i (length front + 1) c ≡ true
    fits = ap (λ n. call_fits i n c) (omega arith) ∙ fits_at i 1 (script_calls script 1) (length front) c fit there

    its_call : (e : Entry) (more : List Entry) → rest ≡ e ∷ more → e.call ≡ resolved_by i.facts front 1 (length front + 1) c
    its_call e more has =
        let all : history ≡ front ++ e ∷ more = is ∙ ap (λ l. front ++ l) has in
        entry_at i.facts history 1 front e more (script_calls script 1) c (subst (λ l. AreFirstCalls i.facts history 1 1 l (script_calls script 1)) all made) there
        ∙ ap (λ n. resolved_by i.facts history 1 n c) (omega arith)
        ∙ ap (λ h. resolved_by i.facts h 1 (length front + 1) c) is
        ∙ by_front i (length front + 1) c fits front rest (ap (list_all (λ e. e.call.client == 1)) (sym is) ∙ ones) (omega arith)

    its_answer : (e : Entry) (more : List Entry) → rest ≡ e ∷ more → answer i ask (object_of i.facts front) (resolved_by i.facts front 1 (length front + 1) c) ≡ Some e.reply
    its_answer e more has = ap (answer i ask (object_of i.facts front)) (sym (its_call e more has)) ∙ legal front e more (is ∙ ap (λ l. front ++ l) has)

    no_answer : rest ≡ [] → answer i ask (object_of i.facts front) (resolved_by i.facts front 1 (length front + 1) c) ≡ None
    no_answer none =
        let all : history ≡ front = is ∙ ap (λ l. front ++ l) none ∙ append-nil front in
        let own : calls_of history 1 ≡ front = all_its history ones ∙ all in
        let found = end_for i ask history script 1 ends are.each (ap (list_any (λ c. c == 1)) are.clients ∙ among (below_length (script_calls script 1) (length front) c there).1) in
        by all own found.0 found.1
      where
        by : history ≡ front → calls_of history 1 ≡ front → (end : End) → IsEnd i ask history script 1 end → answer i ask (object_of i.facts front) (resolved_by i.facts front 1 (length front + 1) c) ≡ None
        by all own Done done = absurd (omega (arith, done, ap (λ (l : List Entry). length l) own, (below_length (script_calls script 1) (length front) c there).0))
        by all own (Blocked x) waits =
            let next : call_after i.facts script history 1 (length (calls_of history 1)) ≡ Some (resolved_by i.facts front 1 (length front + 1) c)
            = ap (λ l. call_after i.facts script history 1 (length l)) own ∙ ap (λ h. call_after i.facts script h 1 (length front)) all ∙ ap (λ o. resolved i.facts front 1 (length front + 1) o) there in
            let same : resolved_by i.facts front 1 (length front + 1) c ≡ x = let both : Some (resolved_by i.facts front 1 (length front + 1) c) ≡ Some x = sym next ∙ waits.0 in cc both in
            ap (answer i ask (object_of i.facts front)) same ∙ ap (λ h. answer i ask (object_of i.facts h) x) (sym all) ∙ waits.1

  -- a stage of this history's front
  module _ (front rest : List Entry) (is : history ≡ front ++ rest) (p : Player) (others : List Player) (thr : AreThrough others) (schedule : List ℕ) (last : ℕ) where
    abbrev now : Stage Entry
    now = record { history = front; players = p ∷ others; schedule = schedule; last = last }

    -- the next entry is made, and the client is at something else
    entered : (e : Entry) (more : List Entry) → rest ≡ e ∷ more → (call : Call) (reply : Reply) → record { call = call; reply = reply } ≡ e → (q : Player) → StandsAt q.done (length front + 1) more q.phase
        → IsFront history (record (appended (one_service i ask script) now call reply) { players = q ∷ after_wakes (is_woken_by i.facts script front (object_of i.facts front).rows call reply) 2 others })
    entered e more has call reply entry q stands = record {
      rest = more;
      is = is ∙ ap (λ l. front ++ l) has ∙ ap (λ x. front ++ x ∷ more) (sym entry) ∙ sym (append_assoc front (record { call = call; reply = reply } ∷ []) more);
      p = q;
      others = after_wakes (is_woken_by i.facts script front (object_of i.facts front).rows call reply) 2 others;
      players = refl;
      stands = subst (λ n. StandsAt q.done n more q.phase) (sym (longer front (record { call = call; reply = reply }))) stands;
      through = through_woken i.facts script front (object_of i.facts front).rows call reply 2 others thr;
    }

    moved : (q : Player) → StandsAt q.done (length front) rest q.phase → IsFront history (record now { players = q ∷ others })
    moved q stands = record { rest = rest; is = is; p = q; others = others; players = refl; stands = stands; through = thr }

    -- client 1 is ready, in a call
    module _ (same : p.done ≡ length front) (c : ScriptCall) (there : slice_get (script_calls script 1) (length front) ≡ Some c) where
      abbrev call : Call
      call = resolved_by i.facts front 1 (length front + 1) c

      -- by what is still to come
      after_answer : (r : List Entry) → rest ≡ r → (code : Option Code) → guard i (object_of i.facts front) call ≡ code → IsFront history (after_guard (one_service i ask script) (workload_of script) 1 now call code)
      after_answer [] none (Some code) guarded =
          absurd (cc (sym (ap (λ g. refused_or g (ask (object_of i.facts front) call)) guarded) ∙ no_answer front rest is c there none))
      after_answer (e ∷ more) has (Some code) guarded =
          let said = answer_by_guard i ask (object_of i.facts front) call code e.reply guarded (its_answer front rest is c there e more has) in
          let entry : record { call = call; reply = Refused code } ≡ e = ap (λ r. record { call = call; reply = r }) said ∙ ap (λ x. record { call = x; reply = e.reply }) (sym (its_call front rest is c there e more has)) in
          entered e more has call (Refused code) entry (player_at (workload_of script) 1 (p.done + 1)) (stands_next script (p.done + 1) (length front + 1) more (ap (λ n. n + 1) same))
      after_answer r has None guarded = answered r has (ask (object_of i.facts front) call) refl
        where
          unguarded : answer i ask (object_of i.facts front) call ≡ ask (object_of i.facts front) call
          unguarded = ap (λ g. refused_or g (ask (object_of i.facts front) call)) guarded

          answered : (r : List Entry) → rest ≡ r → (reply : Option Reply) → ask (object_of i.facts front) call ≡ reply → IsFront history (served (one_service i ask script) 1 now call reply)
          answered [] none (Some reply) asked = absurd (cc (sym (unguarded ∙ asked) ∙ no_answer front rest is c there none))
          answered [] none None asked = moved (record p { phase = blocked }) (same, none)
          answered (e ∷ more) has None asked = absurd (cc (sym (unguarded ∙ asked) ∙ its_answer front rest is c there e more has))
          answered (e ∷ more) has (Some reply) asked = by (is_visible i.facts call.fun)
            where
              said : reply ≡ e.reply
              said = let both : Some reply ≡ Some e.reply = sym (unguarded ∙ asked) ∙ its_answer front rest is c there e more has in cc both

              entry : record { call = call; reply = reply } ≡ e
              entry = ap (λ r. record { call = call; reply = r }) said ∙ ap (λ x. record { call = x; reply = e.reply }) (sym (its_call front rest is c there e more has))

              by : (b : Bool) → IsFront history (cond b (at_phase 1 replied (appended (one_service i ask script) now call reply)) (at_phase 1 (holding reply) now))
              by true = entered e more has call reply entry (record p { phase = replied }) (ap (λ n. n + 1) same)
              by false = moved (record p { phase = holding reply }) (same, e, more, has, sym said)

    -- client 1 takes its turn
    turn_alone : (f : PlainPhase) → p.phase ≡ f → StandsAt p.done (length front) rest f → FitsCalls i.facts (script_calls script 1) p.done f → IsFront history (turned (one_service i ask script) (workload_of script) 1 now f)
    turn_alone ready phase stands below =
        let next = has_next (script_calls script 1) p.done below in
        let there : slice_get (script_calls script 1) (length front) ≡ Some next.0 = ap (slice_get (script_calls script 1)) (sym stands) ∙ next.1 in
        let call_is : call_after i.facts script front 1 p.done ≡ Some (resolved_by i.facts front 1 (length front + 1) next.0)
        = ap (λ n. call_after i.facts script front 1 n) stands ∙ ap (λ o. resolved i.facts front 1 (length front + 1) o) there in
        subst (λ o. IsFront history (after_call (one_service i ask script) (workload_of script) 1 now o)) (sym call_is)
        (after_answer stands next.0 there rest refl (guard i (object_of i.facts front) (resolved_by i.facts front 1 (length front + 1) next.0)) refl)
    turn_alone replied phase stands below = moved (player_at (workload_of script) 1 (p.done + 1)) (stands_next script (p.done + 1) (length front) rest stands)
    turn_alone (holding reply) phase stands below =
        let next = has_next (script_calls script 1) p.done below in
        let there : slice_get (script_calls script 1) (length front) ≡ Some next.0 = ap (slice_get (script_calls script 1)) (sym stands.0) ∙ next.1 in
        let call_is : call_after i.facts script front 1 p.done ≡ Some (resolved_by i.facts front 1 (length front + 1) next.0)
        = ap (λ n. call_after i.facts script front 1 n) stands.0 ∙ ap (λ o. resolved i.facts front 1 (length front + 1) o) there in
        let e = stands.1 in
        let more = stands.2 in
        let entry : record { call = resolved_by i.facts front 1 (length front + 1) next.0; reply = reply } ≡ e
        = ap (λ r. record { call = resolved_by i.facts front 1 (length front + 1) next.0; reply = r }) (sym stands.4) ∙ ap (λ x. record { call = x; reply = e.reply }) (sym (its_call front rest is next.0 there e more stands.3)) in
        subst (λ o. IsFront history (handed_over (one_service i ask script) (workload_of script) 1 now reply o)) (sym call_is)
        (entered e more stands.3 (resolved_by i.facts front 1 (length front + 1) next.0) reply entry (player_at (workload_of script) 1 (p.done + 1)) (stands_next script (p.done + 1) (length front + 1) more (ap (λ n. n + 1) stands.0)))
    turn_alone blocked phase stands below = moved p (subst (StandsAt p.done (length front) rest) (sym phase) stands)
    turn_alone through phase stands below = moved p (subst (StandsAt p.done (length front) rest) (sym phase) stands)

  -- a stage is a front, and so is the next
  next_front : (blocks : (o : Object) (call : Call) → ask o call ≡ None → (fun_at i.facts.funs call.fun).block ≡ true)
      → list_all (λ (c : ScriptCall). not (fun_at i.facts.funs c.fun).block) script.setup ≡ true → (s : Stage Entry) → IsPlayStage i.facts script s → IsFront history s → IsFront history (next_stage (one_service i ask script) (workload_of script) s)
  next_front blocks setup s stage is_front = by (next_turn (workload_of script) s) refl
    where
      may_one : (client : ℕ) → 1 ≤ client → may_turn s client ≡ true → client ≡ 1
      may_one client first may = elsewhere (client - 1) refl
        where
          elsewhere : (k : ℕ) → client - 1 ≡ k → client ≡ 1
          elsewhere zero is = omega (arith, first, is)
          elsewhere (suc k) is = absurd (cc (sym (through_at is_front.others k is_front.through)
              ∙ sym (ap (λ (l : List Player). is_under_way (unwrap_or (slice_get l (suc k)) (record { done = 0; phase = through })).phase) is_front.players)
              ∙ sym (ap (λ n. is_under_way (unwrap_or (slice_get s.players n) (record { done = 0; phase = through })).phase) is) ∙ may))

      fits_one : FitsCalls i.facts (script_calls script 1) is_front.p.done is_front.p.phase
      fits_one = (subst (FitScript i.facts script 1) is_front.players stage.fit).0

      turn : IsFront history (turned (one_service i ask script) (workload_of script) 1 (record { history = s.history; players = is_front.p ∷ is_front.others; schedule = left_schedule (workload_of script) s; last = 1 }) is_front.p.phase)
      turn = turn_alone s.history is_front.rest is_front.is is_front.p is_front.others is_front.through (left_schedule (workload_of script) s) 1 is_front.p.phase refl is_front.stands fits_one

      one_turn : IsFront history (turned (one_service i ask script) (workload_of script) 1 (record s { schedule = left_schedule (workload_of script) s; last = 1 }) (player_of s 1).phase)
      one_turn = subst (λ (l : List Player). IsFront history (turned (one_service i ask script) (workload_of script) 1 (record { history = s.history; players = l; schedule = left_schedule (workload_of script) s; last = 1 })
          (unwrap_or (slice_get l 0) (record { done = 0; phase = through })).phase)) (sym is_front.players) turn

      by : (o : Option ℕ) → next_turn (workload_of script) s ≡ o → IsFront history (after_turn (one_service i ask script) (workload_of script) s o)
      by None over = is_front
      by (Some client) next =
          let first = next_is i ask script blocks setup s stage client next in
          subst (λ c. IsFront history (turned (one_service i ask script) (workload_of script) c (record s { schedule = left_schedule (workload_of script) s; last = c }) (player_of s c).phase)) (sym (may_one client first.from first.may)) one_turn

  next_stage_is : (blocks : (o : Object) (call : Call) → ask o call ≡ None → (fun_at i.facts.funs call.fun).block ≡ true)
      → list_all (λ (c : ScriptCall). not (fun_at i.facts.funs c.fun).block) script.setup ≡ true → (s : Stage Entry) → IsPlayStage i.facts script s → IsPlayStage i.facts script (next_stage (one_service i ask script) (workload_of script) s)
  next_stage_is blocks setup s stage = by (next_turn (workload_of script) s) refl
    where
      by : (o : Option ℕ) → next_turn (workload_of script) s ≡ o → IsPlayStage i.facts script (after_turn (one_service i ask script) (workload_of script) s o)
      by None over = stage
      by (Some client) next = subst (λ o. IsPlayStage i.facts script (after_turn (one_service i ask script) (workload_of script) s o)) next (goes_on i ask script blocks setup s stage client next).stage

  fronts : (blocks : (o : Object) (call : Call) → ask o call ≡ None → (fun_at i.facts.funs call.fun).block ≡ true)
      → list_all (λ (c : ScriptCall). not (fun_at i.facts.funs c.fun).block) script.setup ≡ true → (turns : ℕ) (s : Stage Entry) → IsPlayStage i.facts script s → IsFront history s
      → IsPlayStage i.facts script (stage_from (one_service i ask script) (workload_of script) s turns) × IsFront history (stage_from (one_service i ask script) (workload_of script) s turns)
  fronts blocks setup zero s stage is_front = (stage, is_front)
  fronts blocks setup (suc turns) s stage is_front =
      fronts blocks setup turns (next_stage (one_service i ask script) (workload_of script) s) (next_stage_is blocks setup s stage) (next_front blocks setup s stage is_front)

  -- where nobody can go on, it is the whole
  whole_front : (blocks : (o : Object) (call : Call) → ask o call ≡ None → (fun_at i.facts.funs call.fun).block ≡ true) (s : Stage Entry) → IsPlayStage i.facts script s → IsFront history s → next_turn (workload_of script) s ≡ None → history ≡ s.history
  whole_front blocks s stage is_front over = is_front.is ∙ ap (λ l. s.history ++ l) (by is_front.p.phase refl is_front.stands fits_one) ∙ append-nil s.history
    where
      fits_one : FitsCalls i.facts (script_calls script 1) is_front.p.done is_front.p.phase
      fits_one = (subst (FitScript i.facts script 1) is_front.players stage.fit).0

      may_not : may_turn s 1 ≡ false
      may_not = nobody i ask script blocks s over stage.some

      under_way : (f : PlainPhase) → is_front.p.phase ≡ f → is_under_way f ≡ true → ⊥
      under_way f same may = cc (sym may ∙ ap is_under_way (sym same) ∙ sym (ap (λ (l : List Player). is_under_way (unwrap_or (slice_get l 0) (record { done = 0; phase = through })).phase) is_front.players) ∙ may_not)

      nothing : (l : List Entry) → length l ≡ 0 → l ≡ []
      nothing [] none = refl
      nothing (x ∷ l) none = absurd (omega (arith, none))

      length_two : (xs ys : List Entry) → length (xs ++ ys) ≡ length xs + length ys
      length_two [] ys = omega arith
      length_two (x ∷ xs) ys = omega (arith, length_two xs ys)

      by : (f : PlainPhase) → is_front.p.phase ≡ f → StandsAt is_front.p.done (length s.history) is_front.rest f → FitsCalls i.facts (script_calls script 1) is_front.p.done f → is_front.rest ≡ []
      by ready same stands below = absurd (under_way ready same refl)
      by replied same stands below = absurd (under_way replied same refl)
      by (holding reply) same stands below = absurd (under_way (holding reply) same refl)
      by blocked same stands below = stands.1
      by through same stands below =
          nothing is_front.rest (omega (arith, stands, below, no_more i.facts history 1 history (script_calls script 1) made, ap (λ (l : List Entry). length l) is_front.is, length_two s.history is_front.rest))

-- ---- scripts of client 1 alone

module _ (script : Script) (only : list_all (λ c. c == 1) (callers script) ≡ true) where
  abbrev has : ℕ → Bool
  has c = not (length (script_calls script c) == 0)

  others_through : (n count : ℕ) → 2 ≤ n → list_all (λ c. c == 1) (filter has (ascending_from n count)) ≡ true → AreThrough (map (λ c. player_at (workload_of script) c 0) (ascending_from n count))
  others_through n zero from all = tt
  others_through n (suc count) from all = by (script_calls script n) refl all (λ rest. others_through (n + 1) count (omega (arith, from)) rest)
    where
      by : (calls : List ScriptCall) → script_calls script n ≡ calls → list_all (λ c. c == 1) (filter has (n ∷ ascending_from (n + 1) count)) ≡ true
          → (list_all (λ c. c == 1) (filter has (ascending_from (n + 1) count)) ≡ true → AreThrough (map (λ c. player_at (workload_of script) c 0) (ascending_from (n + 1) count)))
          → AreThrough (map (λ c. player_at (workload_of script) c 0) (n ∷ ascending_from (n + 1) count))
      by [] none all more =
          let has_none : has n ≡ false = ap (λ (l : List ScriptCall). not (length l == 0)) none in (
            ap (λ (l : List ScriptCall). cond (nat_lt 0 (length l)) ready through) none,
            more (ap (λ b. list_all (λ c. c == 1) (cond b (n ∷ filter has (ascending_from (n + 1) count)) (filter has (ascending_from (n + 1) count)))) (sym has_none) ∙ all),
          )
      by (c ∷ calls) some all more =
          let has_some : has n ≡ true = ap (λ (l : List ScriptCall). not (length l == 0)) some ∙ ap not (other_test (length (c ∷ calls)) 0 (λ is. cc is)) in
          absurd (not_one n from (ap (λ b. list_all (λ c. c == 1) (cond b (n ∷ filter has (ascending_from (n + 1) count)) (filter has (ascending_from (n + 1) count)))) (sym has_some) ∙ all))
        where
          not_one : (n : ℕ) → 2 ≤ n → (n == 1) && list_all (λ c. c == 1) (filter has (ascending_from (n + 1) count)) ≡ true → ⊥
          not_one n from all = elsewhere (n == 1) refl all
            where
              elsewhere : (b : Bool) → (n == 1) ≡ b → b && list_all (λ c. c == 1) (filter has (ascending_from (n + 1) count)) ≡ true → ⊥
              elsewhere true is all = grind (arith, nat_tests)
              elsewhere false is all = cc all

  -- every entry is of client 1
  all_one : (clients : List ℕ) → list_all (λ c. c == 1) clients ≡ true → (history : List Entry) → list_all (λ e. list_any (λ c. c == e.call.client) clients) history ≡ true
      → list_all (λ e. e.call.client == 1) history ≡ true
  all_one clients ones [] all = refl
  all_one clients ones (e ∷ history) all = by (list_any (λ c. c == e.call.client) clients) refl all (λ rest. all_one clients ones history rest)
    where
      is_one : (clients : List ℕ) → list_all (λ c. c == 1) clients ≡ true → list_any (λ c. c == e.call.client) clients ≡ true → (e.call.client == 1) ≡ true
      is_one [] ones among = absurd (cc among)
      is_one (c ∷ clients) ones among = at (c == 1) refl (c == e.call.client) refl ones among (λ rest more. is_one clients rest more)
        where
          same : (c == 1) ≡ true → (c == e.call.client) ≡ true → (e.call.client == 1) ≡ true
          same one its = grind (arith, nat_tests)

          at : (one : Bool) → (c == 1) ≡ one → (its : Bool) → (c == e.call.client) ≡ its → one && list_all (λ c. c == 1) clients ≡ true → its || list_any (λ c. c == e.call.client) clients ≡ true
              → (list_all (λ c. c == 1) clients ≡ true → list_any (λ c. c == e.call.client) clients ≡ true → (e.call.client == 1) ≡ true) → (e.call.client == 1) ≡ true
          at true one true its ones among more = same one its
          at true one false its ones among more = more ones among
          at false one its is ones among more = absurd (cc ones)

      by : (b : Bool) → list_any (λ c. c == e.call.client) clients ≡ b → b && list_all (λ e. list_any (λ c. c == e.call.client) clients) history ≡ true
          → (list_all (λ e. list_any (λ c. c == e.call.client) clients) history ≡ true → list_all (λ e. e.call.client == 1) history ≡ true)
          → (e.call.client == 1) && list_all (λ e. e.call.client == 1) history ≡ true
      by true among all more = ap (λ b. b && list_all (λ e. e.call.client == 1) history) (is_one clients ones among) ∙ more all
      by false among all more = absurd (cc all)

  -- the entries are its first calls
  made_so : (facts : Facts) (history : List Entry) (clients : List ℕ) → list_all (λ c. c == 1) clients ≡ true → list_all (λ e. list_any (λ c. c == e.call.client) clients) history ≡ true
      → Each (λ client. AreFirstCalls facts history client 1 (calls_of history client) (script_calls script client)) clients → AreFirstCalls facts history 1 1 (calls_of history 1) (script_calls script 1)
  made_so facts [] [] ones all each = tt
  made_so facts (e ∷ history) [] ones all each = absurd (cc all)
  made_so facts history (c ∷ clients) ones all each = by (c == 1) refl ones
    where
      same : (c == 1) ≡ true → c ≡ 1
      same is = grind (arith, nat_tests)

      by : (b : Bool) → (c == 1) ≡ b → b && list_all (λ c. c == 1) clients ≡ true → AreFirstCalls facts history 1 1 (calls_of history 1) (script_calls script 1)
      by true is ones = subst (λ client. AreFirstCalls facts history client 1 (calls_of history client) (script_calls script client)) (same is) each.0
      by false is ones = absurd (cc ones)

  -- client 1 is among those with calls, where it has some
  among_callers : (n : ℕ) → 1 ≤ n → script_calls script 1 ≢ [] → list_any (λ c. c == 1) (filter has (ascending_from 1 n)) ≡ true
  among_callers zero from some = absurd (omega (arith, from))
  among_callers (suc n) from some = by (script_calls script 1) refl some
    where
      by : (calls : List ScriptCall) → script_calls script 1 ≡ calls → calls ≢ [] → list_any (λ c. c == 1) (filter has (ascending_from 1 (suc n))) ≡ true
      by [] is some = absurd (some refl)
      by (c ∷ calls) is some =
          let has_some : has 1 ≡ true = ap (λ (l : List ScriptCall). not (length l == 0)) is ∙ ap not (other_test (length (c ∷ calls)) 0 (λ is. cc is)) in
          ap (λ b. list_any (λ c. c == 1) (cond b (1 ∷ filter has (ascending_from 2 n)) (filter has (ascending_from 2 n)))) has_some

  -- the others have none
  others_none : (n : ℕ) → list_all (λ c. c == 1) (filter has (ascending_from 1 (suc n))) ≡ true → list_all (λ c. c == 1) (filter has (ascending_from 2 n)) ≡ true
  others_none n all = by (has 1) all
    where
      by : (b : Bool) → list_all (λ c. c == 1) (cond b (1 ∷ filter has (ascending_from 2 n)) (filter has (ascending_from 2 n))) ≡ true → list_all (λ c. c == 1) (filter has (ascending_from 2 n)) ≡ true
      by true all = all
      by false all = all

  first_front : (history : List Entry) (n : ℕ) → most_client script.clients ≡ suc n → IsFront history (first_stage (workload_of script))
  first_front history n is = record {
    rest = history;
    is = refl;
    p = player_at (workload_of script) 1 0;
    others = map (λ c. player_at (workload_of script) c 0) (ascending_from 2 n);
    players = ap (λ m. map (λ c. player_at (workload_of script) c 0) (ascending_from 1 m)) is;
    stands = stands_next script 0 0 history refl;
    through = others_through 2 n (omega arith) (others_none n (ap (λ m. list_all (λ c. c == 1) (filter has (ascending_from 1 m))) (sym is) ∙ only));
  }

-- where client 1 alone has calls, a legal history of all its calls is the play without stops
pub plain_alone : (i : Declared) (ask : Table) (script : Script) → ((o : Object) (call : Call) → ask o call ≡ None → (fun_at i.facts.funs call.fun).block ≡ true)
    → list_all (λ (c : ScriptCall). not (fun_at i.facts.funs c.fun).block) script.setup ≡ true → list_all (λ c. nat_le 1 c) script.schedule ≡ true → 1 ≤ most_client script.clients
    → calls_fit i 1 (script_calls script 1) ≡ true → (history plain : List Entry) (ends : List (ℕ × End)) → IsLegal i ask history → AreScriptsCalls i.facts script history → AreEnds i ask history script ends
    → IsPlainPlay i ask script plain → GetsPlainAlone script history plain
plain_alone i ask script blocks setup turns some fit history plain ends legal are ends_are is_plain only = by (most_client script.clients) refl
  where
    ones : list_all (λ e. e.call.client == 1) history ≡ true
    ones = all_one script only (callers script) only history are.none_else

    made : AreFirstCalls i.facts history 1 1 history (script_calls script 1)
    made = subst (λ l. AreFirstCalls i.facts history 1 1 l (script_calls script 1)) (all_its history ones) (made_so script only i.facts history (callers script) only are.none_else are.each)

    by : (n : ℕ) → most_client script.clients ≡ n → history ≡ plain
    by zero is = absurd (omega (arith, some, is))
    by (suc n) is =
        let both = fronts i ask script history ends legal made ones fit ends_are (among_callers script only (most_client script.clients) some) blocks setup is_plain.turns (first_stage (workload_of script))
        (first_is_stage i ask script blocks setup some turns) (first_front script only history n is) in
        whole_front i ask script history ends legal made ones fit ends_are (among_callers script only (most_client script.clients) some) blocks (stage_after i ask script is_plain.turns) both.0 both.1 is_plain.over ∙ sym is_plain.is
