-- How clients end, one after the other; and what a play that ended promises.
use Rattle.std.proofs.Common.{◌≡◌, ℕ, zero, suc, ◌+◌, ◌-◌, ◌<◌, ◌≤◌, Bool, true, false, cond, List, [], ◌∷◌, ◌++◌, None, length, map, refl, sym, ◌∙◌, ap, subst, arith, take, append-nil}
use Rattle.std.specs.Prelude.{nat_lt, slice_get, unwrap_or}
use Rattle.std.specs.List.{flat_map}
use Rattle.std.proofs.lemmas.Bool.Decides.{nat_tests}
use Rattle.sg_facts.specs.Legal.{IsLegal}
use Rattle.sg_facts.proofs.Legality.{IsLegal-from}
use Rattle.sg_facts.specs.Trace.{run_of}
use Rattle.sg_facts.specs.sg_base.declared.call.Call.{Call}
use Rattle.sg_facts.specs.Facts.{fun_at}
use Rattle.sg_facts.specs.Object.{Object}
use Rattle.sg_play.proofs.Following.Following.{following_asked, following_end}
use Rattle.sg_play.proofs.Following.Whose.{nobody_next}
use Rattle.sg_play.specs.sg_hist.Clients.{calls_of}
use Rattle.sg_play.specs.sg_hist.Recovered.{IsRecovered, struck_in}
use Rattle.sg_play.specs.sg_hist.Ending.{AreAsked, HasRecovered}
use Rattle.sg_play.specs.sg_hist.declared.ended.End.{End}
use Rattle.sg_play.specs.sg_hist.declared.ended.Ended.{Ended}
use Rattle.sg_play.specs.sg_plain.Calls.{AreEnds, most_client}
use Rattle.sg_play.proofs.sg_plain.Ending.Alone.{plain_alone}
use Rattle.sg_play.proofs.sg_plain.Ending.Plays.{plain_ends}
use Rattle.sg_play.specs.sg_plain.Playing.Callers.{handed, is_setting_up}
use Rattle.sg_play.specs.sg_plain.Promises.{AreScriptsCalls, AreWoken, IsSetupFirst}
use Rattle.sg_play.specs.Recovering.{RecoversSoFar}
use Rattle.sg_play.proofs.sg_plain.Playing.Ending.{playing_ends, playing_waiting}
use Rattle.sg_play.proofs.sg_plain.Playing.Playing.{playing_calls}
use Rattle.sg_play.specs.sg_plain.Playing.Ends.{end_of, ends_from, has_calls}
use Rattle.sg_play.specs.sg_plain.Playing.Turns.{NobodyGoes}
use Rattle.sg_play.specs.sg_script.declared.script.Script.{Script}
use Rattle.sg_play.specs.sg_clients.WorldView.{Seat, WorldView, no_seat, offered_by, seat_in, unanswered}
use Rattle.sg_sim.specs.Inside.Keeps.{KeepsPlay}
use Rattle.sg_sim.proofs.Beginning.{clients_from_one, few_handed}
use Rattle.sg_sim.specs.Played.{FollowsSchedule, IsPlayed}
use Rattle.sg_play.proofs.Ends.{IsOver, over_by}
use Rattle.sg_play.proofs.Striking.Striking.{striking_over}
use Rattle.sg_play.proofs.Waking.Waking.{waking_woken}
use Rattle.sg_play.specs.sg_world_laws.Setting.{Setting, stubs_of}

-- ---- ends

-- the ends of some clients, and of one more
one_more : (script : Script) (n : ℕ) (seats : List Seat) (s : Seat) → ends_from script n (seats ++ s ∷ []) ≡ ends_from script n seats ++ cond (has_calls script (n + length seats)) ((n + length seats, end_of s) ∷ []) []
one_more script n [] s = ap (λ m. cond (has_calls script m) ((m, end_of s) ∷ []) []) (omega arith)
one_more script n (t ∷ seats) s = by (has_calls script n) (one_more script (n + 1) seats s ∙ ap (λ m. ends_from script (n + 1) seats ++ cond (has_calls script m) ((m, end_of s) ∷ []) []) (omega arith))
  where
    new : List (ℕ × End)
    new = cond (has_calls script (n + length (t ∷ seats))) ((n + length (t ∷ seats), end_of s) ∷ []) []

    by : (b : Bool) → ends_from script (n + 1) (seats ++ s ∷ []) ≡ ends_from script (n + 1) seats ++ new
        → cond b ((n, end_of t) ∷ ends_from script (n + 1) (seats ++ s ∷ [])) (ends_from script (n + 1) (seats ++ s ∷ []))
        ≡ cond b ((n, end_of t) ∷ ends_from script (n + 1) seats) (ends_from script (n + 1) seats) ++ new
    by true rest = ap (λ l. (n, end_of t) ∷ l) rest
    by false rest = rest

take_more : (seats : List Seat) (k : ℕ) → k < length seats → take (k + 1) seats ≡ take k seats ++ unwrap_or (slice_get seats k) no_seat ∷ []
take_more [] k below = absurd (omega (arith, below))
take_more (s ∷ seats) zero below = refl
take_more (s ∷ seats) (suc k) below =
    let next : suc k + 1 ≡ suc (k + 1) = omega arith in
    ap (λ n. take n (s ∷ seats)) next ∙ ap (λ l. s ∷ l) (take_more seats k (omega (arith, below)))

length_taken : (seats : List Seat) (k : ℕ) → k ≤ length seats → length (take k seats) ≡ k
length_taken seats zero below = refl
length_taken [] (suc k) below = absurd (omega (arith, below))
length_taken (s ∷ seats) (suc k) below = ap suc (length_taken seats k (omega (arith, below)))

-- after the ends of so many clients comes that of the next, where it has a call
pub next_end : (script : Script) (seats : List Seat) (k : ℕ) → k < length seats
    → ends_from script 1 (take (k + 1) seats) ≡ ends_from script 1 (take k seats) ++ cond (has_calls script (k + 1)) ((k + 1, end_of (seat_in seats (k + 1))) ∷ []) []
next_end script seats k below =
    let number : 1 + length (take k seats) ≡ k + 1 = omega (arith, length_taken seats k (omega (arith, below))) in
    let place : k ≡ k + 1 - 1 = omega arith in
    ap (ends_from script 1) (take_more seats k below) ∙ one_more script 1 (take k seats) (unwrap_or (slice_get seats k) no_seat)
    ∙ ap (λ m. ends_from script 1 (take k seats) ++ cond (has_calls script m) ((m, end_of (unwrap_or (slice_get seats k) no_seat)) ∷ []) []) number
    ∙ ap (λ j. ends_from script 1 (take k seats) ++ cond (has_calls script (k + 1)) ((k + 1, end_of (unwrap_or (slice_get seats j) no_seat)) ∷ []) []) place

pub all_taken : (seats : List Seat) → take (length seats) seats ≡ seats
all_taken [] = refl
all_taken (s ∷ seats) = ap (λ l. s ∷ l) (all_taken seats)

-- ---- a play that ended

-- the calls that aren't answered are those of the seats, where none was withdrawn
not_withdrawn : (w : WorldView) → w.withdrawn ≡ [] → unanswered w ≡ flat_map offered_by w.seats
not_withdrawn w none = ap (λ l. flat_map offered_by w.seats ++ map (λ x. x.call) l) none ∙ append-nil (flat_map offered_by w.seats)

-- as many as are handed over are made
setup_done : (a n : ℕ) → nat_lt a n ≡ false → n ≤ a
setup_done a n not = grind (arith, nat_tests)

module _ (z : Setting) (test : ℕ → List ℕ → List ℕ → Type 0) (script : Script) (plan : List ℕ) (w : WorldView) (given : List (List ℕ)) (passed last : ℕ) (in_order : Bool)
    (is : KeepsPlay z script w given passed last in_order) (told : RecoversSoFar z w) (settled : is_setting_up script w.seats ≡ false) (nobody : NobodyGoes script w.seats) where
  blocks : (o : Object) (call : Call) → z.ask o call ≡ None → (fun_at z.iface.facts.funs call.fun).block ≡ true
  blocks = told.set.law.shape.blocks

  -- how its run ends
  over : IsOver z.iface.facts w.history w.run.boots (ends_from script 1 w.seats)
  over = over_by z script w told.ending is.none_withdrawn nobody

  some : 1 ≤ most_client script.clients
  some = clients_from_one 0 script.clients is.playing.playable.clients

  -- the setup came first
  sets_up : IsSetupFirst script w.history w.run
  sets_up =
      let there : 1 ≤ length w.seats = subst (λ n. 1 ≤ n) (sym is.playing.clients) some in
      let made : (seat_in w.seats 1).seq ≡ length (calls_of w.history 1) = (is.playing.callers.each 1 (omega arith) there).count in
      record {
        done = omega (arith, setup_done (handed (seat_in w.seats 1)) (length script.setup) settled, few_handed (seat_in w.seats 1), made);
        items = is.setting_up.front;
      }

  follows : in_order ≡ true → FollowsSchedule z.iface z.ask script w.run w.history
  follows so =
      let plain = plain_ends z.iface z.ask script blocks is.playing.playable.setup some is.playing.playable.turns in
      record {
        plain = plain.0;
        is_plain = plain.1;
        follows = following_end z script w passed last (is.following so) (nobody_next z.iface script w given passed last is.playing settled nobody) plain.0 plain.1;
        asks = following_asked z script w passed last (is.following so) (nobody_next z.iface script w given passed last is.playing settled nobody) plain.0 plain.1;
        alone = plain_alone z.iface z.ask script blocks is.playing.playable.setup is.playing.playable.turns some (is.playing.playable.fit 1) w.history plain.0 (ends_from script 1 w.seats)
            (IsLegal-from z.iface z.ask w.history told.legal) (playing_calls z.iface script w.history w.seats given is.playing)
            (playing_ends z.iface z.ask script w.history w.seats given is.playing nobody (λ client first there. told.waits client first there)) plain.1;
      }

  pub follows_plain : in_order ≡ true → (ended : Ended) → ended.history.items ≡ w.history → run_of ended.trace ≡ w.run → FollowsSchedule z.iface z.ask script (run_of ended.trace) ended.history.items
  follows_plain so ended history run =
      subst (λ h. FollowsSchedule z.iface z.ask script (run_of ended.trace) h) (sym history) (subst (λ r. FollowsSchedule z.iface z.ask script r w.history) (sym run) (follows so))

  pub played : (ended : Ended) → ended.history.items ≡ w.history → run_of ended.trace ≡ w.run → ended.ends ≡ ends_from script 1 w.seats
      → IsRecovered (stubs_of z) w.history w.run (unanswered w) → test w.run.points (struck_in w.run) plan → IsPlayed (stubs_of z) test script plan ended
  played ended history run ends recovered stops = record {
    legal = subst (IsLegal z.iface z.ask) (sym history) (IsLegal-from z.iface z.ask w.history told.legal);
    calls = subst (λ h. AreScriptsCalls z.iface.facts script h) (sym history) (playing_calls z.iface script w.history w.seats given is.playing);
    setup = subst (λ h. IsSetupFirst script h (run_of ended.trace)) (sym history) (subst (IsSetupFirst script w.history) (sym run) sets_up);
    recovered = subst (λ h. HasRecovered (stubs_of z) h (run_of ended.trace) ended.ends) (sym history)
        (subst (λ r. HasRecovered (stubs_of z) w.history r ended.ends) (sym run) (subst (HasRecovered (stubs_of z) w.history w.run) (sym ends) (record {
          tables = told.set.tables;
          recovered = subst (IsRecovered (stubs_of z) w.history w.run) (not_withdrawn w is.none_withdrawn ∙ playing_waiting z.iface z.ask script w.history w.seats given is.playing nobody) recovered;
          blocked = over.blocked;
          used = over.used;
          asked = subst (λ u. AreAsked z.iface w.history u [] w.run.boots) (not_withdrawn w is.none_withdrawn ∙ playing_waiting z.iface z.ask script w.history w.seats given is.playing nobody)
              (striking_over z w over.quiet is.striking);
          lost = over.lost;
        })));
    stops = subst (λ r. test r.points (struck_in r) plan) (sym run) stops;
    ends = subst (λ h. AreEnds z.iface z.ask h script ended.ends) (sym history) (subst (AreEnds z.iface z.ask w.history script) (sym ends)
        (playing_ends z.iface z.ask script w.history w.seats given is.playing nobody (λ client first there. told.waits client first there)));
    woken = subst (λ h. AreWoken z.iface.facts h (run_of ended.trace)) (sym history) (subst (AreWoken z.iface.facts w.history) (sym run) (waking_woken z w is.none_waits is.waking));
  }
