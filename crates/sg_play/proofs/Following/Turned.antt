-- What a turn of the play without stops makes of the stage of a play, by what the client's seat is at.
use Rattle.std.proofs.Common.{◌≡◌, ℕ, ◌+◌, ◌-◌, ◌<◌, ◌≤◌, true, false, cond, is_some, not, List, [], ◌∷◌, ◌++◌, None, Some, length, map, refl, sym, ◌∙◌, ap, subst, arith, slice_set}
use Rattle.std.specs.Prelude.{nat_lt, slice_get, unwrap_or}
use Rattle.std.specs.declared.option.Option.{Option}
use Rattle.sg_facts.specs.sg_base.declared.reply.Code.{Code}
use Rattle.sg_facts.specs.sg_base.declared.reply.Reply.{Reply}
use Rattle.sg_facts.specs.sg_base.declared.reply.Reply.TheVariants.{Refused}
use Rattle.sg_facts.specs.declared.entry.Entry.{Entry}
use Rattle.sg_facts.specs.Facts.{is_visible}
use Rattle.sg_facts.specs.Guard.{guard}
use Rattle.sg_facts.specs.Interface.{Declared}
use Rattle.sg_facts.specs.Legal.{Table}
use Rattle.sg_facts.specs.Object.{object_of}
use Rattle.sg_plain.specs.Calls.{call_after, script_calls}
use Rattle.sg_plain.specs.OneService.{one_service, workload_of}
use Rattle.sg_plain.specs.Plain.{PlainPhase, Player, Stage, appended, at_phase, blocked, gone_on, holding, player_at, player_of, ready, replied, through, turned}
use Rattle.sg_plain.specs.Inside.Turns.{after_call, after_guard, handed_over, served}
use Rattle.sg_plain.specs.Playing.Callers.{AreCallers, IsCaller, handed, is_receipted}
use Rattle.sg_plain.specs.Playing.Turns.{is_free_phase}
use Rattle.sg_plain.proofs.sg_clients.Lines.{length_map}
use Rattle.sg_plain.specs.sg_script.declared.script.Script.{Script}
use Rattle.sg_plain.specs.sg_clients.WorldView.{Seat, is_offered, no_seat, seat_in, wakes_seat, woken_seat}
use Rattle.sg_plain.specs.sg_clients.declared.phase.Phase.{Phase as SeatPhase}
use Rattle.sg_plain.specs.sg_clients.declared.phase.Phase.TheVariants.{Idle, Asked, Held, Receipted, Blocked, Left}
use Rattle.sg_play.specs.Asked.{Asked as AskedCall, asked_in_turn}
use Rattle.sg_play.specs.Following.Asking.{asked_after_guard, asked_by_call}
use Rattle.sg_play.specs.Following.Stages.{phase_by, player_by, players_by}
use Rattle.sg_play.proofs.Following.Players.{get_player, has_more, set_player, woken_players}

-- a client that offers a call was handed all replies that it has
pub handed_offering : (s : Seat) → is_offered s.phase ≡ true → handed s ≡ s.seq
handed_offering s is = ap (λ b. cond b (s.seq - 1) s.seq) (by s.phase is)
  where
    by : (p : SeatPhase) → is_offered p ≡ true → is_receipted p ≡ false
    by Idle is = refl
    by Asked is = refl
    by Held is = refl
    by Receipted is = absurd (cc is)
    by Blocked is = refl
    by Left is = refl

module _ (i : Declared) (ask : Table) (script : Script) (history : List Entry) (seats : List Seat) (c : ℕ) (first : 1 ≤ c) (last : c ≤ length seats)
    (callers : AreCallers i.facts script history seats) (schedule : List ℕ) (turn_of : ℕ) where
  abbrev s : Seat
  s = seat_in seats c

  -- the stage with this history and these seats
  abbrev pub stage_with : List Entry → List Seat → Stage Entry
  stage_with h l = record { history = h; players = players_by script 1 l; schedule = schedule; last = turn_of }

  abbrev now : Stage Entry
  now = stage_with history seats

  -- what the client's turn makes of it
  abbrev pub turn : Stage Entry
  turn = turned (one_service i ask script) (workload_of script) c now (player_of now c).phase

  pub player_is : (h : List Entry) (l : List Seat) → c ≤ length l → player_of (stage_with h l) c ≡ player_by script c (seat_in l c)
  player_is h l within = ap (λ o. unwrap_or o (record { done = 0; phase = through })) (get_player script l c first within)

  done_is : (player_of now c).done ≡ handed s
  done_is = ap (λ p. p.done) (player_is history seats last)

  phase_is : (p : SeatPhase) → s.phase ≡ p → (player_of now c).phase ≡ phase_by p s.reply (player_at (workload_of script) c (handed s)).phase
  phase_is p is = ap (λ x. x.phase) (player_is history seats last) ∙ ap (λ q. phase_by q s.reply (player_at (workload_of script) c (handed s)).phase) is

  turn_by : (p : PlainPhase) → (player_of now c).phase ≡ p → turn ≡ turned (one_service i ask script) (workload_of script) c now p
  turn_by p is = ap (turned (one_service i ask script) (workload_of script) c now) is

  -- what the client's turn asks
  abbrev pub asks : List AskedCall
  asks = asked_in_turn (one_service i ask script) c now (player_of now c).phase

  asks_by : (p : PlainPhase) → (player_of now c).phase ≡ p → asks ≡ asked_in_turn (one_service i ask script) c now p
  asks_by p is = ap (asked_in_turn (one_service i ask script) c now) is

  -- ---- changes of the client's player

  gone_with : (h : List Entry) (l : List Seat) (new : Seat) → c ≤ length l → player_by script c new ≡ player_at (workload_of script) c (handed (seat_in l c) + 1)
      → gone_on (workload_of script) c (stage_with h l) ≡ stage_with h (slice_set l (c - 1) new)
  gone_with h l new within same =
      ap (λ (p : Player). record (stage_with h l) { players = slice_set (players_by script 1 l) (c - 1) (player_at (workload_of script) c (p.done + 1)) }) (player_is h l within)
      ∙ ap (λ p. record (stage_with h l) { players = slice_set (players_by script 1 l) (c - 1) p }) (sym same)
      ∙ ap (λ ps. record (stage_with h l) { players = ps }) (sym (set_player script l c new first))

  phase_with : (h : List Entry) (l : List Seat) (new : Seat) (p : PlainPhase) → c ≤ length l → player_by script c new ≡ record { done = handed (seat_in l c); phase = p }
      → at_phase c p (stage_with h l) ≡ stage_with h (slice_set l (c - 1) new)
  phase_with h l new p within same =
      ap (λ (x : Player). record (stage_with h l) { players = slice_set (players_by script 1 l) (c - 1) (record x { phase = p }) }) (player_is h l within)
      ∙ ap (λ x. record (stage_with h l) { players = slice_set (players_by script 1 l) (c - 1) x }) (sym same)
      ∙ ap (λ ps. record (stage_with h l) { players = ps }) (sym (set_player script l c new first))

  -- ---- an entry

  abbrev pub entry_by : Reply → Entry
  entry_by reply = record { call = s.call; reply = reply }

  abbrev pub woken : Reply → List Seat
  woken reply = map (woken_seat (wakes_seat i.facts (object_of i.facts history).rows s.call reply)) seats

  pub within_woken : (reply : Reply) → c ≤ length (woken reply)
  within_woken reply = omega (arith, last, length_map (woken_seat (wakes_seat i.facts (object_of i.facts history).rows s.call reply)) seats)

  caller_at : (k : ℕ) → k < length seats → IsCaller i.facts script history (1 + k) (unwrap_or (slice_get seats k) no_seat)
  caller_at k within = subst (λ m. IsCaller i.facts script history (1 + k) (unwrap_or (slice_get seats m) no_seat)) (let same : (1 + k) - 1 ≡ k = omega arith in same) (callers.each (1 + k) (omega arith) (omega (arith, within)))

  pub appended_with : (reply : Reply) → appended (one_service i ask script) now s.call reply ≡ stage_with (history ++ entry_by reply ∷ []) (woken reply)
  appended_with reply = ap (λ ps. record now { history = history ++ entry_by reply ∷ []; players = ps }) (woken_players i.facts script history (object_of i.facts history).rows s.call reply 1 seats caller_at)

  -- ---- whose turn changes nothing

  -- who waits, or has nothing left
  pub turn_blocked : s.phase ≡ Blocked → turn ≡ now
  turn_blocked is = turn_by blocked (phase_is Blocked is)

  pub turn_over : is_free_phase s.phase ≡ true → nat_lt s.seq (length (script_calls script c)) ≡ false → turn ≡ now
  turn_over free over = by s.phase refl free
    where
      rest : (p : SeatPhase) → s.phase ≡ p → is_receipted p ≡ false → phase_by p s.reply (player_at (workload_of script) c (handed s)).phase ≡ (player_at (workload_of script) c (handed s)).phase → turn ≡ now
      rest p is none going =
          let same : handed s ≡ s.seq = ap (λ b. cond b (s.seq - 1) s.seq) (ap is_receipted is ∙ none) in
          turn_by through (phase_is p is ∙ going ∙ ap (λ n. (player_at (workload_of script) c n).phase) same ∙ ap (λ b. cond b ready through) over)

      by : (p : SeatPhase) → s.phase ≡ p → is_free_phase p ≡ true → turn ≡ now
      by Idle is free = rest Idle is refl refl
      by Left is free = rest Left is refl refl
      by Asked is free = absurd (cc free)
      by Held is free = absurd (cc free)
      by Receipted is free = absurd (cc free)
      by Blocked is free = absurd (cc free)

  pub asks_blocked : s.phase ≡ Blocked → asks ≡ []
  asks_blocked is = asks_by blocked (phase_is Blocked is)

  pub asks_over : is_free_phase s.phase ≡ true → nat_lt s.seq (length (script_calls script c)) ≡ false → asks ≡ []
  asks_over free over = by s.phase refl free
    where
      rest : (p : SeatPhase) → s.phase ≡ p → is_receipted p ≡ false → phase_by p s.reply (player_at (workload_of script) c (handed s)).phase ≡ (player_at (workload_of script) c (handed s)).phase → asks ≡ []
      rest p is none going =
          let same : handed s ≡ s.seq = ap (λ b. cond b (s.seq - 1) s.seq) (ap is_receipted is ∙ none) in
          asks_by through (phase_is p is ∙ going ∙ ap (λ n. (player_at (workload_of script) c n).phase) same ∙ ap (λ b. cond b ready through) over)

      by : (p : SeatPhase) → s.phase ≡ p → is_free_phase p ≡ true → asks ≡ []
      by Idle is free = rest Idle is refl refl
      by Left is free = rest Left is refl refl
      by Asked is free = absurd (cc free)
      by Held is free = absurd (cc free)
      by Receipted is free = absurd (cc free)
      by Blocked is free = absurd (cc free)

  pub asks_handed : s.phase ≡ Receipted → asks ≡ []
  asks_handed is = asks_by replied (phase_is Receipted is)

  pub asks_held : s.phase ≡ Held → asks ≡ []
  asks_held is = asks_by (holding s.reply) (phase_is Held is)

  -- ---- a receipt

  pub turn_handed : (new : Seat) → s.phase ≡ Receipted → 1 ≤ s.seq → player_by script c new ≡ player_at (workload_of script) c s.seq → turn ≡ stage_with history (slice_set seats (c - 1) new)
  turn_handed new is some same =
      let was : handed s ≡ s.seq - 1 = ap (λ b. cond b (s.seq - 1) s.seq) (ap is_receipted is) in
      turn_by replied (phase_is Receipted is) ∙ gone_with history seats new last (same ∙ ap (player_at (workload_of script) c) (let more : s.seq ≡ handed s + 1 = omega (arith, was, some) in more))

  -- ---- a call

  module _ (offers : is_offered s.phase ≡ true) where
    next_is : call_after i.facts script history c (handed s) ≡ Some s.call
    next_is = ap (call_after i.facts script history c) (handed_offering s offers ∙ (callers.each c first last).count) ∙ (callers.each c first last).next offers

    called : call_after i.facts script history c (player_of now c).done ≡ Some s.call
    called = ap (call_after i.facts script history c) done_is ∙ next_is

    -- a reply that is held is committed
    pub turn_held : (new : Seat) → s.phase ≡ Held → player_by script c new ≡ player_at (workload_of script) c (handed (seat_in (woken s.reply) c) + 1)
        → turn ≡ stage_with (history ++ entry_by s.reply ∷ []) (slice_set (woken s.reply) (c - 1) new)
    turn_held new is same =
        turn_by (holding s.reply) (phase_is Held is)
        ∙ ap (handed_over (one_service i ask script) (workload_of script) c now s.reply) called
        ∙ ap (gone_on (workload_of script) c) (appended_with s.reply)
        ∙ gone_with (history ++ entry_by s.reply ∷ []) (woken s.reply) new (within_woken s.reply) same

    module _ (is : s.phase ≡ Asked) where
      turn_asked : turn ≡ after_guard (one_service i ask script) (workload_of script) c now s.call (guard i (object_of i.facts history) s.call)
      turn_asked =
          turn_by ready (phase_is Asked is ∙ ap (λ b. cond b ready through) (has_more i.facts script history c (handed s) s.call next_is))
          ∙ ap (after_call (one_service i ask script) (workload_of script) c now) called

      asks_asked : asks ≡ asked_after_guard (one_service i ask script) c now s.call (guard i (object_of i.facts history) s.call)
      asks_asked =
          asks_by ready (phase_is Asked is ∙ ap (λ b. cond b ready through) (has_more i.facts script history c (handed s) s.call next_is))
          ∙ ap (asked_by_call (one_service i ask script) c now) called

      pub asks_refused : (code : Code) → guard i (object_of i.facts history) s.call ≡ Some code → asks ≡ []
      asks_refused code refuses = asks_asked ∙ ap (asked_after_guard (one_service i ask script) c now s.call) refuses

      -- or lets it pass, with this number and this answer
      pub asks_passes : guard i (object_of i.facts history) s.call ≡ None → (reply : Option Reply) → ask (object_of i.facts history) s.call ≡ reply
          → asks ≡ record { client = c; seq = handed s + 1; waited = not (is_some reply) } ∷ []
      asks_passes passes reply answers =
          asks_asked ∙ ap (asked_after_guard (one_service i ask script) c now s.call) passes
          ∙ ap (λ n. record { client = c; seq = n + 1; waited = not (is_some (ask (object_of i.facts history) s.call)) } ∷ []) done_is
          ∙ ap (λ r. record { client = c; seq = handed s + 1; waited = not (is_some r) } ∷ []) answers

      -- the guard refuses it
      pub turn_refused : (code : Code) (new : Seat) → guard i (object_of i.facts history) s.call ≡ Some code → player_by script c new ≡ player_at (workload_of script) c (handed (seat_in (woken (Refused code)) c) + 1)
          → turn ≡ stage_with (history ++ entry_by (Refused code) ∷ []) (slice_set (woken (Refused code)) (c - 1) new)
      turn_refused code new refuses same =
          turn_asked ∙ ap (after_guard (one_service i ask script) (workload_of script) c now s.call) refuses
          ∙ ap (gone_on (workload_of script) c) (appended_with (Refused code))
          ∙ gone_with (history ++ entry_by (Refused code) ∷ []) (woken (Refused code)) new (within_woken (Refused code)) same

      module _ (passes : guard i (object_of i.facts history) s.call ≡ None) where
        turn_passes : (reply : Option Reply) → ask (object_of i.facts history) s.call ≡ reply → turn ≡ served (one_service i ask script) c now s.call reply
        turn_passes reply answers = turn_asked ∙ ap (after_guard (one_service i ask script) (workload_of script) c now s.call) passes ∙ ap (served (one_service i ask script) c now s.call) answers

        -- it has to wait
        pub turn_waits : (new : Seat) → ask (object_of i.facts history) s.call ≡ None → player_by script c new ≡ record { done = handed s; phase = blocked } → turn ≡ stage_with history (slice_set seats (c - 1) new)
        turn_waits new none same = turn_passes None none ∙ phase_with history seats new blocked last same

        -- it is answered and committed
        pub turn_commits : (reply : Reply) (new : Seat) → ask (object_of i.facts history) s.call ≡ Some reply → is_visible i.facts s.call.fun ≡ true
            → player_by script c new ≡ record { done = handed (seat_in (woken reply) c); phase = replied }
            → turn ≡ stage_with (history ++ entry_by reply ∷ []) (slice_set (woken reply) (c - 1) new)
        turn_commits reply new answers visible same =
            turn_passes (Some reply) answers
            ∙ ap (λ b. cond b (at_phase c replied (appended (one_service i ask script) now s.call reply)) (at_phase c (holding reply) now)) visible
            ∙ ap (at_phase c replied) (appended_with reply)
            ∙ phase_with (history ++ entry_by reply ∷ []) (woken reply) new replied (within_woken reply) same

        -- or answered and held
        pub turn_holds : (reply : Reply) (new : Seat) → ask (object_of i.facts history) s.call ≡ Some reply → is_visible i.facts s.call.fun ≡ false
            → player_by script c new ≡ record { done = handed s; phase = holding reply } → turn ≡ stage_with history (slice_set seats (c - 1) new)
        turn_holds reply new answers hidden same =
            turn_passes (Some reply) answers
            ∙ ap (λ b. cond b (at_phase c replied (appended (one_service i ask script) now s.call reply)) (at_phase c (holding reply) now)) hidden
            ∙ phase_with history seats new (holding reply) last same
