-- A step of a client leads a play on along the play without stops, or its service stops.
use Rattle.std.proofs.Common.{◌≡◌, ◌≢◌, ◌⊎◌, ℕ, suc, ◌+◌, ◌-◌, ◌≤◌, Bool, true, false, List, [], ◌∷◌, ◌++◌, None, Some, IsSome, drop, is_some, length, map, not, refl, sym, ◌∙◌, ap, subst, inl, inr, arith, append-nil, length-append, slice_set}
use Rattle.std.specs.Prelude.{◌==◌, ◌&&◌, nat_lt}
use Rattle.std.specs.declared.option.Option.{Option}
use Rattle.sg_facts.specs.sg_base.Lists.{Each}
use Rattle.sg_facts.specs.sg_base.Stops.{asked_after}
use Rattle.sg_facts.specs.sg_base.declared.call.Call.{Call}
use Rattle.sg_facts.specs.sg_base.declared.reply.Good.{Good}
use Rattle.sg_facts.specs.sg_base.declared.reply.Reply.{Reply}
use Rattle.sg_facts.specs.sg_base.declared.reply.Reply.TheVariants.{Ok, Refused}
use Rattle.sg_facts.specs.declared.entry.Entry.{Entry}
use Rattle.sg_facts.specs.declared.trace.Item.{Item}
use Rattle.sg_facts.specs.declared.trace.Tag.TheVariants.{Client}
use Rattle.sg_facts.specs.Facts.{fun_at, is_visible}
use Rattle.sg_facts.specs.Guard.{guard}
use Rattle.sg_facts.specs.Legal.{answer}
use Rattle.sg_facts.specs.Inside.Rows.{refused_or}
use Rattle.sg_facts.specs.Object.{Object, object_of}
use Rattle.sg_facts.specs.Trace.{Boot, Run}
use Rattle.sg_plain.specs.sg_hist.Clients.{calls_of}
use Rattle.sg_plain.specs.sg_hist.Reading.{is_by_guard, is_item_of, is_tagged}
use Rattle.sg_plain.specs.sg_hist.Inside.Reads.{after_item}
use Rattle.sg_plain.specs.sg_hist.Inside.Parts.{HasItem}
use Rattle.sg_plain.specs.Calls.{script_calls}
use Rattle.sg_plain.specs.OneService.{one_service, workload_of}
use Rattle.sg_plain.specs.Plain.{PlainPhase, Stage, blocked, holding, left_schedule, next_turn, player_at, player_of, ready, replied, through, turned}
use Rattle.sg_plain.specs.Inside.Turns.{after_turn, stage_after}
use Rattle.sg_play.specs.Recovering.{RecoversSoFar}
use Rattle.sg_plain.specs.Playing.Callers.{handed}
use Rattle.sg_plain.specs.Playing.Plays.{IsPlaying}
use Rattle.sg_plain.specs.Playing.Turns.{is_free_phase}
use Rattle.sg_plain.proofs.Playing.Calling.{its_client, next_of}
use Rattle.sg_plain.proofs.Playing.Lines.{handed_woken}
use Rattle.sg_plain.proofs.sg_clients.Lines.{length_map, length_set, seat_here, seat_woken}
use Rattle.sg_plain.specs.sg_hist.Growing.{IsNextItem, noted, place_after, struck}
use Rattle.sg_plain.specs.sg_script.declared.script.Script.{Script}
use Rattle.sg_plain.specs.sg_clients.WorldView.{Seat, WorldView, answered_to, boot_number, committed, given_to, is_offered, no_reply, rebooted, seat_in, seat_of, struck_at, unanswered, wakes_seat, woken_seat}
use Rattle.sg_plain.specs.sg_clients.declared.phase.Phase.{Phase as SeatPhase}
use Rattle.sg_plain.specs.sg_clients.declared.phase.Phase.TheVariants.{Idle, Asked, Held, Receipted, Blocked, Left}
use Rattle.sg_world.specs.sg_recovery_laws.LastItem.LastPlace.{HaveItems, last_place}
use Rattle.sg_facts.proofs.Replaying.Found.{same_test}
use Rattle.sg_world.specs.declared.did.Did.{Did}
use Rattle.sg_world.specs.declared.did.Did.TheVariants.{Answered, Blocked as Waits, Booted, Loaded, Lost, Replayed, Served, Skipped, Struck}
use Rattle.sg_world.specs.Steps.{Commits, HandsOver, Holds, Loads, Loses, Refuses, Replays, Returns, Skips, Steps, StopsCall, StopsReplay, WaitsNow}
use Rattle.sg_world.proofs.sg_world_laws.Refusing.{by_the_guard}
use Rattle.sg_world.specs.sg_world_laws.Setting.{Setting, stubs_of}
use Rattle.sg_play.specs.Asked.{Asked as AskedCall, are_asked_so, asked_in_turn, is_asked_so}
use Rattle.sg_play.specs.Following.Asking.{asked_by, asked_next}
use Rattle.sg_play.specs.Following.Follows.{IsPastStop, HoldAll, HoldsSo, IsAllThere, IsFollowing, NeverStopped}
use Rattle.sg_play.specs.Following.Stages.{player_by, stage_of}
use Rattle.sg_play.proofs.Following.Asks.{asked_more, asked_one_more, is_outcome_so, own_asked, replied_so}
use Rattle.sg_play.proofs.Following.Numbered.{NoneHas, have_items, next_is_new, one_boot}
use Rattle.sg_play.proofs.Following.Onward.{after_more}
use Rattle.sg_play.proofs.Following.Seats.{HeldFirst, asked_first, asked_holds, each_set, each_woken, plain_holds}
use Rattle.sg_play.proofs.Following.Stopped.{guard_later, hidden_later, stopped_again, stopped_booted, stopped_committed, stopped_entered, stopped_noted, stops_first}
use Rattle.sg_play.proofs.Following.There.{none_loaded, none_walked, there_committed, there_hidden, there_noted, there_refused}
use Rattle.sg_play.proofs.Following.Turned.{asks, asks_blocked, asks_handed, asks_held, asks_over, asks_passes, asks_refused, handed_offering, stage_with, turn, turn_blocked, turn_commits, turn_handed, turn_held, turn_holds, turn_over, turn_refused, turn_waits}

some_is : (o : Option Object) (v : Object) → o ≡ Some v → IsSome o
some_is o v is = ap is_some is

-- what the service answers a call that the guard lets pass
asked : (z : Setting) (o : Object) (call : Call) (reply : Option Reply) → guard z.iface o call ≡ None → answer z.iface z.ask o call ≡ reply → z.ask o call ≡ reply
asked z o call reply passes answers = sym (ap (λ g. refused_or g (z.ask o call)) passes) ∙ answers

module _ (z : Setting) (script : Script) (x : WorldView) (given : List (List ℕ)) (c : ℕ) (first : 1 ≤ c) (last : c ≤ length x.seats) (is : IsPlaying z.iface script x.history x.seats given)
    (passed before later : ℕ) (f : IsFollowing z script x passed before) where
  abbrev s : Seat
  s = seat_of x c

  abbrev entry_by : Reply → Entry
  entry_by reply = record { call = s.call; reply = reply }

  abbrev woken : Reply → List Seat
  woken reply = map (woken_seat (wakes_seat z.iface.facts (object_of z.iface.facts x.history).rows s.call reply)) x.seats

  within_woken : (reply : Reply) → c ≤ length (woken reply)
  within_woken reply = omega (arith, last, length_map (woken_seat (wakes_seat z.iface.facts (object_of z.iface.facts x.history).rows s.call reply)) x.seats)

  its : is_offered s.phase ≡ true → s.call.client ≡ c
  its offers = its_client z.iface.facts script x.history c (length (calls_of x.history c)) s.call ((is.callers.each c first last).next offers)

  counted : is_offered s.phase ≡ true → s.call.seq ≡ length (calls_of x.history c) + 1
  counted offers = ap (λ y. y.seq) (next_of z.iface.facts script x.history c (length (calls_of x.history c)) s.call ((is.callers.each c first last).next offers)).is

  number : is_offered s.phase ≡ true → s.call.seq ≡ s.seq + 1
  number offers = counted offers ∙ ap (λ n. n + 1) (sym (is.callers.each c first last).count)

  offers_by : (p : SeatPhase) → s.phase ≡ p → is_offered p ≡ true → is_offered s.phase ≡ true
  offers_by p at offers = ap is_offered at ∙ offers

  -- how many replies the client was handed doesn't change where clients are woken
  handed_then : (reply : Reply) → handed (seat_in (woken reply) c) ≡ handed s
  handed_then reply =
      ap handed (seat_woken (wakes_seat z.iface.facts (object_of z.iface.facts x.history).rows s.call reply) x.seats c)
      ∙ handed_woken (wakes_seat z.iface.facts (object_of z.iface.facts x.history).rows s.call reply) s

  -- its seat after an entry
  abbrev behind : Reply → SeatPhase → Reply → Seat
  behind reply p kept = record (seat_in (woken reply) c) { phase = p; seq = s.call.seq; reply = kept }

  given_seats : (reply : Reply) → is_offered s.phase ≡ true → (given_to (committed z.iface.facts x (entry_by reply)) (entry_by reply)).seats ≡ slice_set (woken reply) (c - 1) (behind reply Receipted reply)
  given_seats reply offers = ap (λ n. slice_set (woken reply) (n - 1) (record (seat_in (woken reply) n) { phase = Receipted; seq = s.call.seq; reply = reply })) (its offers)

  answered_seats : (reply : Reply) → is_offered s.phase ≡ true → (answered_to (committed z.iface.facts x (entry_by reply)) (entry_by reply)).seats ≡ slice_set (woken reply) (c - 1) (behind reply Idle no_reply)
  answered_seats reply offers = ap (λ n. slice_set (woken reply) (n - 1) (record (seat_in (woken reply) n) { phase = Idle; seq = s.call.seq; reply = no_reply })) (its offers)

  answered_idle : (reply : Reply) → is_offered s.phase ≡ true → (seat_in (answered_to (committed z.iface.facts x (entry_by reply)) (entry_by reply)).seats c).phase ≡ Idle
  answered_idle reply offers = ap (λ l. (seat_in l c).phase) (answered_seats reply offers) ∙ ap (λ (k : Seat). k.phase) (seat_here (woken reply) c (behind reply Idle no_reply) first (within_woken reply))

  answered_clients : (reply : Reply) → is_offered s.phase ≡ true → length (answered_to (committed z.iface.facts x (entry_by reply)) (entry_by reply)).seats ≡ length x.seats
  answered_clients reply offers =
      ap length (answered_seats reply offers) ∙ length_set (woken reply) (c - 1) (behind reply Idle no_reply)
      ∙ length_map (woken_seat (wakes_seat z.iface.facts (object_of z.iface.facts x.history).rows s.call reply)) x.seats

  -- ---- what the seats hold

  hold_set : (new : Seat) → HoldsSo z.iface.facts new → HoldAll z.iface.facts (slice_set x.seats (c - 1) new)
  hold_set new own = each_set (HoldsSo z.iface.facts) x.seats c new first last f.hold own

  hold_woken : (test : Call → Bool) → HoldAll z.iface.facts (map (woken_seat test) x.seats)
  hold_woken test = each_woken (HoldsSo z.iface.facts) test x.seats (asked_holds z.iface.facts) f.hold

  hold_entered : (reply : Reply) (new : Seat) → HoldsSo z.iface.facts new → HoldAll z.iface.facts (slice_set (woken reply) (c - 1) new)
  hold_entered reply new own =
      each_set (HoldsSo z.iface.facts) (woken reply) c new first (within_woken reply) (hold_woken (wakes_seat z.iface.facts (object_of z.iface.facts x.history).rows s.call reply)) own

  hold_answered : (reply : Reply) → is_offered s.phase ≡ true → HoldAll z.iface.facts (answered_to (committed z.iface.facts x (entry_by reply)) (entry_by reply)).seats
  hold_answered reply offers = subst (HoldAll z.iface.facts) (sym (answered_seats reply offers)) (hold_entered reply (behind reply Idle no_reply) (plain_holds z.iface.facts (behind reply Idle no_reply) (λ held. cc held) (λ receipted. cc receipted)))

  hold_committed : (w : WorldView) → Commits z x c w → HoldAll z.iface.facts w.seats
  hold_committed w l =
      let offers = offers_by Asked l.asks.reaches.uses.let_in.phase refl in
      subst (λ (y : WorldView). HoldAll z.iface.facts y.seats) (sym l.now) (subst (HoldAll z.iface.facts) (sym (given_seats l.reply offers))
      (hold_entered l.reply (behind l.reply Receipted l.reply) (record { hidden = λ held. absurd (cc held); receipt = λ receipted. omega (arith, number offers) })))

  abbrev At : WorldView → Type 0
  At y = HoldAll z.iface.facts y.seats

  -- each client's seat after a step
  pub hold_stepped : (did : Did) (w : WorldView) → Steps z x c did w → HoldAll z.iface.facts w.seats
  hold_stepped did w l = by did l
    where
      set_to : (p : SeatPhase) (boot : ℕ) (kept : Reply) → p ≢ Held → p ≢ Receipted → HoldAll z.iface.facts (slice_set x.seats (c - 1) (record s { phase = p; boot = boot; reply = kept }))
      set_to p boot kept not_held not_receipted = hold_set (record s { phase = p; boot = boot; reply = kept }) (plain_holds z.iface.facts (record s { phase = p; boot = boot; reply = kept }) not_held not_receipted)

      by : (d : Did) → Steps z x c d w → At w
      by Skipped l = subst At (sym l.now) f.hold
      by (Answered reply) (inl l) = subst At (sym l.now) (set_to Idle s.boot no_reply (λ held. cc held) (λ receipted. cc receipted))
      by (Answered reply) (inr (inl l)) = subst At (sym l.now) (hold_answered reply (offers_by Held l.phase refl))
      by (Answered reply) (inr (inr l)) = subst At (sym l.now) (hold_answered reply (offers_by Asked l.phase refl))
      by Lost l = subst At (sym l.now) (set_to Asked s.boot s.reply (λ held. cc held) (λ receipted. cc receipted))
      by Booted l = subst At (sym l.now) (hold_woken (λ call. true))
      by Struck (inl l) = subst At (sym l.now) f.hold
      by Struck (inr (inl l)) = subst At (sym l.now) f.hold
      by Struck (inr (inr (inl l))) = subst At (sym l.now) f.hold
      by Struck (inr (inr (inr l))) = subst At (sym l.now) (hold_committed l.between l.commits)
      by Replayed l = subst At (sym l.now) f.hold
      by Loaded l = subst At (sym l.now) f.hold
      by Waits l = subst At (sym l.now) (set_to Blocked s.boot s.reply (λ held. cc held) (λ receipted. cc receipted))
      by Served (inl l) = subst At (sym l.now) (hold_committed l.between l.commits)
      by Served (inr l) = subst At (sym l.now)
          (hold_set (record s { phase = Held; boot = boot_number x; reply = l.reply }) (record { hidden = λ held. l.hidden; receipt = λ receipted. absurd (cc receipted) }))

  -- ---- a service that stopped before

  module _ (b : IsPastStop z script x.history x.run.boots x.running) where
    abbrev Then : WorldView → Type 0
    Then w = IsPastStop z script w.history w.run.boots w.running

    then_entered : (e : Entry) → is_visible z.iface.facts e.call.fun ≡ false → IsPastStop z script (x.history ++ e ∷ []) x.run.boots x.running
    then_entered e hidden = stopped_entered z script x.history x.run.boots x.running b e (hidden_later z.iface.facts x.run.boots e hidden)

    then_noted : IsSome x.running → (item : Item) (up : Option Object) → IsPastStop z script x.history (noted x.run.boots item) up
    then_noted runs item up = stopped_noted z script x.history x.run.boots x.running b runs item up

    then_committed : (w : WorldView) → Commits z x c w → Then w
    then_committed w l =
        let offers = offers_by Asked l.asks.reaches.uses.let_in.phase refl in
        let own : is_item_of (entry_by l.reply) l.asks.item ≡ true =
        ap (is_tagged s.call.client s.call.seq) l.asks.tag ∙ own_tag s.call.client s.call.seq (its offers) in
        subst Then (sym l.now)
        (stopped_committed z script x.history x.run.boots x.running b (some_is x.running l.asks.service l.asks.reaches.uses.running) l.asks.item (entry_by l.reply) own (Some (after_item z.iface.facts l.asks.service l.asks.item)))
      where
        own_tag : (n seq : ℕ) → n ≡ c → is_tagged n seq (Client c seq) ≡ true
        own_tag n seq same = ap (λ b. b && (seq == seq)) (same_test c n (sym same)) ∙ same_test seq seq refl

    then_stepped : (did : Did) (w : WorldView) → Steps z x c did w → Then w
    then_stepped Skipped w l = subst Then (sym l.now) b
    then_stepped (Answered reply) w (inl l) = subst Then (sym l.now) b
    then_stepped (Answered reply) w (inr (inl l)) = subst Then (sym l.now) (then_entered (entry_by reply) ((f.hold c first).hidden l.phase))
    then_stepped (Answered reply) w (inr (inr l)) = subst Then (sym l.now)
        (stopped_entered z script x.history x.run.boots x.running b (entry_by reply)
        (guard_later z.iface.facts x.run.boots (entry_by reply) (ap is_by_guard l.its ∙ by_the_guard z.iface (object_of z.iface.facts x.history) s.call l.code l.guarded)))
    then_stepped Lost w l = subst Then (sym l.now) b
    then_stepped Booted w l = subst Then (sym l.now) (stopped_booted z script x.history x.run.boots x.running b (rebooted x).running)
    then_stepped Struck w (inl l) = subst Then (sym l.now)
        (stopped_again z script x.history x.run.boots x.running b (some_is x.running l.service l.uses.running) (asked_after x.run.points 1) None)
    then_stepped Struck w (inr (inl l)) = subst Then (sym l.now)
        (let runs = some_is x.running l.service l.uses.running in
        stopped_again z script x.history (noted x.run.boots l.item) x.running (then_noted runs l.item x.running) runs l.item.points None)
    then_stepped Struck w (inr (inr (inl l))) = subst Then (sym l.now)
        (let runs = some_is x.running l.asks.service l.asks.reaches.uses.running in
        stopped_again z script x.history (noted x.run.boots l.asks.item) x.running (then_noted runs l.asks.item x.running) runs l.asks.item.points None)
    then_stepped Struck w (inr (inr (inr l))) = subst Then (sym l.now)
        (stopped_again z script l.between.history l.between.run.boots l.between.running (then_committed l.between l.commits) (ap (λ (y : WorldView). is_some y.running) l.commits.now) (asked_after l.between.run.points 1) None)
    then_stepped Replayed w l = subst Then (sym l.now) (then_noted (some_is x.running l.service l.uses.running) l.item (Some (after_item z.iface.facts l.service l.item)))
    then_stepped Loaded w l = subst Then (sym l.now) (then_noted (some_is x.running l.service l.uses.running) l.item (Some (after_item z.iface.facts l.service l.item)))
    then_stepped Waits w l = subst Then (sym l.now) (then_noted (some_is x.running l.asks.service l.asks.reaches.uses.running) l.asks.item x.running)
    then_stepped Served w (inl l) = subst Then (sym l.now) (then_committed l.between l.commits)
    then_stepped Served w (inr l) = subst Then (sym l.now)
        (then_noted (some_is x.running l.asks.service l.asks.reaches.uses.running) l.asks.item (Some (after_item z.iface.facts l.asks.service l.asks.item)))

  -- ---- a service that never stopped

  module _ (so : RecoversSoFar z x) (turn_is : next_turn (workload_of script) (stage_of script x passed before) ≡ Some c) (schedule_is : drop later script.schedule ≡ left_schedule (workload_of script) (stage_of script x passed before))
      (offered_first : is_free_phase s.phase ≡ true → nat_lt s.seq (length (script_calls script c)) ≡ false)
      (a : NeverStopped z script x.history x.run.boots x.running x.seats (stage_of script x passed before)) where
    abbrev schedule : List ℕ
    schedule = drop later script.schedule

    abbrev Now : WorldView → Type 0
    Now w = NeverStopped z script w.history w.run.boots w.running w.seats (stage_of script w later c) ⊎ IsPastStop z script w.history w.run.boots w.running

    -- the client's turn in the play without stops
    abbrev its_turn : Stage Entry
    its_turn = turn z.iface z.ask script x.history x.seats c first last is.callers schedule c

    turned_on : its_turn ≡ stage_after z.iface z.ask script (suc a.turns)
    turned_on =
        ap (λ (l : List ℕ). turned (one_service z.iface z.ask script) (workload_of script) c (record (stage_of script x passed before) { schedule = l; last = c }) (player_of (stage_of script x passed before) c).phase) schedule_is
        ∙ ap (after_turn (one_service z.iface z.ask script) (workload_of script) (stage_of script x passed before)) (sym turn_is)
        ∙ after_more z.iface z.ask script a.turns (stage_of script x passed before) a.at

    -- the stage with this history and these seats
    abbrev with_these : List Entry → List Seat → Stage Entry
    with_these h l = stage_with z.iface z.ask script x.history x.seats c first last is.callers schedule c h l

    -- what it asks
    abbrev its_asks : List AskedCall
    its_asks = asks z.iface z.ask script x.history x.seats c first last is.callers schedule c

    asks_alike : (p : PlainPhase) → asked_in_turn (one_service z.iface z.ask script) c (stage_of script x passed before) p ≡ asked_in_turn (one_service z.iface z.ask script) c (with_these x.history x.seats) p
    asks_alike ready = refl
    asks_alike replied = refl
    asks_alike (holding reply) = refl
    asks_alike blocked = refl
    asks_alike through = refl

    asked_so_far : asked_by z.iface z.ask script (suc a.turns) ≡ asked_by z.iface z.ask script a.turns ++ its_asks
    asked_so_far =
        asked_one_more z.iface z.ask script a.turns
        ∙ ap (λ l. asked_by z.iface z.ask script a.turns ++ l)
        (ap (λ (t : Stage Entry). asked_next (one_service z.iface z.ask script) t (next_turn (workload_of script) t)) (sym a.at)
        ∙ ap (asked_next (one_service z.iface z.ask script) (stage_of script x passed before)) turn_is
        ∙ asks_alike (player_of (stage_of script x passed before) c).phase)

    -- items are those that the play without stops asks up to this turn, this taken in
    abbrev AreAsked : List Item → Type 0
    AreAsked items = (are_asked_so items (asked_by z.iface z.ask script (suc a.turns)) ≡ true) × (length items ≡ length (asked_by z.iface z.ask script (suc a.turns)))

    none_asked : its_asks ≡ [] → AreAsked a.items
    none_asked none =
        let same : asked_by z.iface z.ask script (suc a.turns) ≡ asked_by z.iface z.ask script a.turns =
        asked_so_far ∙ ap (λ l. asked_by z.iface z.ask script a.turns ++ l) none ∙ append-nil (asked_by z.iface z.ask script a.turns) in
        (ap (are_asked_so a.items) same ∙ a.asks, a.all_asked ∙ sym (ap length same))

    one_asked : (item : Item) (call : AskedCall) → its_asks ≡ call ∷ [] → is_asked_so item call ≡ true → AreAsked (a.items ++ item ∷ [])
    one_asked item call one own =
        let same : asked_by z.iface z.ask script (suc a.turns) ≡ asked_by z.iface z.ask script a.turns ++ call ∷ [] =
        asked_so_far ∙ ap (λ l. asked_by z.iface z.ask script a.turns ++ l) one in
        let long : length (a.items ++ item ∷ []) ≡ length (asked_by z.iface z.ask script a.turns ++ call ∷ []) =
        omega (arith, length-append a.items (item ∷ []), length-append (asked_by z.iface z.ask script a.turns) (call ∷ []), a.all_asked) in (
          ap (are_asked_so (a.items ++ item ∷ [])) same ∙ asked_more a.items (asked_by z.iface z.ask script a.turns) item call a.asks a.all_asked own,
          long ∙ sym (ap length same),
        )

    -- the item of the client's call, which the guard lets pass and the service answers so
    call_asked : s.phase ≡ Asked → guard z.iface (object_of z.iface.facts x.history) s.call ≡ None → (reply : Option Reply) → z.ask (object_of z.iface.facts x.history) s.call ≡ reply
        → (item : Item) → item.tag ≡ Client c s.call.seq → is_outcome_so item.outcome (not (is_some reply)) ≡ true → AreAsked (a.items ++ item ∷ [])
    call_asked asked_now passes reply answers item tag out =
        let offers = offers_by Asked asked_now refl in
        let number_is : s.call.seq ≡ handed s + 1 = number offers ∙ ap (λ n. n + 1) (sym (handed_offering s offers)) in
        one_asked item (record { client = c; seq = handed s + 1; waited = not (is_some reply) })
        (asks_passes z.iface z.ask script x.history x.seats c first last is.callers schedule c offers asked_now passes reply answers)
        (own_asked item c s.call.seq (handed s + 1) (not (is_some reply)) tag number_is out)

    -- it goes on
    goes_on : (h : List Entry) (boots : List Boot) (running : Option Object) (l : List Seat) (items : List Item) → boots ≡ record { items = items; stop = None } ∷ [] → IsSome running
        → IsAllThere z.iface.facts h items → ((client : ℕ) → 1 ≤ client → HeldFirst (seat_in l client)) → its_turn ≡ with_these h l → AreAsked items → NeverStopped z script h boots running l (with_these h l)
    goes_on h boots running l items one up there held same asked_then = record {
      items = items;
      one = one;
      up = up;
      all_there = there;
      held = held;
      turns = suc a.turns;
      at = sym same ∙ turned_on;
      asks = asked_then.0;
      all_asked = asked_then.1;
    }

    history_is : x.history ≡ (stage_after z.iface z.ask script a.turns).history
    history_is = ap (λ (t : Stage Entry). t.history) a.at

    noted_is : (item : Item) → noted x.run.boots item ≡ record { items = a.items ++ item ∷ []; stop = None } ∷ []
    noted_is item = ap (λ l. noted l item) a.one

    has : HaveItems a.items x.history
    has = have_items z.iface.facts x.history a.items x.run.points x.history
        (subst (λ (r : Run). Each (HasItem z.iface.facts x.history r) x.history) (ap (λ l. record { boots = l; points = x.run.points }) a.one) so.recovering.served.items)

    held_set : (new : Seat) → HeldFirst new → (client : ℕ) → 1 ≤ client → HeldFirst (seat_in (slice_set x.seats (c - 1) new) client)
    held_set new own = each_set HeldFirst x.seats c new first last a.held own

    held_entered : (reply : Reply) (new : Seat) → HeldFirst new → (client : ℕ) → 1 ≤ client → HeldFirst (seat_in (slice_set (woken reply) (c - 1) new) client)
    held_entered reply new own =
        each_set HeldFirst (woken reply) c new first (within_woken reply)
        (each_woken HeldFirst (wakes_seat z.iface.facts (object_of z.iface.facts x.history).rows s.call reply) x.seats asked_first a.held) own

    down_never : x.running ≡ None → ⊥
    down_never none = cc (sym a.up ∙ ap is_some none)

    -- ---- the lines

    now_skips : (w : WorldView) → Skips z x c w → Now w
    now_skips w l = subst Now (sym l.now) (inl (goes_on x.history x.run.boots x.running x.seats a.items a.one a.up a.all_there a.held (by l.phase) (none_asked (asks_none l.phase))))
      where
        asks_none : (s.phase ≡ Idle) ⊎ (s.phase ≡ Blocked) ⊎ (s.phase ≡ Left) → its_asks ≡ []
        asks_none (inl idle) =
            let free : is_free_phase s.phase ≡ true = ap is_free_phase idle in
            asks_over z.iface z.ask script x.history x.seats c first last is.callers schedule c free (offered_first free)
        asks_none (inr (inl waits)) = asks_blocked z.iface z.ask script x.history x.seats c first last is.callers schedule c waits
        asks_none (inr (inr left)) =
            let free : is_free_phase s.phase ≡ true = ap is_free_phase left in
            asks_over z.iface z.ask script x.history x.seats c first last is.callers schedule c free (offered_first free)

        by : (s.phase ≡ Idle) ⊎ (s.phase ≡ Blocked) ⊎ (s.phase ≡ Left) → its_turn ≡ with_these x.history x.seats
        by (inl idle) =
            let free : is_free_phase s.phase ≡ true = ap is_free_phase idle in
            turn_over z.iface z.ask script x.history x.seats c first last is.callers schedule c free (offered_first free)
        by (inr (inl waits)) = turn_blocked z.iface z.ask script x.history x.seats c first last is.callers schedule c waits
        by (inr (inr left)) =
            let free : is_free_phase s.phase ≡ true = ap is_free_phase left in
            turn_over z.iface z.ask script x.history x.seats c first last is.callers schedule c free (offered_first free)

    now_hands_over : (reply : Reply) (w : WorldView) → HandsOver z x c reply w → Now w
    now_hands_over reply w l = subst Now (sym l.now)
        (let new : Seat = record s { phase = Idle; reply = no_reply } in
        inl (goes_on x.history x.run.boots x.running (slice_set x.seats (c - 1) new) a.items a.one a.up a.all_there (held_set new (λ held. absurd (cc held)))
        (turn_handed z.iface z.ask script x.history x.seats c first last is.callers schedule c new l.phase ((f.hold c first).receipt l.phase) refl)
        (none_asked (asks_handed z.iface z.ask script x.history x.seats c first last is.callers schedule c l.phase))))

    -- a call is entered, whose client is handed its reply
    entered : (reply : Reply) (w : WorldView) → is_offered s.phase ≡ true → w ≡ answered_to (committed z.iface.facts x (entry_by reply)) (entry_by reply)
        → IsAllThere z.iface.facts (x.history ++ entry_by reply ∷ []) a.items
        → its_turn ≡ with_these (x.history ++ entry_by reply ∷ []) (slice_set (woken reply) (c - 1) (behind reply Idle no_reply)) → its_asks ≡ [] → Now w
    entered reply w offers now there same none = subst Now (sym now)
        (inl (subst (λ l. NeverStopped z script (x.history ++ entry_by reply ∷ []) x.run.boots x.running l (with_these (x.history ++ entry_by reply ∷ []) l)) (sym (answered_seats reply offers))
        (goes_on (x.history ++ entry_by reply ∷ []) x.run.boots x.running (slice_set (woken reply) (c - 1) (behind reply Idle no_reply)) a.items a.one a.up there
        (held_entered reply (behind reply Idle no_reply) (λ held. absurd (cc held))) same (none_asked none))))

    -- the client goes on to its next call
    next_player : (reply : Reply) → is_offered s.phase ≡ true → player_by script c (behind reply Idle no_reply) ≡ player_at (workload_of script) c (handed (seat_in (woken reply) c) + 1)
    next_player reply offers = ap (player_at (workload_of script) c) (number offers ∙ ap (λ n. n + 1) (sym (handed_then reply ∙ handed_offering s offers)))

    now_returns : (reply : Reply) (w : WorldView) → Returns z x c reply w → Now w
    now_returns reply w l =
        let offers = offers_by Held l.phase refl in
        entered s.reply w offers (subst (λ r. w ≡ answered_to (committed z.iface.facts x (entry_by r)) (entry_by r)) l.its l.now)
        (there_hidden z.iface.facts x.history s.call s.reply a.items a.all_there ((f.hold c first).hidden l.phase))
        (turn_held z.iface z.ask script x.history x.seats c first last is.callers schedule c offers (behind s.reply Idle no_reply) l.phase (next_player s.reply offers))
        (asks_held z.iface z.ask script x.history x.seats c first last is.callers schedule c l.phase)

    now_refuses : (reply : Reply) (w : WorldView) → Refuses z x c reply w → Now w
    now_refuses reply w l =
        let offers = offers_by Asked l.phase refl in
        entered (Refused l.code) w offers (subst (λ r. w ≡ answered_to (committed z.iface.facts x (entry_by r)) (entry_by r)) l.its l.now)
        (there_refused z.iface.facts x.history s.call (Refused l.code) a.items a.all_there a.items (λ test any. any) (λ good same. cc same))
        (turn_refused z.iface z.ask script x.history x.seats c first last is.callers schedule c offers l.phase l.code (behind (Refused l.code) Idle no_reply) l.guarded (next_player (Refused l.code) offers))
        (asks_refused z.iface z.ask script x.history x.seats c first last is.callers schedule c offers l.phase l.code l.guarded)

    now_loses : (w : WorldView) → Loses z x c w → Now w
    now_loses w l = absurd (by l.gone)
      where
        by : (x.running ≡ None) ⊎ (s.boot ≢ boot_number x) → ⊥
        by (inl none) = down_never none
        by (inr other) = other (a.held c first l.phase ∙ sym (ap length a.one))

    -- the service stops before an entry
    stops : (boots : List Boot) (items : List Item) (stop asked_then : ℕ) → boots ≡ record { items = items; stop = Some stop } ∷ [] → are_asked_so items (asked_by z.iface z.ask script asked_then) ≡ true
        → IsPastStop z script x.history boots None
    stops boots items stop asked_then one so_asked = stops_first z script x.history boots items stop a.turns one history_is asked_then so_asked

    now_stops : (stop : ℕ) (w : WorldView) → w ≡ struck_at x stop → Now w
    now_stops stop w now = subst Now (sym now) (inr (stops (struck x.run.boots stop) a.items stop a.turns (ap (λ l. struck l stop) a.one) a.asks))

    -- or within the client's call
    now_stops_within : (w : WorldView) → StopsCall z x c w → Now w
    now_stops_within w l =
        let item = l.asks.item in
        let let_in = l.asks.reaches.uses.let_in in
        subst Now (sym l.now)
        (inr (stops (struck (noted x.run.boots item) item.points) (a.items ++ item ∷ []) item.points (suc a.turns) (ap (λ l. struck l item.points) (noted_is item))
        (call_asked let_in.phase let_in.passes (z.ask (object_of z.iface.facts x.history) s.call) refl item l.asks.tag
        (ap (λ o. is_outcome_so o (not (is_some (z.ask (object_of z.iface.facts x.history) s.call)))) l.outcome)).0))

    -- nothing is to be brought back
    now_replays : (w : WorldView) → Replays z x c w → ⊥
    now_replays w l =
        let next : IsNextItem (stubs_of z) x.history (unanswered x) (last_place [] a.items l.item) = subst (λ b. IsNextItem (stubs_of z) x.history (unanswered x) (place_after [] b l.item)) a.one l.noted.next in
        none_walked z.iface.facts (stubs_of z) x.history a.items l.item l.id l.k c a.all_there has l.tag next.settled.walk

    now_stops_replay : (w : WorldView) → StopsReplay z x c w → ⊥
    now_stops_replay w l =
        let next : IsNextItem (stubs_of z) x.history (unanswered x) (last_place [] a.items l.item) = subst (λ b. IsNextItem (stubs_of z) x.history (unanswered x) (place_after [] b l.item)) a.one l.noted.next in
        none_walked z.iface.facts (stubs_of z) x.history a.items l.item l.id l.k c a.all_there has l.tag next.settled.walk

    now_loads : (w : WorldView) → Loads z x c w → ⊥
    now_loads w l =
        let next : IsNextItem (stubs_of z) x.history (unanswered x) (last_place [] a.items l.item) = subst (λ b. IsNextItem (stubs_of z) x.history (unanswered x) (place_after [] b l.item)) a.one l.noted.next in
        none_loaded (stubs_of z) x.history (unanswered x) a.items l.item l.key c a.all_there has l.tag next.settled.demand

    now_waits : (w : WorldView) → WaitsNow z x c w → Now w
    now_waits w l = subst Now (sym l.now)
        (let offers = offers_by Asked l.asks.reaches.uses.let_in.phase refl in
        let new : Seat = record s { phase = Blocked } in
        let passes = l.asks.reaches.uses.let_in.passes in
        inl (goes_on x.history (noted x.run.boots l.asks.item) x.running (slice_set x.seats (c - 1) new) (a.items ++ l.asks.item ∷ []) (noted_is l.asks.item) a.up
        (there_noted z.iface.facts x.history a.items l.asks.item a.all_there) (held_set new (λ held. absurd (cc held)))
        (turn_waits z.iface z.ask script x.history x.seats c first last is.callers schedule c offers l.asks.reaches.uses.let_in.phase passes new
        (asked z (object_of z.iface.facts x.history) s.call None passes l.none) (ap (λ n. record { done = n; phase = blocked }) (sym (handed_offering s offers))))
        (call_asked l.asks.reaches.uses.let_in.phase passes None (asked z (object_of z.iface.facts x.history) s.call None passes l.none) l.asks.item l.asks.tag
        (ap (λ o. is_outcome_so o true) l.outcome))))

    now_holds : (w : WorldView) → Holds z x c w → Now w
    now_holds w l = subst Now (sym l.now)
        (let offers = offers_by Asked l.asks.reaches.uses.let_in.phase refl in
        let new : Seat = record s { phase = Held; boot = boot_number x; reply = l.reply } in
        let passes = l.asks.reaches.uses.let_in.passes in
        inl (goes_on x.history (noted x.run.boots l.asks.item) (Some (after_item z.iface.facts l.asks.service l.asks.item)) (slice_set x.seats (c - 1) new) (a.items ++ l.asks.item ∷ []) (noted_is l.asks.item) refl
        (there_noted z.iface.facts x.history a.items l.asks.item a.all_there) (held_set new (λ held. ap length a.one))
        (turn_holds z.iface z.ask script x.history x.seats c first last is.callers schedule c offers l.asks.reaches.uses.let_in.phase passes l.reply new
        (asked z (object_of z.iface.facts x.history) s.call (Some l.reply) passes l.answers) l.hidden (ap (λ n. record { done = n; phase = holding l.reply }) (sym (handed_offering s offers))))
        (call_asked l.asks.reaches.uses.let_in.phase passes (Some l.reply) (asked z (object_of z.iface.facts x.history) s.call (Some l.reply) passes l.answers) l.asks.item l.asks.tag
        (replied_so l.asks.item.outcome l.outcome))))

    -- ---- a commit

    module _ (w : WorldView) (l : Commits z x c w) where
      at_asked : s.phase ≡ Asked
      at_asked = l.asks.reaches.uses.let_in.phase

      offering : is_offered s.phase ≡ true
      offering = offers_by Asked at_asked refl

      passing : guard z.iface (object_of z.iface.facts x.history) s.call ≡ None
      passing = l.asks.reaches.uses.let_in.passes

      answering : z.ask (object_of z.iface.facts x.history) s.call ≡ Some l.reply
      answering = asked z (object_of z.iface.facts x.history) s.call (Some l.reply) passing l.answers

      abbrev new_seat : Seat
      new_seat = behind l.reply Receipted l.reply

      turn_is_commit : its_turn ≡ with_these (x.history ++ entry_by l.reply ∷ []) (slice_set (woken l.reply) (c - 1) new_seat)
      turn_is_commit =
          let same : s.call.seq - 1 ≡ handed (seat_in (woken l.reply) c) = ap (λ n. n - 1) (number offering) ∙ minus s.seq ∙ sym (handed_then l.reply ∙ handed_offering s offering) in
          turn_commits z.iface z.ask script x.history x.seats c first last is.callers schedule c offering at_asked passing l.reply new_seat answering l.visible (ap (λ n. record { done = n; phase = replied }) same)
        where
          minus : (n : ℕ) → (n + 1) - 1 ≡ n
          minus n = omega arith

      history_then : x.history ++ entry_by l.reply ∷ [] ≡ (stage_after z.iface z.ask script (suc a.turns)).history
      history_then = ap (λ (t : Stage Entry). t.history) (sym turn_is_commit ∙ turned_on)

      history_now : w.history ≡ x.history ++ entry_by l.reply ∷ []
      history_now = ap (λ (y : WorldView). y.history) l.now

      boots_now : w.run.boots ≡ record { items = a.items ++ l.asks.item ∷ []; stop = None } ∷ []
      boots_now = ap (λ (y : WorldView). y.run.boots) l.now ∙ noted_is l.asks.item

      -- all is there after it, where each entry has its item
      there_then : Each (HasItem z.iface.facts w.history w.run) w.history → IsAllThere z.iface.facts (x.history ++ entry_by l.reply ∷ []) (a.items ++ l.asks.item ∷ [])
      there_then served =
          there_committed (stubs_of z) x.history a.items a.all_there has s.call l.reply l.asks.item next_id
          (l.asks.tag ∙ ap (λ n. Client n s.call.seq) (sym (its offering))) l.asks.shown l.outcome new_number (unanswered w)
          (subst (λ b. IsNextItem (stubs_of z) (x.history ++ entry_by l.reply ∷ []) (unanswered w) (place_after [] b l.asks.item)) a.one l.noted.next) w.run.points
          (subst (λ h. Each (HasItem z.iface.facts h (one_boot (a.items ++ l.asks.item ∷ []) w.run.points)) h) history_now
          (subst (λ (r : Run). Each (HasItem z.iface.facts w.history r) w.history) (ap (λ b. record { boots = b; points = w.run.points }) boots_now) served))
        where
          next_id : (good : Good) → l.reply ≡ Ok good → (fun_at z.iface.facts.funs s.call.fun).creation ≡ true → 1 ≤ good.desc
          next_id good ok makes = omega (arith, so.set.law.keeps.next (object_of z.iface.facts x.history) s.call good (answering ∙ ap (λ r. Some r) ok) makes)

          new_number : NoneHas s.call.client s.call.seq x.history
          new_number = subst (λ n. NoneHas n s.call.seq x.history) (sym (its offering)) (subst (λ n. NoneHas c n x.history) (sym (counted offering))
              (next_is_new z.iface.facts x.history c (script_calls script c) (is.callers.each c first last).made))

      asked_then : AreAsked (a.items ++ l.asks.item ∷ [])
      asked_then = call_asked at_asked passing (Some l.reply) answering l.asks.item l.asks.tag (replied_so l.asks.item.outcome l.outcome)

      now_commits : Each (HasItem z.iface.facts w.history w.run) w.history → Now w
      now_commits served =
          inl (subst (λ (y : WorldView). NeverStopped z script y.history w.run.boots y.running y.seats (stage_of script y later c)) (sym l.now)
          (subst (λ k. NeverStopped z script (x.history ++ entry_by l.reply ∷ []) w.run.boots (Some (after_item z.iface.facts l.asks.service l.asks.item)) k (with_these (x.history ++ entry_by l.reply ∷ []) k)) (sym (given_seats l.reply offering))
          (goes_on (x.history ++ entry_by l.reply ∷ []) w.run.boots (Some (after_item z.iface.facts l.asks.service l.asks.item)) (slice_set (woken l.reply) (c - 1) new_seat) (a.items ++ l.asks.item ∷ []) boots_now refl
          (there_then served) (held_entered l.reply new_seat (λ held. absurd (cc held))) turn_is_commit asked_then)))

      -- or the service stops after it
      stops_after : (stop : ℕ) → IsPastStop z script w.history (struck w.run.boots stop) None
      stops_after stop =
          stops_first z script w.history (struck w.run.boots stop) (a.items ++ l.asks.item ∷ []) stop (suc a.turns) (ap (λ b. struck b stop) boots_now) (history_now ∙ history_then) (suc a.turns) asked_then.0

    now_stepped : (did : Did) (w : WorldView) → Steps z x c did w → (did ≡ Served → Each (HasItem z.iface.facts w.history w.run) w.history) → Now w
    now_stepped Skipped w l served = now_skips w l
    now_stepped (Answered reply) w (inl l) served = now_hands_over reply w l
    now_stepped (Answered reply) w (inr (inl l)) served = now_returns reply w l
    now_stepped (Answered reply) w (inr (inr l)) served = now_refuses reply w l
    now_stepped Lost w l served = now_loses w l
    now_stepped Booted w l served = absurd (down_never l.failed)
    now_stepped Struck w (inl l) served = now_stops (asked_after x.run.points 1) w l.now
    now_stepped Struck w (inr (inl l)) served = absurd (now_stops_replay w l)
    now_stepped Struck w (inr (inr (inl l))) served = now_stops_within w l
    now_stepped Struck w (inr (inr (inr l))) served = subst Now (sym l.now) (inr (stops_after l.between l.commits (asked_after l.between.run.points 1)))
    now_stepped Replayed w l served = absurd (now_replays w l)
    now_stepped Loaded w l served = absurd (now_loads w l)
    now_stepped Waits w l served = now_waits w l
    now_stepped Served w (inl l) served = subst Now (sym l.now) (now_commits l.between l.commits (subst (λ (y : WorldView). Each (HasItem z.iface.facts y.history y.run) y.history) l.now (served refl)))
    now_stepped Served w (inr l) served = now_holds w l

    -- the play follows on
    pub follow_stepped : (did : Did) (w : WorldView) → Steps z x c did w → (did ≡ Served → Each (HasItem z.iface.facts w.history w.run) w.history) → IsFollowing z script w later c
    follow_stepped did w l served = record { hold = hold_stepped did w l; follows = now_stepped did w l served }

  -- so it does where the service stopped before
  pub follow_stopped : (b : IsPastStop z script x.history x.run.boots x.running) (did : Did) (w : WorldView) → Steps z x c did w → IsFollowing z script w later c
  follow_stopped b did w l = record { hold = hold_stepped did w l; follows = inr (then_stepped b did w l) }

  -- where a reply is handed over, the client has no call under way
  pub idle_stepped : (reply : Reply) (w : WorldView) → Steps z x c (Answered reply) w → (seat_of w c).phase ≡ Idle
  idle_stepped reply w (inl l) =
      ap (λ (y : WorldView). (seat_of y c).phase) l.now ∙ ap (λ (k : Seat). k.phase) (seat_here x.seats c (record s { phase = Idle; reply = no_reply }) first last)
  idle_stepped reply w (inr (inl l)) = ap (λ (y : WorldView). (seat_of y c).phase) l.now ∙ answered_idle reply (offers_by Held l.phase refl)
  idle_stepped reply w (inr (inr l)) = ap (λ (y : WorldView). (seat_of y c).phase) l.now ∙ answered_idle reply (offers_by Asked l.phase refl)

  -- there are as many clients as before
  pub clients_stepped : (reply : Reply) (w : WorldView) → Steps z x c (Answered reply) w → length w.seats ≡ length x.seats
  clients_stepped reply w (inl l) = ap (λ (y : WorldView). length y.seats) l.now ∙ length_set x.seats (c - 1) (record s { phase = Idle; reply = no_reply })
  clients_stepped reply w (inr (inl l)) = ap (λ (y : WorldView). length y.seats) l.now ∙ answered_clients reply (offers_by Held l.phase refl)
  clients_stepped reply w (inr (inr l)) = ap (λ (y : WorldView). length y.seats) l.now ∙ answered_clients reply (offers_by Asked l.phase refl)
