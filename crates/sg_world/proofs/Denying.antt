-- A world keeps what it keeps where the guard refuses a call, whose refusal is committed and told at once.
use Rattle.std.proofs.Common.{Bool, List, None, Option, Some, [], ap, arith, false, flat_map, if◌then◌else◌, inl, inr, length, map, refl, slice_get, slice_set, subst, sym, true, ℕ, ◌&&◌, ◌++◌, ◌+◌, ◌-◌, ◌<◌, ◌==◌, ◌^◌, ◌∙◌, ◌∷◌, ◌≡◌, ◌≤◌, ◌⊎◌}
use Rattle.std.specs.List.{Contains}
use Rattle.sg_facts.specs.sg_base.declared.call.Call.{Call}
use Rattle.sg_facts.specs.sg_base.declared.reply.Code.{Code}
use Rattle.sg_facts.specs.sg_base.declared.reply.Reply.TheVariants.{Refused}
use Rattle.sg_world.specs.Engines.Stubs.{stub_of}
use Rattle.sg_facts.specs.Guard.{guard}
use Rattle.sg_facts.specs.Inside.Rows.{refused_or}
use Rattle.sg_facts.specs.Object.{Object, empty_object, file_at, object_of}
use Rattle.sg_facts.specs.Trace.{Boot}
use Rattle.sg_facts.specs.declared.entry.Entry.{Entry}
use Rattle.sg_world_laws.specs.sg_recovery_laws.Objects.Waiting.{NoneBy}
use Rattle.sg_replay.specs.Engined.{Engined}
use Rattle.sg_clients.specs.WorldView.{Seat, WorldView, answered_to, committed, held_in, held_replies, is_blocked_phase, is_held_in, is_held_phase, is_offered, no_reply, offered_by, seat_of, unanswered, wakes_seat, woken_seat}
use Rattle.sg_clients.specs.declared.mark.Mark.{Mark}
use Rattle.sg_clients.specs.declared.mark.MarkKind.TheVariants.{Answer, Entry as IsEntered}
use Rattle.sg_clients.specs.declared.phase.Phase.TheVariants.{Asked, Idle}
use Rattle.sg_world.proofs.Entering.{answered_told, entered_rooms, entered_some}
use Rattle.sg_world.proofs.Returning.{view_answered}
use Rattle.sg_world.proofs.Upright.{Upright, keeps_upright}
use Rattle.sg_world.proofs.Wakes.{woken_none}
use Rattle.sg_world.specs.Marked.{TellsAll}
use Rattle.sg_world.specs.Worlded.{HaveRooms, IsWorld, Rooms, StoresObject}
use Rattle.sg_world_laws.proofs.Drawn.{object_after}
use Rattle.sg_world_laws.proofs.Entered.{seats_entered}
use Rattle.sg_world_laws.proofs.LetIn.{none_held_by}
use Rattle.sg_world_laws.proofs.Moves.{its_seat}
use Rattle.sg_world_laws.proofs.Lasts.{own_last}
use Rattle.sg_world_laws.proofs.Refusing.{refused}
use Rattle.sg_world_laws.proofs.Seating.{HasSeat, has_seat, held_at, one_is, seat_is, still_offered}
use Rattle.sg_world_laws.proofs.Turns.{seat_there}
use Rattle.sg_world_laws.specs.Keeping.{KeepsPromise, Stub, standing}
use Rattle.sg_world_laws.specs.Seats.{HaveSeats, IsSeated}
use Rattle.sg_world_laws.specs.Setting.{IsSetting, Setting}

module _ (z : Setting) (set : IsSetting z) (w : WorldView) (b : Boot) (boots : List Boot) (running : Option Object) (stub : Stub) (k : KeepsPromise z (standing w b boots running) stub)
    (front back : List Seat) (st : Seat) (is : w.seats ≡ front ++ st ∷ back) (asked : st.phase ≡ Asked) (fits : st.call.seq < 2 ^ 32) (code : Code) (refuses : guard z.iface (object_of z.iface.facts w.history) st.call ≡ Some code) (marks : List Mark) where
  abbrev n : ℕ
  n = length (b ∷ boots)

  abbrev p : Entry
  p = record { call = st.call; reply = Refused code }

  abbrev idle : Seat
  idle = record st { phase = Idle; seq = st.call.seq; reply = no_reply }

  abbrev later : WorldView
  later = record (standing w b boots running) { history = w.history ++ p ∷ []; seats = front ++ idle ∷ back; marks = marks }

  have : HaveSeats z w.history w.withdrawn (length (b ∷ boots)) (front ++ st ∷ back)
  have = subst (HaveSeats z w.history w.withdrawn n) is k.seats

  seated : IsSeated z w.history (length front + 1) st
  seated = seat_is z w.history w.withdrawn n front back st have

  offers : is_offered st.phase ≡ true
  offers = ap is_offered asked

  holds_none : is_held_in (length (b ∷ boots)) st ≡ false
  holds_none = ap (λ q. is_held_phase q && (st.boot == n)) asked

  none : NoneBy st.call.client (held_replies (standing w b boots running))
  none = subst (λ c. NoneBy c (held_replies (standing w b boots running))) (sym (seated.its offers)) (by running)
    where
      by : (r : Option Object) → NoneBy (length front + 1) (held_replies (standing w b boots r))
      by None = tt
      by (Some v) = subst (λ l. NoneBy (length front + 1) (held_in n l)) (sym is) (none_held_by z w.history w.withdrawn n front back st have.each holds_none)

  held_same : held_replies (record (standing w b boots running) { history = w.history ++ p ∷ []; seats = front ++ idle ∷ back; marks = marks }) ≡ held_replies (standing w b boots running)
  held_same = by running
    where
      by : (r : Option Object) → held_replies (record (standing w b boots r) { history = w.history ++ p ∷ []; seats = front ++ idle ∷ back; marks = marks }) ≡ held_replies (standing w b boots r)
      by None = refl
      by (Some v) = held_at n front back idle ∙ sym (ap (held_in n) is ∙ held_at n front back st ∙ ap (λ q. held_in n front ++ ((if q then record { call = st.call; reply = st.reply } ∷ [] else []) ++ held_in n back)) holds_none)

  seats_now : HaveSeats z (w.history ++ (record { call = st.call; reply = Refused code }) ∷ []) w.withdrawn (length (b ∷ boots)) (front ++ record st { phase = Idle; seq = st.call.seq; reply = no_reply } ∷ back)
  seats_now =
      subst (λ l. HaveSeats z (w.history ++ p ∷ []) w.withdrawn n (l ++ idle ∷ back)) (woken_none front)
      (subst (λ l. HaveSeats z (w.history ++ p ∷ []) w.withdrawn n (map (woken_seat (λ c. false)) front ++ idle ∷ l)) (woken_none back)
      (seats_entered z set w.history w.withdrawn n front back st have k.object p (seated.its offers) (seated.next offers) fits refl
      (ap (λ g. refused_or g (z.ask (object_of z.iface.facts w.history) st.call)) refuses) (seated.may offers) Idle no_reply tt))

  -- a call that isn't answered stays so, but for its own
  kept : (x : Call) → Contains (unanswered (standing w b boots running)) x → (x ≡ st.call) ⊎ Contains (unanswered (record (standing w b boots running) { history = w.history ++ p ∷ []; seats = front ++ idle ∷ back; marks = marks })) x
  kept x has =
      elim (still_offered front back st idle (map (λ y. y.call) w.withdrawn) (map (λ y. y.call) w.withdrawn) x (λ y is. is) (subst (λ l. Contains (flat_map offered_by l ++ map (λ y. y.call) w.withdrawn) x) is has)) [
        | inl mine ↦ inl (one_is st.call x (subst (λ q. Contains (if q then st.call ∷ [] else []) x) offers mine))
        | inr rest ↦ inr rest
      ]

  pub keeps_denied : KeepsPromise z (record (standing w b boots running) {
    history = w.history ++ (record { call = st.call; reply = Refused code }) ∷ [];
    seats = front ++ record st { phase = Idle; seq = st.call.seq; reply = no_reply } ∷ back;
    marks = marks;
  }) stub
  keeps_denied = refused z set w b boots running stub k st.call code refuses (seated.may offers) none (own_last z (standing w b boots running) n k.seats front back st is offers) later refl refl refl held_same seats_now kept

-- ---- a world

module _ (z : Setting) (e : Engined) (w : WorldView) (rooms : Rooms) (is : IsWorld z e w rooms) (client : ℕ) (first : 1 ≤ client) (last : client ≤ length w.seats) (asked : (seat_of w client).phase ≡ Asked)
    (code : Code) (refuses : guard z.iface (object_of z.iface.facts w.history) (seat_of w client).call ≡ Some code) where
  abbrev its_entry : Entry
  its_entry = record { call = (seat_of w client).call; reply = Refused code }

  abbrev its_idle : Seat
  its_idle = record (seat_of w client) { phase = Idle; seq = (seat_of w client).call.seq; reply = no_reply }

  abbrev wakes : Call → Bool
  wakes = wakes_seat z.iface.facts (object_of z.iface.facts w.history).rows (seat_of w client).call (Refused code)

  there : slice_get w.seats (client - 1) ≡ Some (seat_of w client)
  there = seat_there w client first last

  found : HasSeat w.seats (client - 1) (seat_of w client)
  found = has_seat w.seats (client - 1) (seat_of w client) there

  offered : is_offered (seat_of w client).phase ≡ true
  offered = ap is_offered asked

  stays : is_blocked_phase (seat_of w client).phase ≡ false
  stays = ap is_blocked_phase asked

  own : (seat_of w client).call.client ≡ client
  own = (its_seat z w (stub_of e) is.keeps client (seat_of w client) there first (seat_of w client) w.withdrawn w.marks w.events w.refused).its offered

  pub denial_rooms : (1 ≤ rooms.entries) × (3 ≤ rooms.marks)
  denial_rooms = entered_some w.seats rooms is.rooms_are (client - 1) (seat_of w client) there offered

  -- what stands after the refusal
  module _ (later : Rooms) (fits : (seat_of w client).call.seq < 2 ^ 32) (history : List Entry) (history_is : history ≡ w.history ++ (record { call = (seat_of w client).call; reply = Refused code }) ∷ [])
      (seats : List Seat) (set : seats ≡ slice_set w.seats (client - 1) (record (seat_of w client) { phase = Idle; seq = (seat_of w client).call.seq; reply = no_reply }))
      (marks : List Mark) (marks_are : marks ≡ (w.marks ++ record { client = client; kind = IsEntered } ∷ []) ++ record { client = client; kind = Answer } ∷ []) where
    -- nobody is woken
    seats_are : seats ≡ slice_set (map (woken_seat (wakes_seat z.iface.facts (object_of z.iface.facts w.history).rows (seat_of w client).call (Refused code))) w.seats) (client - 1)
        (record (seat_of w client) { phase = Idle; seq = (seat_of w client).call.seq; reply = no_reply })
    seats_are = set ∙ ap (λ l. slice_set l (client - 1) its_idle) (sym (woken_none w.seats))

    pub denied_view : record w { history = history; seats = seats; marks = marks }
        ≡ answered_to (committed z.iface.facts w (record { call = (seat_of w client).call; reply = Refused code })) (record { call = (seat_of w client).call; reply = Refused code })
    denied_view = view_answered z.iface.facts w client (seat_of w client) there stays its_entry own w.run w.running history seats marks refl refl history_is seats_are marks_are

    keeps_now : KeepsPromise z (record w { history = history; seats = seats; marks = marks }) (stub_of e)
    keeps_now =
        let u : Upright w w.running = keeps_upright z w (stub_of e) is.keeps w.running refl in
        subst (λ h. KeepsPromise z (record w { history = h; seats = seats; marks = marks }) (stub_of e)) (sym history_is)
        (subst (λ l. KeepsPromise z (record w { history = w.history ++ its_entry ∷ []; seats = l; marks = marks }) (stub_of e)) (sym (set ∙ found.set its_idle))
        (subst (λ x. KeepsPromise z (record x { history = w.history ++ its_entry ∷ []; seats = found.front ++ its_idle ∷ found.back; marks = marks }) (stub_of e)) (sym u.is)
        (keeps_denied z is.set w u.first u.others w.running (stub_of e) (subst (λ x. KeepsPromise z x (stub_of e)) u.is is.keeps) found.front found.back (seat_of w client) found.is asked fits code refuses marks)))

    -- the object stays
    stores_now : StoresObject z.iface.facts e (w.history ++ (record { call = (seat_of w client).call; reply = Refused code }) ∷ [])
    stores_now = record {
      rows = is.tracked.rows ∙ ap (λ o. o.rows) (sym same);
      given = is.tracked.given ∙ ap (λ o. o.given) (sym same);
      files = λ path. is.tracked.files path ∙ ap (λ o. file_at o.files path) (sym same);
    }
      where
        same : object_of z.iface.facts (w.history ++ (record { call = (seat_of w client).call; reply = Refused code }) ∷ []) ≡ object_of z.iface.facts w.history
        same = object_after z.iface.facts empty_object w.history (its_entry ∷ [])

    pub denied_on : rooms.entries ≤ later.entries + 1 → rooms.withdrawals ≤ later.withdrawals → rooms.marks ≤ later.marks + 2 → IsWorld z e (record w { history = history; seats = seats; marks = marks }) later
    denied_on entries withdrawals left_marks = record {
      set = is.set;
      keeps = keeps_now;
      tracked = subst (StoresObject z.iface.facts e) (sym history_is) stores_now;
      rooms_are = subst (λ l. HaveRooms l later) (sym seats_are)
          (entered_rooms w.seats rooms later is.rooms_are (client - 1) (seat_of w client) there offered stays wakes its_idle refl entries withdrawals (omega (arith, left_marks)));
      marked = subst (λ h. TellsAll (record w { history = h; seats = seats; marks = marks })) (sym history_is)
          (subst (λ l. TellsAll (record w { history = w.history ++ its_entry ∷ []; seats = l; marks = marks })) (sym seats_are)
          (subst (λ m. TellsAll (record w { history = w.history ++ its_entry ∷ []; seats = slice_set (map (woken_seat wakes) w.seats) (client - 1) its_idle; marks = m })) (sym marks_are)
          (answered_told w is.marked client (seat_of w client) there first stays wakes its_entry own its_idle refl w.events w.refused)));
    }
