-- A world keeps what it keeps where a held reply is committed and handed over.
use Rattle.std.proofs.Common.{Bool, List, None, Option, Some, [], ap, arith, cond, false, flat_map, if◌then◌else◌, inl, inr, length, map, not, refl, slice_get, slice_set, subst, sym, true, ℕ, ◌&&◌, ◌++◌, ◌+◌, ◌-◌, ◌<◌, ◌==◌, ◌^◌, ◌∙◌, ◌∷◌, ◌≡◌, ◌≤◌, ◌⊎◌, unwrap_or}
use Rattle.std.proofs.Math.Path.{fun_ext}
use Rattle.std.specs.List.{Contains}
use Rattle.std.specs.Prelude.{◌||◌, IsSome}
use Rattle.sg_facts.specs.sg_base.declared.call.Call.{Call}
use Rattle.sg_facts.specs.sg_base.declared.reply.Reply.{Reply}
use Rattle.sg_facts.specs.sg_base.declared.reply.Reply.TheVariants.{Ok, Refused}
use Rattle.sg_world.specs.Engines.Stubs.{stub_of, told_of}
use Rattle.sg_facts.specs.Alike.{named}
use Rattle.sg_facts.specs.Facts.{Facts, fun_at}
use Rattle.sg_facts.specs.Legal.{Table}
use Rattle.sg_facts.specs.Object.{Object, after, object_of, patch_of}
use Rattle.sg_facts.specs.Sound.{AreRows, IsRow}
use Rattle.sg_facts.specs.Trace.{Boot, Run}
use Rattle.sg_facts.specs.Track.{is_live, rows_after}
use Rattle.sg_facts.specs.Inside.Rows.{track, given_after}
use Rattle.sg_facts.specs.declared.entry.Entry.{Entry}
use Rattle.sg_facts.specs.declared.outcome.Patch.{Patch}
use Rattle.sg_facts.specs.declared.row.Row.{Row}
use Rattle.sg_replay.specs.sg_name.Names.{named_at}
use Rattle.sg_replay.specs.sg_name.declared.named.Named.{Named}
use Rattle.sg_replay.specs.sg_name.declared.named.Named.TheVariants.{Unnamed}
use Rattle.sg_world_laws.proofs.sg_recovery_laws.Objects.Steady.{after_good}
use Rattle.sg_world_laws.proofs.sg_recovery_laws.Objects.Waiting.{hidden_is}
use Rattle.sg_world_laws.specs.sg_recovery_laws.Objects.Serving.{IsAnsweredAt, IsLegalObject, IsService}
use Rattle.sg_world_laws.specs.sg_recovery_laws.Objects.Waiting.{AreWaiting, IsWaiting}
use Rattle.sg_replay.proofs.Naming.{named_in_pairs, real_or_zero}
use Rattle.sg_replay.specs.Committing.{MayCommitAt, is_written, name_left}
use Rattle.sg_replay.specs.Engined.{Engined}
use Rattle.sg_replay.specs.Present.{is_present}
use Rattle.sg_clients.specs.WorldView.{Seat, WorldView, held_in, is_held_in, is_held_phase, is_offered, no_reply, offered_by, unanswered, wakes_seat, woken_seat, answered_to, boot_number, committed, is_blocked_phase, no_seat, seat_in, seat_of}
use Rattle.sg_clients.specs.declared.phase.Phase.TheVariants.{Held, Idle}
use Rattle.sg_replay.proofs.sg_track.Premises.{may_track}
use Rattle.sg_replay.specs.sg_track.Tracked.{MayTrack, Tracked}
use Rattle.sg_facts.proofs.Replaying.Found.{same_test}
use Rattle.sg_facts.specs.sg_base.Lists.{Each}
use Rattle.sg_world_laws.specs.sg_recovery_laws.Midway.Progress.{IsNone}
use Rattle.sg_clients.specs.declared.mark.Mark.{Mark}
use Rattle.sg_clients.specs.declared.mark.MarkKind.TheVariants.{Answer, Entry as IsEntered}
use Rattle.sg_replay.specs.sg_store.Spans.{patched_at}
use Rattle.sg_replay.specs.sg_store.Stored.{bytes_of}
use Rattle.sg_world.proofs.Entering.{answered_told, entered_rooms, entered_some}
use Rattle.sg_world.proofs.Moving.{answered_seats}
use Rattle.sg_world.proofs.Storing.{stored_on}
use Rattle.sg_world.proofs.Upright.{Upright, keeps_upright}
use Rattle.sg_world.proofs.Waiting.{each_set, wait_on_live}
use Rattle.sg_world.specs.Inside.Waiting.{WaitOnLive}
use Rattle.sg_world.specs.Marked.{TellsAll}
use Rattle.sg_world.specs.Worlded.{HaveRooms, IsWorld, Rooms, StoresObject}
use Rattle.sg_world_laws.proofs.Moves.{its_seat}
use Rattle.sg_world_laws.proofs.Seating.{HasSeat, has_seat, woken_at, held_at, offered_at, one_is, seat_is, still_offered}
use Rattle.sg_world_laws.proofs.Turns.{seat_there}
use Rattle.sg_world_laws.proofs.Drawn.{waiting_one}
use Rattle.sg_world_laws.proofs.Entered.{seats_entered}
use Rattle.sg_world_laws.proofs.Returned.{answer_held, returned}
use Rattle.sg_world_laws.proofs.Woken.{held_woken, offered_woken}
use Rattle.sg_world_laws.specs.Keeping.{KeepsPromise, standing}
use Rattle.sg_world_laws.specs.Seats.{HaveSeats, IsSeated}
use Rattle.sg_world_laws.specs.Setting.{IsSetting, Setting}

-- an answered call that makes nothing may be tracked without room for a row
may_track_none : (facts : Facts) (ask : Table) (sound : Object → Type 0) → IsService facts ask sound → (o : Object) (call : Call) (reply : Reply) → IsLegalObject facts sound o → IsAnsweredAt facts ask o call reply
    → (fun_at facts.funs call.fun).creation ≡ false → (t : Tracked) → t.rows ≡ o.rows → MayTrack facts t call reply
may_track_none facts ask sound law o call (Refused code) ok is none t rows = tt
may_track_none facts ask sound law o call (Ok good) ok is none t rows =
    let later = law.keeps.general (after facts o call (Ok good)) (after_good facts ask sound law o call (Ok good) ok is).is_sound in
    may_track facts t call good (after facts o call (Ok good)).given (after facts o call (Ok good)).rows law.shape.shape
    (subst (λ rs. AreRows (IsRow facts (after facts o call (Ok good)).rows) 0 (after facts o call (Ok good)).given (rows_after facts rs call good)) (sym rows) later.rows)
    (λ makes. absurd (let wrong : true ≡ false = sym makes ∙ none in cc wrong))

-- a held reply may be committed, and writes nothing
module _ (facts : Facts) (ask : Table) (sound : Object → Type 0) (law : IsService facts ask sound) (o : Object) (ok : IsLegalObject facts sound o) (p : Entry) (waits : IsWaiting facts ask o p) (e : Engined) (rows : e.tracked.rows ≡ o.rows) where
  pub may_commit_held : MayCommitAt facts e p.call p.reply None
  may_commit_held = record {
    tracks = may_track_none facts ask sound law o p.call p.reply ok waits.answered (hidden_is facts p.call.fun waits.hidden).makes e.tracked rows;
    stores = record {
      visible = λ visible. absurd (let wrong : true ≡ false = sym visible ∙ waits.hidden in cc wrong);
      hidden = λ hidden. refl;
    };
    marked = tt;
  }

  pub held_writes_none : (let none : Option Patch = None in none) ≡ patch_of facts o p.call p.reply
  held_writes_none = by p.reply
    where
      by : (r : Reply) → (let none : Option Patch = None in none) ≡ patch_of facts o p.call r
      by (Refused code) = refl
      by (Ok g) = let none = (hidden_is facts p.call.fun waits.hidden).no_file in rw (none) refl

-- ---- names

-- what stands for ids after a commit
module _ (before after : List Row) (old new : Named) (id : ℕ) (is : new ≡ name_left before after id old) where
  name_kept : is_live after id ≡ true → new ≡ old
  name_kept live = is ∙ at (is_live before id) (is_live after id) live
    where
      at : (a b : Bool) → b ≡ true → cond (a && not b) Unnamed old ≡ old
      at true true live = refl
      at false true live = refl
      at a false live = absurd (cc live)

  name_fewer : (new ≡ old) ⊎ (new ≡ Unnamed)
  name_fewer = at (is_live before id && not (is_live after id)) refl
    where
      at : (q : Bool) → (is_live before id && not (is_live after id)) ≡ q → (new ≡ old) ⊎ (new ≡ Unnamed)
      at true q = inr (is ∙ ap (λ t. cond t Unnamed old) q)
      at false q = inl (is ∙ ap (λ t. cond t Unnamed old) q)

  name_live : (real_or_zero old ≡ 0) ⊎ (is_live before id ≡ true) → (real_or_zero new ≡ 0) ⊎ (is_live after id ≡ true)
  name_live was = at (is_live after id) refl
    where
      kept : real_or_zero old ≡ 0 → (new ≡ old) ⊎ (new ≡ Unnamed) → real_or_zero new ≡ 0
      kept none (inl same) = ap real_or_zero same ∙ none
      kept none (inr gone) = ap real_or_zero gone

      at : (q : Bool) → is_live after id ≡ q → (real_or_zero new ≡ 0) ⊎ (is_live after id ≡ true)
      at true live = inr live
      at false dead = elim was [
        | inl none ↦ inl (kept none name_fewer)
        | inr live ↦ inl (ap real_or_zero (is ∙ ap (λ t. cond (t && not (is_live after id)) Unnamed old) live ∙ ap (λ t. cond (not t) Unnamed old) dead))
      ]

-- ---- what the world keeps

module _ (z : Setting) (set : IsSetting z) (w : WorldView) (b : Boot) (boots : List Boot) (v : Object) (e : Engined) (k : KeepsPromise z (standing w b boots (Some v)) (stub_of e))
    (front back : List Seat) (st : Seat) (is : w.seats ≡ front ++ st ∷ back) (held : st.phase ≡ Held) (boot : st.boot ≡ length (b ∷ boots)) where
  abbrev n : ℕ
  n = length (b ∷ boots)

  abbrev facts : Facts
  facts = z.iface.facts

  abbrev o : Object
  o = object_of z.iface.facts w.history

  abbrev p : Entry
  p = record { call = st.call; reply = st.reply }

  abbrev test : Call → Bool
  test = wakes_seat z.iface.facts (object_of z.iface.facts w.history).rows st.call st.reply

  have : HaveSeats z w.history w.withdrawn (length (b ∷ boots)) (front ++ st ∷ back)
  have = subst (HaveSeats z w.history w.withdrawn n) is k.seats

  seated : IsSeated z w.history (length front + 1) st
  seated = seat_is z w.history w.withdrawn n front back st have

  offers : is_offered st.phase ≡ true
  offers = ap is_offered held

  -- the reply stands among those that are held
  held_now : held_in (length (b ∷ boots)) w.seats ≡ held_in (length (b ∷ boots)) front ++ (record { call = st.call; reply = st.reply }) ∷ held_in (length (b ∷ boots)) back
  held_now = ap (held_in n) is ∙ held_at n front back st ∙ ap (λ q. held_in n front ++ ((if q then p ∷ [] else []) ++ held_in n back)) holds
    where
      holds : is_held_in (length (b ∷ boots)) st ≡ true
      holds = ap (λ q. is_held_phase q && (st.boot == n)) held ∙ same_test st.boot n boot

  pub waits_held : IsWaiting z.iface.facts z.ask (object_of z.iface.facts w.history) (record { call = st.call; reply = st.reply })
  waits_held = waiting_one facts z.ask o (held_in n front) (held_in n back) p (subst (AreWaiting facts z.ask o) held_now k.waiting)

  module _ (new : Engined) (fits : st.call.seq < 2 ^ 32) (was : e.tracked.rows ≡ (object_of z.iface.facts w.history).rows) (rows : new.tracked.rows ≡ track z.iface.facts e.tracked.rows st.call st.reply)
      (names : (id : ℕ) → named_at new.names.known id ≡ name_left e.tracked.rows new.tracked.rows id (named_at e.names.known id))
      (present : (path : List ℕ) → is_present new.present path ≡ (is_present e.present path || is_written None path))
      (w' : WorldView) (history : w'.history ≡ w.history ++ (record { call = st.call; reply = st.reply }) ∷ []) (run : w'.run ≡ record { boots = b ∷ boots; points = w.run.points }) (running : w'.running ≡ Some v)
      (withdrawn : w'.withdrawn ≡ w.withdrawn)
      (seats : w'.seats ≡ map (woken_seat (wakes_seat z.iface.facts (object_of z.iface.facts w.history).rows st.call st.reply)) front ++ record st { phase = Idle; seq = st.call.seq; reply = no_reply }
      ∷ map (woken_seat (wakes_seat z.iface.facts (object_of z.iface.facts w.history).rows st.call st.reply)) back) where
    abbrev idle : Seat
    idle = record st { phase = Idle; seq = st.call.seq; reply = no_reply }

    abbrev o1 : Object
    o1 = after z.iface.facts (object_of z.iface.facts w.history) st.call st.reply

    left : held_in (length (b ∷ boots)) w'.seats ≡ held_in (length (b ∷ boots)) front ++ held_in (length (b ∷ boots)) back
    left =
        ap (held_in n) seats ∙ held_at n (map (woken_seat test) front) (map (woken_seat test) back) idle
        ∙ ap (λ l. l ++ held_in n (map (woken_seat test) back)) (held_woken n test front) ∙ ap (λ l. held_in n front ++ l) (held_woken n test back)

    seats_now : HaveSeats z (w.history ++ (record { call = st.call; reply = st.reply }) ∷ []) w'.withdrawn (length (b ∷ boots)) w'.seats
    seats_now =
        subst (λ l. HaveSeats z (w.history ++ p ∷ []) l n w'.seats) (sym withdrawn) (subst (HaveSeats z (w.history ++ p ∷ []) w.withdrawn n) (sym seats)
        (seats_entered z set w.history w.withdrawn n front back st have k.object p (seated.its offers) (seated.next offers) fits refl
        (answer_held z set w b boots v (stub_of e) k (held_in n front) (held_in n back) p held_now) (seated.may offers) Idle no_reply tt))

    offered_now : flat_map offered_by (front ++ idle ∷ back) ≡ flat_map offered_by w'.seats
    offered_now =
        offered_at front back idle ∙ ap (λ l. l ++ (offered_by idle ++ flat_map offered_by back)) (sym (offered_woken test front))
        ∙ ap (λ l. flat_map offered_by (map (woken_seat test) front) ++ (offered_by idle ++ l)) (sym (offered_woken test back))
        ∙ sym (offered_at (map (woken_seat test) front) (map (woken_seat test) back) idle) ∙ ap (flat_map offered_by) (sym seats)

    -- a call that isn't answered stays so, but for its own
    kept : (x : Call) → Contains (unanswered (standing w b boots (Some v))) x → (x ≡ st.call) ⊎ Contains (unanswered w') x
    kept x has =
        elim (still_offered front back st idle (map (λ y. y.call) w.withdrawn) (map (λ y. y.call) w.withdrawn) x (λ y is. is) (subst (λ l. Contains (flat_map offered_by l ++ map (λ y. y.call) w.withdrawn) x) is has)) [
          | inl mine ↦ inl (one_is st.call x (subst (λ q. Contains (if q then st.call ∷ [] else []) x) offers mine))
          | inr rest ↦ inr (subst (λ l. Contains (l ++ map (λ y. y.call) w'.withdrawn) x) offered_now (subst (λ l. Contains (flat_map offered_by (front ++ idle ∷ back) ++ map (λ y. y.call) l) x) (sym withdrawn) rest))
        ]

    rows_now : new.tracked.rows ≡ (after z.iface.facts (object_of z.iface.facts w.history) st.call st.reply).rows
    rows_now = rows ∙ ap (λ l. track facts l st.call st.reply) was

    left_of_names : (id : ℕ) → named_at new.names.known id ≡ name_left (object_of z.iface.facts w.history).rows (after z.iface.facts (object_of z.iface.facts w.history) st.call st.reply).rows id (named_at e.names.known id)
    left_of_names id = names id ∙ ap (λ l. name_left l new.tracked.rows id (named_at e.names.known id)) was ∙ ap (λ l. name_left o.rows l id (named_at e.names.known id)) rows_now

    same_named : (id : ℕ) → named_at new.names.known id ≡ named_at e.names.known id → named (stub_of new).names id ≡ named (stub_of e).names id
    same_named id same = named_in_pairs new.names.known id ∙ ap real_or_zero same ∙ sym (named_in_pairs e.names.known id)

    fewer_named : (id : ℕ) → (named_at new.names.known id ≡ named_at e.names.known id) ⊎ (named_at new.names.known id ≡ Unnamed) → (named (stub_of new).names id ≡ named (stub_of e).names id) ⊎ (named (stub_of new).names id ≡ 0)
    fewer_named id (inl same) = inl (same_named id same)
    fewer_named id (inr gone) = inr (named_in_pairs new.names.known id ∙ ap real_or_zero gone)

    live_before : (id : ℕ) → (real_or_zero (named_at e.names.known id) ≡ 0) ⊎ (is_live (object_of z.iface.facts w.history).rows id ≡ true)
    live_before id = elim (k.stands.named_live id) [ inl none ↦ inl (sym (named_in_pairs e.names.known id) ∙ none) | inr live ↦ inr live ]

    live_named : (id : ℕ) → (named (stub_of new).names id ≡ 0) ⊎ (is_live (after z.iface.facts (object_of z.iface.facts w.history) st.call st.reply).rows id ≡ true)
    live_named id = elim (name_live o.rows o1.rows (named_at e.names.known id) (named_at new.names.known id) id (left_of_names id) (live_before id)) [ inl none ↦ inl (named_in_pairs new.names.known id ∙ none) | inr live ↦ inr live ]

    or_false : (t : Bool) → (t || false) ≡ t
    or_false true = refl
    or_false false = refl

    pub keeps_returned : KeepsPromise z w' (stub_of new)
    keeps_returned =
        returned z set w b boots v (stub_of e) k (held_in n front) (held_in n back) p held_now w' history run running left seats_now kept (stub_of new)
        (λ id live. same_named id (name_kept o.rows o1.rows (named_at e.names.known id) (named_at new.names.known id) id (left_of_names id) live))
        (λ id. fewer_named id (name_fewer o.rows o1.rows (named_at e.names.known id) (named_at new.names.known id) id (left_of_names id)))
        live_named
        (λ id live. ap told_of (name_kept o.rows o1.rows (named_at e.names.known id) (named_at new.names.known id) id (left_of_names id) live))
        (fun_ext (λ path. present path ∙ or_false (is_present e.present path)))

-- ---- a world

some_of : (r : Option Object) → IsSome r → (v : Object) × (r ≡ Some v)
some_of None up = absurd (cc up)
some_of (Some v) up = (v, refl)

-- the view after an entry of a client that doesn't wait, whose reply is handed over at once
module _ (facts : Facts) (w : WorldView) (client : ℕ) (s : Seat) (there : slice_get w.seats (client - 1) ≡ Some s) (stays : is_blocked_phase s.phase ≡ false) (e : Entry) (its : e.call.client ≡ client) where
  abbrev woken : List Seat
  woken = map (woken_seat (wakes_seat facts (object_of facts w.history).rows e.call e.reply)) w.seats

  abbrev answered : ℕ → Seat → WorldView
  answered c x = record w {
    history = w.history ++ e ∷ [];
    seats = slice_set woken (c - 1) (record x { phase = Idle; seq = e.call.seq; reply = no_reply });
    marks = (w.marks ++ record { client = c; kind = IsEntered } ∷ []) ++ record { client = c; kind = Answer } ∷ [];
  }

  pub view_answered : (run : Run) (running : Option Object) (history : List Entry) (seats : List Seat) (marks : List Mark) → run ≡ w.run → running ≡ w.running → history ≡ w.history ++ e ∷ []
      → seats ≡ slice_set (map (woken_seat (wakes_seat facts (object_of facts w.history).rows e.call e.reply)) w.seats) (client - 1) (record s { phase = Idle; seq = e.call.seq; reply = no_reply })
      → marks ≡ (w.marks ++ record { client = client; kind = IsEntered } ∷ []) ++ record { client = client; kind = Answer } ∷ []
      → record w { history = history; run = run; running = running; seats = seats; marks = marks } ≡ answered_to (committed facts w e) e
  view_answered run running history seats marks same_run same_running history_is seats_are marks_are =
      ap (λ r. record w { history = history; run = r; running = running; seats = seats; marks = marks }) same_run
      ∙ ap (λ r. record w { history = history; running = r; seats = seats; marks = marks }) same_running
      ∙ ap (λ h. record w { history = h; seats = seats; marks = marks }) history_is
      ∙ ap (λ l. record w { history = w.history ++ e ∷ []; seats = l; marks = marks }) seats_are
      ∙ ap (λ m. record w { history = w.history ++ e ∷ []; seats = slice_set woken (client - 1) (record s { phase = Idle; seq = e.call.seq; reply = no_reply }); marks = m }) marks_are
      ∙ ap (λ c. answered c s) (sym its) ∙ ap (answered e.call.client) (sym seat)
    where
      seat : seat_in (map (woken_seat (wakes_seat facts (object_of facts w.history).rows e.call e.reply)) w.seats) e.call.client ≡ s
      seat = ap (λ c. seat_in woken c) its
          ∙ ap (λ x. unwrap_or x no_seat) (answered_seats (wakes_seat facts (object_of facts w.history).rows e.call e.reply) w.seats (client - 1) s there stays s stays).1

module _ (z : Setting) (e : Engined) (w : WorldView) (rooms : Rooms) (is : IsWorld z e w rooms) (client : ℕ) (first : 1 ≤ client) (last : client ≤ length w.seats) (held : (seat_of w client).phase ≡ Held)
    (up : IsSome w.running) (boot : (seat_of w client).boot ≡ boot_number w) where
  abbrev its_entry : Entry
  its_entry = record { call = (seat_of w client).call; reply = (seat_of w client).reply }

  abbrev wakes : Call → Bool
  wakes = wakes_seat z.iface.facts (object_of z.iface.facts w.history).rows (seat_of w client).call (seat_of w client).reply

  service : (v : Object) × (w.running ≡ Some v)
  service = some_of w.running up

  upright_now : (v : Object) → w.running ≡ Some v → Upright w (Some v)
  upright_now v is_up = keeps_upright z w (stub_of e) is.keeps (Some v) is_up

  there : slice_get w.seats (client - 1) ≡ Some (seat_of w client)
  there = seat_there w client first last

  found : HasSeat w.seats (client - 1) (seat_of w client)
  found = has_seat w.seats (client - 1) (seat_of w client) there

  offered : is_offered (seat_of w client).phase ≡ true
  offered = ap is_offered held

  stays : is_blocked_phase (seat_of w client).phase ≡ false
  stays = ap is_blocked_phase held

  own : (seat_of w client).call.client ≡ client
  own = (its_seat z w (stub_of e) is.keeps client (seat_of w client) there first (seat_of w client) w.withdrawn w.marks w.events w.refused).its offered

  waiting : IsWaiting z.iface.facts z.ask (object_of z.iface.facts w.history) (record { call = (seat_of w client).call; reply = (seat_of w client).reply })
  waiting = at service.0 service.1
    where
      at : (v : Object) → w.running ≡ Some v → IsWaiting z.iface.facts z.ask (object_of z.iface.facts w.history) (record { call = (seat_of w client).call; reply = (seat_of w client).reply })
      at v is_up =
          let u = upright_now v is_up in
          waits_held z is.set w u.first u.others v e (subst (λ x. KeepsPromise z x (stub_of e)) u.is is.keeps) found.front found.back (seat_of w client) found.is held (boot ∙ ap length u.boots)

  pub may_return : MayCommitAt z.iface.facts e (seat_of w client).call (seat_of w client).reply None
  may_return = may_commit_held z.iface.facts z.ask z.sound is.set.law (object_of z.iface.facts w.history) is.keeps.object.good its_entry waiting e is.tracked.rows

  pub has_rooms : (1 ≤ rooms.entries) × (3 ≤ rooms.marks)
  has_rooms = entered_some w.seats rooms is.rooms_are (client - 1) (seat_of w client) there offered

  -- whoever waits, waits on a live descriptor or on none
  pub waits_live : (call : Call) → call ≡ (seat_of w client).call → (new : Seat) → is_blocked_phase new.phase ≡ false → WaitOnLive z.iface.facts e.tracked.rows call (slice_set w.seats (client - 1) new)
  waits_live call same new idle = subst (λ c. WaitOnLive z.iface.facts e.tracked.rows c (slice_set w.seats (client - 1) new)) (sym same) (record {
    allowed = is.set.law.shape.shape;
    is_call = waiting.answered.passes.is_call;
    each = each_set (λ s. is_blocked_phase s.phase ≡ true → IsNone e.tracked.rows s.call.desc) w.seats (client - 1) new (λ blocked. absurd (let wrong : true ≡ false = sym blocked ∙ idle in cc wrong))
        (subst (λ rs. Each (λ s. is_blocked_phase s.phase ≡ true → IsNone rs s.call.desc) w.seats) (sym is.tracked.rows) (wait_on_live z is.set w.history w.withdrawn 1 w.seats is.keeps.seats.each));
  })

  -- what stands after the commit
  module _ (new : Engined) (later : Rooms) (fits : (seat_of w client).call.seq < 2 ^ 32) (rows : new.tracked.rows ≡ track z.iface.facts e.tracked.rows (seat_of w client).call (seat_of w client).reply)
      (given : new.tracked.given ≡ given_after z.iface.facts e.tracked.given (seat_of w client).call (seat_of w client).reply)
      (files : (key : List ℕ) → bytes_of new.stored key ≡ patched_at None key (bytes_of e.stored key))
      (names : (id : ℕ) → named_at new.names.known id ≡ name_left e.tracked.rows new.tracked.rows id (named_at e.names.known id))
      (present : (path : List ℕ) → is_present new.present path ≡ (is_present e.present path || is_written None path))
      (history : List Entry) (history_is : history ≡ w.history ++ (record { call = (seat_of w client).call; reply = (seat_of w client).reply }) ∷ [])
      (between seats : List Seat) (set : between ≡ slice_set w.seats (client - 1) (record (seat_of w client) { phase = Idle; seq = (seat_of w client).call.seq; reply = no_reply }))
      (seats_are : seats ≡ map (woken_seat (wakes_seat z.iface.facts e.tracked.rows (seat_of w client).call (seat_of w client).reply)) between)
      (marks : List Mark) (marks_are : marks ≡ (w.marks ++ record { client = client; kind = IsEntered } ∷ []) ++ record { client = client; kind = Answer } ∷ []) where
    abbrev its_idle : Seat
    its_idle = record (seat_of w client) { phase = Idle; seq = (seat_of w client).call.seq; reply = no_reply }

    woken_all : seats ≡ map (woken_seat (wakes_seat z.iface.facts (object_of z.iface.facts w.history).rows (seat_of w client).call (seat_of w client).reply)) (slice_set w.seats (client - 1) (record (seat_of w client) { phase = Idle; seq = (seat_of w client).call.seq; reply = no_reply }))
    woken_all = seats_are ∙ ap (λ rs. map (woken_seat (wakes_seat z.iface.facts rs (seat_of w client).call (seat_of w client).reply)) between) is.tracked.rows ∙ ap (map (woken_seat wakes)) set

    seats_set_now : seats ≡ slice_set (map (woken_seat (wakes_seat z.iface.facts (object_of z.iface.facts w.history).rows (seat_of w client).call (seat_of w client).reply)) w.seats) (client - 1)
        (record (seat_of w client) { phase = Idle; seq = (seat_of w client).call.seq; reply = no_reply })
    seats_set_now = woken_all ∙ (answered_seats wakes w.seats (client - 1) (seat_of w client) there stays its_idle refl).0

    pub returned_view : (run : Run) (running : Option Object) → run ≡ w.run → running ≡ w.running
        → record w { history = history; run = run; running = running; seats = seats; marks = marks }
        ≡ answered_to (committed z.iface.facts w (record { call = (seat_of w client).call; reply = (seat_of w client).reply })) (record { call = (seat_of w client).call; reply = (seat_of w client).reply })
    returned_view run running same_run same_running =
        view_answered z.iface.facts w client (seat_of w client) there stays its_entry own run running history seats marks same_run same_running history_is seats_set_now marks_are

    keeps_now : KeepsPromise z (record w { history = history; seats = seats; marks = marks }) (stub_of new)
    keeps_now = at service.0 service.1
      where
        at : (v : Object) → w.running ≡ Some v → KeepsPromise z (record w { history = history; seats = seats; marks = marks }) (stub_of new)
        at v is_up =
            let u = upright_now v is_up in
            keeps_returned z is.set w u.first u.others v e (subst (λ x. KeepsPromise z x (stub_of e)) u.is is.keeps) found.front found.back (seat_of w client) found.is held (boot ∙ ap length u.boots) new fits is.tracked.rows rows names present
            (record w { history = history; seats = seats; marks = marks }) history_is (ap (λ x. x.run) u.is) is_up refl
            (woken_all ∙ ap (map (woken_seat wakes)) (found.set its_idle) ∙ woken_at wakes found.front found.back its_idle)

    pub returned_on : rooms.entries ≤ later.entries + 1 → rooms.withdrawals ≤ later.withdrawals → rooms.marks ≤ later.marks + 2 → IsWorld z new (record w { history = history; seats = seats; marks = marks }) later
    returned_on entries withdrawals left_marks = record {
      set = is.set;
      keeps = keeps_now;
      tracked = subst (StoresObject z.iface.facts new) (sym history_is)
          (stored_on z.iface.facts e new w.history (seat_of w client).call (seat_of w client).reply None is.tracked rows given files
          (held_writes_none z.iface.facts z.ask z.sound is.set.law (object_of z.iface.facts w.history) is.keeps.object.good its_entry waiting e is.tracked.rows));
      rooms_are = subst (λ l. HaveRooms l later) (sym seats_set_now)
          (entered_rooms w.seats rooms later is.rooms_are (client - 1) (seat_of w client) there offered stays wakes its_idle refl entries withdrawals (omega (arith, left_marks)));
      marked = subst (λ h. TellsAll (record w { history = h; seats = seats; marks = marks })) (sym history_is)
          (subst (λ l. TellsAll (record w { history = w.history ++ its_entry ∷ []; seats = l; marks = marks })) (sym seats_set_now)
          (subst (λ m. TellsAll (record w { history = w.history ++ its_entry ∷ []; seats = slice_set (map (woken_seat wakes) w.seats) (client - 1) its_idle; marks = m })) (sym marks_are)
          (answered_told w is.marked client (seat_of w client) there first stays wakes its_entry own its_idle refl w.events w.refused)));
    }
