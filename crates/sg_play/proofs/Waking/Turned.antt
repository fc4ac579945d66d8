-- A play keeps its waits woken, whatever happens in it.
use Rattle.std.proofs.Common.{◌≡◌, ℕ, ◌-◌, ◌≤◌, Bool, true, false, cond, ◌||◌, List, [], ◌∷◌, ◌++◌, length, refl, sym, ◌∙◌, ap, subst, inl, inr, arith, slice_set}
use Rattle.sg_facts.specs.sg_base.Stops.{asked_after}
use Rattle.sg_facts.specs.sg_base.declared.reply.Reply.{Reply}
use Rattle.sg_facts.specs.declared.entry.Entry.{Entry}
use Rattle.sg_facts.specs.Facts.{Facts, fun_at, is_visible}
use Rattle.sg_facts.specs.Legal.{LegalFrom}
use Rattle.sg_facts.specs.Object.{empty_object, object_of}
use Rattle.sg_facts.specs.Trace.{Boot}
use Rattle.sg_plain.specs.sg_hist.Recovered.{is_clients}
use Rattle.sg_play.specs.Recovering.{RecoversSoFar}
use Rattle.sg_plain.proofs.sg_clients.Lines.{length_set, seat_here}
use Rattle.sg_plain.specs.Playing.Plays.{IsPlaying}
use Rattle.sg_plain.specs.sg_hist.Growing.{noted}
use Rattle.sg_plain.specs.sg_script.declared.script.Script.{Script}
use Rattle.sg_plain.specs.sg_clients.WorldView.{Seat, WorldView, happened, in_phase, is_left_phase, is_offered, no_reply, seat_in, seat_of, wakes_seat, with_leave, with_mark}
use Rattle.sg_plain.specs.sg_clients.declared.mark.MarkKind.TheVariants.{Leave}
use Rattle.sg_plain.specs.sg_clients.declared.phase.Phase.{Phase}
use Rattle.sg_plain.specs.sg_clients.declared.phase.Phase.TheVariants.{Idle, Asked, Held, Receipted, Blocked, Left}
use Rattle.sg_world.proofs.sg_world_laws.Ending.Seats.{here_entered, length_entered}
use Rattle.sg_play.proofs.Waking.Shapes.{call_is_own}
use Rattle.sg_world.proofs.sg_world_laws.Ending.Shapes.{answered_seats, entry_with, given_seats, seat_after, woken}
use Rattle.sg_play.proofs.Waking.Waiting.{legal_last, line_committed, line_noted, line_refused, line_returned, line_stopped, line_stub, woken_booted, woken_set, woken_struck}
use Rattle.sg_play.proofs.Waking.Woken.{moves_free, moves_to, replied_goes, stopped_goes}
use Rattle.sg_plain.specs.Answering.{no_query_waits}
use Rattle.sg_play.specs.Waking.Waking.{AreWokenSoFar, IsWaking, is_asking}
use Rattle.sg_world.specs.declared.did.Did.{Did}
use Rattle.sg_world.specs.declared.did.Did.TheVariants.{Answered, Blocked as Waits, Booted, Loaded, Lost, Replayed, Served, Skipped, Struck}
use Rattle.sg_world.specs.Steps.{Commits, Steps}
use Rattle.sg_world.specs.sg_world_laws.Setting.{Setting}

-- ---- a step

module _ (z : Setting) (script : Script) (x : WorldView) (given : List (List ℕ)) (c : ℕ) (first : 1 ≤ c) (last : c ≤ length x.seats) (playing : IsPlaying z.iface script x.history x.seats given)
    (before : RecoversSoFar z x) (is : IsWaking z x) where
  abbrev facts : Facts
  facts = z.iface.facts

  abbrev s : Seat
  s = seat_of x c

  offers_by : (p : Phase) → s.phase ≡ p → is_offered p ≡ true → is_offered s.phase ≡ true
  offers_by p was offers = ap is_offered was ∙ offers

  its : is_offered s.phase ≡ true → s.call.client ≡ c
  its offers = call_is_own facts script x.history c s (playing.callers.each c first last) offers

  woken_at : (later : WorldView) (history : List Entry) (boots : List Boot) (seats : List Seat) → later.history ≡ history → later.run.boots ≡ boots → later.seats ≡ seats
      → AreWokenSoFar facts history boots seats → AreWokenSoFar facts later.history later.run.boots later.seats
  woken_at later history boots seats h b l so =
      subst (λ e. AreWokenSoFar facts e later.run.boots later.seats) (sym h) (subst (λ e. AreWokenSoFar facts history e later.seats) (sym b) (subst (AreWokenSoFar facts history boots) (sym l) so))

  committed : no_query_waits z.iface.facts ≡ true → AreWokenSoFar z.iface.facts x.history x.run.boots x.seats → (between : WorldView) → Commits z x c between → AreWokenSoFar facts between.history between.run.boots between.seats
  committed queries is_woken between l =
      let asked = l.asks.reaches.uses.let_in.phase in
      woken_at between (x.history ++ entry_with facts x c l.reply ∷ []) (noted x.run.boots l.asks.item) (slice_set (woken facts x c l.reply) (c - 1) (seat_after facts x c l.reply Receipted l.reply))
      (ap (λ w. w.history) l.now) (ap (λ w. w.run.boots) l.now) (ap (λ w. w.seats) l.now ∙ given_seats facts x c l.reply (its (offers_by Asked asked refl)))
      (line_committed z script x given c first last playing before queries is_woken l.asks.item l.asks.tag l.asks.shown asked l.reply (replied_goes l.asks.item.outcome l.outcome) l.answers)

  woken_step : (queries : no_query_waits z.iface.facts ≡ true) → AreWokenSoFar z.iface.facts x.history x.run.boots x.seats → (did : Did) (later : WorldView) → LegalFrom z.iface z.ask empty_object later.history → Steps z x c did later → AreWokenSoFar facts later.history later.run.boots later.seats
  woken_step queries is_woken Skipped later legal l = subst (λ (w : WorldView). AreWokenSoFar facts w.history w.run.boots w.seats) (sym l.now) is_woken
  woken_step queries is_woken (Answered reply) later legal (inl l) =
      let new : Seat = record s { phase = Idle; reply = no_reply } in
      woken_at later x.history x.run.boots (slice_set x.seats (c - 1) new) (ap (λ w. w.history) l.now) (ap (λ w. w.run.boots) l.now) (ap (λ w. w.seats) l.now)
      (woken_set facts x.history x.run.boots x.seats c new first last
      (moves_free facts s new (omega arith) (λ offers. absurd (let none : is_offered s.phase ≡ false = ap is_offered l.phase in cc (none, offers))) refl refl) is_woken)
  woken_step queries is_woken (Answered reply) later legal (inr (inl l)) =
      woken_at later (x.history ++ entry_with facts x c reply ∷ []) x.run.boots (slice_set (woken facts x c reply) (c - 1) (seat_after facts x c reply Idle no_reply))
      (ap (λ w. w.history) l.now) (ap (λ w. w.run.boots) l.now) (ap (λ w. w.seats) l.now ∙ answered_seats facts x c reply (its (offers_by Held l.phase refl)))
      (line_returned z script x given c first last playing before queries is_woken reply no_reply l.phase
      (legal_last z.iface z.ask empty_object x.history (entry_with facts x c reply) (subst (LegalFrom z.iface z.ask empty_object) (ap (λ w. w.history) l.now) legal)))
  woken_step queries is_woken (Answered reply) later legal (inr (inr l)) =
      woken_at later (x.history ++ entry_with facts x c reply ∷ []) x.run.boots (slice_set (woken facts x c reply) (c - 1) (seat_after facts x c reply Idle no_reply))
      (ap (λ w. w.history) l.now) (ap (λ w. w.run.boots) l.now) (ap (λ w. w.seats) l.now ∙ answered_seats facts x c reply (its (offers_by Asked l.phase refl)))
      (line_refused z script x given c first last playing before queries is_woken reply l.code no_reply l.phase l.guarded l.its)
  woken_step queries is_woken Lost later legal l =
      let new : Seat = record s { phase = Asked } in
      woken_at later x.history x.run.boots (slice_set x.seats (c - 1) new) (ap (λ w. w.history) l.now) (ap (λ w. w.run.boots) l.now) (ap (λ w. w.seats) l.now)
      (woken_set facts x.history x.run.boots x.seats c new first last (moves_to facts s new refl refl (λ offers. refl) (λ asks. ap is_asking l.phase) (λ all. refl)) is_woken)
  woken_step queries is_woken Booted later legal l =
      subst (λ (w : WorldView). AreWokenSoFar facts w.history w.run.boots w.seats) (sym l.now) (woken_booted facts x.history x.run.boots x.seats is_woken)
  woken_step queries is_woken Struck later legal (inl l) =
      subst (λ (w : WorldView). AreWokenSoFar facts w.history w.run.boots w.seats) (sym l.now) (woken_struck facts x.history x.run.boots x.seats (asked_after x.run.points 1) is_woken)
  woken_step queries is_woken Struck later legal (inr (inl l)) =
      subst (λ (w : WorldView). AreWokenSoFar facts w.history w.run.boots w.seats) (sym l.now)
      (woken_struck facts x.history (noted x.run.boots l.item) x.seats l.item.points (line_stub z script x given c first last playing before queries is_woken l.item (ap is_clients l.tag)))
  woken_step queries is_woken Struck later legal (inr (inr (inl l))) =
      let asked = l.asks.reaches.uses.let_in.phase in
      subst (λ (w : WorldView). AreWokenSoFar facts w.history w.run.boots w.seats) (sym l.now)
      (woken_struck facts x.history (noted x.run.boots l.asks.item) x.seats l.asks.item.points
      (line_stopped z script x given c first last playing before queries is_woken l.asks.item l.asks.tag l.asks.shown (offers_by Asked asked refl) (ap is_asking asked) (stopped_goes l.asks.item.outcome l.outcome)))
  woken_step queries is_woken Struck later legal (inr (inr (inr l))) =
      subst (λ (w : WorldView). AreWokenSoFar facts w.history w.run.boots w.seats) (sym l.now)
      (woken_struck facts l.between.history l.between.run.boots l.between.seats (asked_after l.between.run.points 1) (committed queries is_woken l.between l.commits))
  woken_step queries is_woken Replayed later legal l =
      subst (λ (w : WorldView). AreWokenSoFar facts w.history w.run.boots w.seats) (sym l.now) (line_stub z script x given c first last playing before queries is_woken l.item (ap is_clients l.tag))
  woken_step queries is_woken Loaded later legal l =
      subst (λ (w : WorldView). AreWokenSoFar facts w.history w.run.boots w.seats) (sym l.now) (line_stub z script x given c first last playing before queries is_woken l.item (ap is_clients l.tag))
  woken_step queries is_woken Waits later legal l =
      let asked = l.asks.reaches.uses.let_in.phase in
      let new : Seat = record s { phase = Blocked } in
      subst (λ (w : WorldView). AreWokenSoFar facts w.history w.run.boots w.seats) (sym l.now)
      (line_noted z script x given c first last playing before queries is_woken l.asks.item l.asks.tag l.asks.shown (offers_by Asked asked refl) new (ap is_asking asked)
      (moves_to facts s new refl refl (λ offers. refl) (λ asks. absurd (cc asks)) (λ all. refl)) (refl, refl) (λ asks. absurd (cc asks)))
  woken_step queries is_woken Served later legal (inl l) = subst (λ (w : WorldView). AreWokenSoFar facts w.history w.run.boots w.seats) (sym l.now) (committed queries is_woken l.between l.commits)
  woken_step queries is_woken Served later legal (inr l) =
      let asked = l.asks.reaches.uses.let_in.phase in
      let new : Seat = record s { phase = Held; boot = length x.run.boots; reply = l.reply } in
      let f = fun_at facts.funs s.call.fun in
      subst (λ (w : WorldView). AreWokenSoFar facts w.history w.run.boots w.seats) (sym l.now)
      (line_noted z script x given c first last playing before queries is_woken l.asks.item l.asks.tag l.asks.shown (offers_by Asked asked refl) new (ap is_asking asked)
      (moves_to facts s new refl refl (λ offers. refl) (λ asks. ap is_asking asked) (λ all. absurd (let seen : is_visible facts s.call.fun ≡ true = ap (λ g. g || f.uses_file || f.creation) all in let hidden = l.hidden in cc (seen, hidden))))
      (refl, refl) (λ asks. replied_goes l.asks.item.outcome l.outcome))

  pub stepped : (did : Did) (later now : WorldView) → LegalFrom z.iface z.ask empty_object later.history → Steps z x c did later → now ≡ happened later → IsWaking z now
  stepped did later now legal steps counted = subst (IsWaking z) (sym counted) (λ queries. woken_step queries (is queries) did later legal steps)

  -- who is handed its reply has no call under way then
  pub idle_step : (reply : Reply) (later : WorldView) → Steps z x c (Answered reply) later → (seat_of later c).phase ≡ Idle
  idle_step reply later (inl l) = ap (λ w. (seat_of w c).phase) l.now ∙ ap (λ (t : Seat). t.phase) (seat_here x.seats c (record s { phase = Idle; reply = no_reply }) first last)
  idle_step reply later (inr (inl l)) =
      ap (λ l. (seat_in l c).phase) (ap (λ w. w.seats) l.now ∙ answered_seats facts x c reply (its (offers_by Held l.phase refl)))
      ∙ ap (λ (t : Seat). t.phase) (here_entered (wakes_seat facts (object_of facts x.history).rows s.call reply) x.seats c (seat_after facts x c reply Idle no_reply) first last)
  idle_step reply later (inr (inr l)) =
      ap (λ l. (seat_in l c).phase) (ap (λ w. w.seats) l.now ∙ answered_seats facts x c reply (its (offers_by Asked l.phase refl)))
      ∙ ap (λ (t : Seat). t.phase) (here_entered (wakes_seat facts (object_of facts x.history).rows s.call reply) x.seats c (seat_after facts x c reply Idle no_reply) first last)

  -- the clients stay as many
  pub same_clients : (reply : Reply) (later : WorldView) → Steps z x c (Answered reply) later → length later.seats ≡ length x.seats
  same_clients reply later (inl l) = ap (λ w. length w.seats) l.now ∙ length_set x.seats (c - 1) (record s { phase = Idle; reply = no_reply })
  same_clients reply later (inr (inl l)) =
      ap length (ap (λ w. w.seats) l.now ∙ answered_seats facts x c reply (its (offers_by Held l.phase refl)))
      ∙ length_entered (wakes_seat facts (object_of facts x.history).rows s.call reply) x.seats c (seat_after facts x c reply Idle no_reply)
  same_clients reply later (inr (inr l)) =
      ap length (ap (λ w. w.seats) l.now ∙ answered_seats facts x c reply (its (offers_by Asked l.phase refl)))
      ∙ length_entered (wakes_seat facts (object_of facts x.history).rows s.call reply) x.seats c (seat_after facts x c reply Idle no_reply)

-- ---- a client leaves

-- a client leaves, which has no call under way
pub waking_left : (z : Setting) (w : WorldView) (c : ℕ) → 1 ≤ c → c ≤ length w.seats → (seat_of w c).phase ≡ Idle → IsWaking z w → IsWaking z (happened (with_leave w c))
waking_left z w c first last idle is = by (is_left_phase (seat_of w c).phase) refl
  where
    new : Seat
    new = record (seat_of w c) { phase = Left }

    leaves : WorldView
    leaves = with_mark (in_phase w c Left) c Leave

    by : (b : Bool) → is_left_phase (seat_of w c).phase ≡ b → IsWaking z (happened (with_leave w c))
    by true left = absurd (let none : is_left_phase (seat_of w c).phase ≡ false = ap is_left_phase idle in cc (none, left))
    by false left =
        subst (λ b. IsWaking z (happened (cond b w leaves))) (sym left)
        (λ queries. woken_set z.iface.facts w.history w.run.boots w.seats c new first last
        (moves_free z.iface.facts (seat_of w c) new (omega arith) (λ offers. absurd (let none : is_offered (seat_of w c).phase ≡ false = ap is_offered idle in cc (none, offers))) refl refl) (is queries))
