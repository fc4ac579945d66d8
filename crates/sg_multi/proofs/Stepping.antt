-- What a step of a member's world does to its clients' calls: nothing, or a call comes into the history, or a reply is handed over.
use Rattle.std.proofs.Common.{◌≡◌, ◌≢◌, ◌⊎◌, ℕ, ◌-◌, ◌≤◌, Bool, true, false, List, [], ◌∷◌, ◌++◌, length, refl, sym, ◌∙◌, ap, subst, inl, inr, arith, slice_set}
use Rattle.sg_facts.specs.sg_base.declared.call.Call.{Call}
use Rattle.sg_facts.specs.sg_base.declared.reply.Reply.{Reply}
use Rattle.sg_facts.specs.Facts.{Facts}
use Rattle.sg_facts.specs.Object.{object_of}
use Rattle.sg_multi.proofs.sg_sim.sg_play.sg_world.sg_world_laws.Ending.Shapes.{answered_seats, given_seats, seat_after, woken}
use Rattle.sg_multi.proofs.sg_sim.sg_play.sg_world.sg_world_laws.Woken.{woken_is}
use Rattle.sg_multi.proofs.sg_sim.sg_play.sg_plain.sg_clients.Lines.{length_map, length_set, same_or_other, seat_here, seat_there, seat_woken}
use Rattle.sg_multi.specs.sg_sim.sg_plain.Playing.Callers.{is_receipted}
use Rattle.sg_multi.specs.sg_sim.sg_clients.WorldView.{Seat, WorldView, happened, is_offered, no_reply, seat_in, seat_of, wakes_seat, woken_seat}
use Rattle.sg_multi.specs.sg_sim.sg_clients.declared.phase.Phase.{Phase}
use Rattle.sg_multi.specs.sg_sim.sg_clients.declared.phase.Phase.TheVariants.{Idle, Asked, Held, Receipted, Blocked}
use Rattle.sg_multi.specs.sg_sim.sg_world.declared.did.Did.{Did}
use Rattle.sg_multi.specs.sg_sim.sg_world.declared.did.Did.TheVariants.{Answered, Blocked as Waits, Booted, Loaded, Lost, Replayed, Served, Skipped, Struck}
use Rattle.sg_multi.specs.sg_sim.sg_world.Steps.{Commits, HasStepped, Steps}
use Rattle.sg_multi.specs.sg_sim.sg_world_laws.Setting.{Setting}

-- ---- what a seat goes through

-- a client's call is under way as before
pub record GoesOn (s later : Seat) : Type 0 where
  pub offered : is_offered later.phase ≡ is_offered s.phase
  pub receipted : is_receipted later.phase ≡ is_receipted s.phase
  pub call : later.call ≡ s.call
  pub seq : later.seq ≡ s.seq

-- so are those of all clients, and no entry was made
pub record IsQuiet (w later : WorldView) : Type 0 where
  pub same : later.history ≡ w.history
  pub clients : length later.seats ≡ length w.seats
  pub each : (client : ℕ) → 1 ≤ client → GoesOn (seat_of w client) (seat_of later client)

-- so are those of all other clients
abbrev pub OthersGoOn : WorldView → ℕ → WorldView → Type 0
OthersGoOn w c later = (client : ℕ) → 1 ≤ client → client ≢ c → GoesOn (seat_of w client) (seat_of later client)

-- the client's call came into the history with a reply, and its seat is in a phase then
pub record Enters (w : WorldView) (c : ℕ) (p : Phase) (reply : Reply) (later : WorldView) : Type 0 where
  pub offered : is_offered (seat_of w c).phase ≡ true
  pub entered : later.history ≡ w.history ++ record { call = (seat_of w c).call; reply = reply } ∷ []
  pub clients : length later.seats ≡ length w.seats
  pub phase : (seat_of later c).phase ≡ p
  pub number : (seat_of later c).seq ≡ (seat_of w c).call.seq
  pub others : OthersGoOn w c later

-- the reply that the client has a receipt for was handed over
pub record HandsOver (w : WorldView) (c : ℕ) (later : WorldView) : Type 0 where
  pub was : (seat_of w c).phase ≡ Receipted
  pub same : later.history ≡ w.history
  pub clients : length later.seats ≡ length w.seats
  pub phase : (seat_of later c).phase ≡ Idle
  pub number : (seat_of later c).seq ≡ (seat_of w c).seq
  pub others : OthersGoOn w c later

-- what a step does that hands nothing over
abbrev pub GoesQuietly : WorldView → ℕ → WorldView → Type 0
GoesQuietly w c later = IsQuiet w later ⊎ ((reply : Reply) × Enters w c Receipted reply later)

-- what a step does that hands a reply over
abbrev pub Answers : WorldView → ℕ → Reply → WorldView → Type 0
Answers w c reply later = HandsOver w c later ⊎ Enters w c Idle reply later

-- ---- small changes

pub goes_same : (s : Seat) → GoesOn s s
goes_same s = record { offered = refl; receipted = refl; call = refl; seq = refl }

goes_woken : (test : Call → Bool) (s : Seat) → GoesOn s (woken_seat test s)
goes_woken test s = by (woken_is test s)
  where
    by : (woken_seat test s ≡ s) ⊎ ((s.phase ≡ Blocked) × (woken_seat test s ≡ record s { phase = Asked })) → GoesOn s (woken_seat test s)
    by (inl same) = subst (GoesOn s) (sym same) (goes_same s)
    by (inr was) = subst (GoesOn s) (sym was.1) (record { offered = sym (ap is_offered was.0); receipted = sym (ap is_receipted was.0); call = refl; seq = refl })

goes_to : (s : Seat) (p : Phase) (boot : ℕ) (reply : Reply) → is_offered s.phase ≡ true → is_receipted s.phase ≡ false → is_offered p ≡ true → is_receipted p ≡ false
    → GoesOn s (record s { phase = p; boot = boot; reply = reply })
goes_to s p boot reply was none is not = record { offered = is ∙ sym was; receipted = not ∙ sym none; call = refl; seq = refl }

module _ (z : Setting) (w : WorldView) (c : ℕ) (first : 1 ≤ c) (last : c ≤ length w.seats) (its : is_offered (seat_of w c).phase ≡ true → (seat_of w c).call.client ≡ c) where
  abbrev s : Seat
  s = seat_of w c

  abbrev facts : Facts
  facts = z.iface.facts

  -- only the service and its run change
  used : (later : WorldView) → later.history ≡ w.history → later.seats ≡ w.seats → IsQuiet w later
  used later history seats = record {
    same = history;
    clients = ap length seats;
    each = λ client from. subst (λ l. GoesOn (seat_of w client) (seat_in l client)) (sym seats) (goes_same (seat_of w client));
  }

  -- the client's seat changes
  others_set : (seats : List Seat) (new : Seat) → seats ≡ slice_set w.seats (c - 1) new → (client : ℕ) → 1 ≤ client → client ≢ c → GoesOn (seat_of w client) (seat_in seats client)
  others_set seats new are client from other =
      subst (GoesOn (seat_of w client)) (sym (ap (λ l. seat_in l client) are ∙ seat_there w.seats c client new first from other)) (goes_same (seat_of w client))

  set_to : (later : WorldView) (new : Seat) → GoesOn s new → later.history ≡ w.history → later.seats ≡ slice_set w.seats (c - 1) new → IsQuiet w later
  set_to later new goes history seats = record {
    same = history;
    clients = ap length seats ∙ length_set w.seats (c - 1) new;
    each = λ client from. by client from (same_or_other client c);
  }
    where
      by : (client : ℕ) → 1 ≤ client → (client ≡ c) ⊎ (client ≢ c) → GoesOn (seat_of w client) (seat_of later client)
      by client from (inl same) = subst (λ n. GoesOn (seat_of w n) (seat_of later n)) (sym same) (subst (GoesOn s) (sym (ap (λ l. seat_in l c) seats ∙ seat_here w.seats c new first last)) goes)
      by client from (inr other) = others_set later.seats new seats client from other

  -- an entry wakes clients
  entered : (reply : Reply) (p : Phase) (kept : Reply) (later : WorldView) → is_offered s.phase ≡ true → later.history ≡ w.history ++ record { call = s.call; reply = reply } ∷ []
      → later.seats ≡ slice_set (woken facts w c reply) (c - 1) (seat_after facts w c reply p kept) → Enters w c p reply later
  entered reply p kept later offers history seats =
      let wakes = wakes_seat facts (object_of facts w.history).rows s.call reply in
      let within : c ≤ length (woken facts w c reply) = omega (arith, last, length_map (woken_seat wakes) w.seats) in
      let here = ap (λ l. seat_in l c) seats ∙ seat_here (woken facts w c reply) c (seat_after facts w c reply p kept) first within in
      record {
        offered = offers;
        entered = history;
        clients = ap length seats ∙ length_set (woken facts w c reply) (c - 1) (seat_after facts w c reply p kept) ∙ length_map (woken_seat wakes) w.seats;
        phase = ap (λ (t : Seat). t.phase) here;
        number = ap (λ (t : Seat). t.seq) here;
        others = λ client from other. subst (GoesOn (seat_of w client))
            (sym (ap (λ l. seat_in l client) seats ∙ seat_there (woken facts w c reply) c client (seat_after facts w c reply p kept) first from other ∙ seat_woken wakes w.seats client))
            (goes_woken wakes (seat_of w client));
      }

  offers_by : (p : Phase) → s.phase ≡ p → is_offered p ≡ true → is_offered s.phase ≡ true
  offers_by p was offers = ap is_offered was ∙ offers

  -- a visible call is committed, and the world goes on to be so for its clients
  committed : (between later : WorldView) → Commits z w c between → later.history ≡ between.history → later.seats ≡ between.seats → (reply : Reply) × Enters w c Receipted reply later
  committed between later l history seats =
      let offers = offers_by Asked l.asks.reaches.uses.let_in.phase refl in
      (l.reply, entered l.reply Receipted l.reply later offers (history ∙ ap (λ x. x.history) l.now) (seats ∙ ap (λ x. x.seats) l.now ∙ given_seats facts w c l.reply (its offers)))

  -- ---- the lines

  quiet_by : (did : Did) (later : WorldView) → ((reply : Reply) → did ≡ Answered reply → ⊥) → Steps z w c did later → GoesQuietly w c later
  quiet_by Skipped later none l = inl (used later (ap (λ x. x.history) l.now) (ap (λ x. x.seats) l.now))
  quiet_by (Answered reply) later none l = absurd (none reply refl)
  quiet_by Lost later none l =
      inl (set_to later (record s { phase = Asked }) (goes_to s Asked s.boot s.reply (offers_by Held l.phase refl) (ap is_receipted l.phase) refl refl) (ap (λ x. x.history) l.now) (ap (λ x. x.seats) l.now))
  quiet_by Booted later none l = inl (record {
    same = ap (λ x. x.history) l.now;
    clients = ap (λ x. length x.seats) l.now ∙ length_map (woken_seat (λ call. true)) w.seats;
    each = λ client from. subst (GoesOn (seat_of w client)) (sym (ap (λ x. seat_of x client) l.now ∙ seat_woken (λ call. true) w.seats client)) (goes_woken (λ call. true) (seat_of w client));
  })
  quiet_by Struck later none (inl l) = inl (used later (ap (λ x. x.history) l.now) (ap (λ x. x.seats) l.now))
  quiet_by Struck later none (inr (inl l)) = inl (used later (ap (λ x. x.history) l.now) (ap (λ x. x.seats) l.now))
  quiet_by Struck later none (inr (inr (inl l))) = inl (used later (ap (λ x. x.history) l.now) (ap (λ x. x.seats) l.now))
  quiet_by Struck later none (inr (inr (inr l))) = inr (committed l.between later l.commits (ap (λ x. x.history) l.now) (ap (λ x. x.seats) l.now))
  quiet_by Replayed later none l = inl (used later (ap (λ x. x.history) l.now) (ap (λ x. x.seats) l.now))
  quiet_by Loaded later none l = inl (used later (ap (λ x. x.history) l.now) (ap (λ x. x.seats) l.now))
  quiet_by Waits later none l =
      let asked = l.asks.reaches.uses.let_in.phase in
      inl (set_to later (record s { phase = Blocked }) (goes_to s Blocked s.boot s.reply (offers_by Asked asked refl) (ap is_receipted asked) refl refl) (ap (λ x. x.history) l.now) (ap (λ x. x.seats) l.now))
  quiet_by Served later none (inl l) = inr (committed l.between later l.commits (ap (λ x. x.history) l.now) (ap (λ x. x.seats) l.now))
  quiet_by Served later none (inr l) =
      let asked = l.asks.reaches.uses.let_in.phase in
      inl (set_to later (record s { phase = Held; boot = length w.run.boots; reply = l.reply }) (goes_to s Held (length w.run.boots) l.reply (offers_by Asked asked refl) (ap is_receipted asked) refl refl)
      (ap (λ x. x.history) l.now) (ap (λ x. x.seats) l.now))

  answers_by : (reply : Reply) (later : WorldView) → Steps z w c (Answered reply) later → Answers w c reply later
  answers_by reply later (inl l) =
      let new : Seat = record s { phase = Idle; reply = no_reply } in
      let seats : later.seats ≡ slice_set w.seats (c - 1) new = ap (λ x. x.seats) l.now in
      let here : seat_of later c ≡ new = ap (λ x. seat_in x c) seats ∙ seat_here w.seats c new first last in
      inl (record {
        was = l.phase;
        same = ap (λ x. x.history) l.now;
        clients = ap length seats ∙ length_set w.seats (c - 1) new;
        phase = ap (λ (t : Seat). t.phase) here;
        number = ap (λ (t : Seat). t.seq) here;
        others = others_set later.seats new seats;
      })
  answers_by reply later (inr (inl l)) =
      let offers = offers_by Held l.phase refl in
      inr (entered reply Idle no_reply later offers (ap (λ x. x.history) l.now) (ap (λ x. x.seats) l.now ∙ answered_seats facts w c reply (its offers)))
  answers_by reply later (inr (inr l)) =
      let offers = offers_by Asked l.phase refl in
      inr (entered reply Idle no_reply later offers (ap (λ x. x.history) l.now) (ap (λ x. x.seats) l.now ∙ answered_seats facts w c reply (its offers)))

  -- ---- a step, with its event counted

  pub goes_quietly : (did : Did) (now : WorldView) → ((reply : Reply) → did ≡ Answered reply → ⊥) → HasStepped z w c did now → GoesQuietly w c now
  goes_quietly did now none stepped = subst (GoesQuietly w c) (sym stepped.counted) (by (quiet_by did stepped.later none stepped.steps))
    where
      by : GoesQuietly w c stepped.later → GoesQuietly w c (happened stepped.later)
      by (inl q) = inl (record { same = q.same; clients = q.clients; each = q.each })
      by (inr (reply, e)) = inr (reply, record { offered = e.offered; entered = e.entered; clients = e.clients; phase = e.phase; number = e.number; others = e.others })

  pub is_answered : (reply : Reply) (now : WorldView) → HasStepped z w c (Answered reply) now → Answers w c reply now
  is_answered reply now stepped = subst (Answers w c reply) (sym stepped.counted) (by (answers_by reply stepped.later stepped.steps))
    where
      by : Answers w c reply stepped.later → Answers w c reply (happened stepped.later)
      by (inl h) = inl (record { was = h.was; same = h.same; clients = h.clients; phase = h.phase; number = h.number; others = h.others })
      by (inr e) = inr (record { offered = e.offered; entered = e.entered; clients = e.clients; phase = e.phase; number = e.number; others = e.others })

  -- the clients are as many
  quiet_clients : (now : WorldView) → GoesQuietly w c now → length now.seats ≡ length w.seats
  quiet_clients now (inl q) = q.clients
  quiet_clients now (inr (reply, e)) = e.clients

  answered_clients : (reply : Reply) (now : WorldView) → Answers w c reply now → length now.seats ≡ length w.seats
  answered_clients reply now (inl h) = h.clients
  answered_clients reply now (inr e) = e.clients

  pub clients_kept : (did : Did) (now : WorldView) → HasStepped z w c did now → length now.seats ≡ length w.seats
  clients_kept Skipped now stepped = quiet_clients now (goes_quietly Skipped now (λ reply answered. cc answered) stepped)
  clients_kept Struck now stepped = quiet_clients now (goes_quietly Struck now (λ reply answered. cc answered) stepped)
  clients_kept Booted now stepped = quiet_clients now (goes_quietly Booted now (λ reply answered. cc answered) stepped)
  clients_kept Replayed now stepped = quiet_clients now (goes_quietly Replayed now (λ reply answered. cc answered) stepped)
  clients_kept Loaded now stepped = quiet_clients now (goes_quietly Loaded now (λ reply answered. cc answered) stepped)
  clients_kept Served now stepped = quiet_clients now (goes_quietly Served now (λ reply answered. cc answered) stepped)
  clients_kept Waits now stepped = quiet_clients now (goes_quietly Waits now (λ reply answered. cc answered) stepped)
  clients_kept Lost now stepped = quiet_clients now (goes_quietly Lost now (λ reply answered. cc answered) stepped)
  clients_kept (Answered reply) now stepped = answered_clients reply now (is_answered reply now stepped)
