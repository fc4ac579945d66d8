-- An offer, a withdrawal, a client that leaves, a reply that is handed over, and one that was lost: the world keeps what it keeps.

-- the seat of a client that there is
use Rattle.std.proofs.Common.{List, None, Option, Some, [], ap, arith, false, if◌then◌else◌, inl, inr, length, map, refl, slice_get, slice_set, subst, suc, sym, true, unwrap_or, zero, ℕ, ◌&&◌, ◌++◌, ◌+◌, ◌-◌, ◌<◌, ◌==◌, ◌∙◌, ◌∷◌, ◌≡◌, ◌≤◌}
use Rattle.std.proofs.lemmas.List.Elements.{Contains-append_left, Contains-append_right}
use Rattle.std.specs.List.{Contains}
use Rattle.sg_facts.specs.sg_base.declared.call.Call.{Call}
use Rattle.sg_facts.specs.sg_base.declared.reply.Reply.{Reply}
use Rattle.sg_facts.specs.Object.{Object}
use Rattle.sg_recovery_laws.specs.sg_hist.Clients.{MayBeMade, calls_of}
use Rattle.sg_recovery_laws.proofs.Lists.{each_append}
use Rattle.sg_clients.specs.WorldView.{Seat, WorldView, is_held_phase, is_offered, no_seat, offered_by, seat_of, IsFree, MayWithdraw}
use Rattle.sg_clients.specs.declared.mark.Mark.{Mark}
use Rattle.sg_clients.specs.declared.phase.Phase.{Phase}
use Rattle.sg_clients.specs.declared.phase.Phase.TheVariants.{Asked, Blocked, Held, Idle, Left, Receipted}
use Rattle.sg_clients.specs.declared.withdrawn.Withdrawn.{Withdrawn}
use Rattle.sg_world_laws.proofs.Moves.{HoldsNoneNow, its_boot, its_gone, its_seat, moves}
use Rattle.sg_world_laws.proofs.Refusing.{refused}
use Rattle.sg_world_laws.proofs.Reseated.{reseated}
use Rattle.sg_world_laws.specs.Keeping.{KeepsPromise, Stub}
use Rattle.sg_world_laws.specs.Seats.{AreGone, IsSeated, last_of}
use Rattle.sg_world_laws.specs.Setting.{Setting}

pub seat_there : (w : WorldView) (client : ℕ) → 1 ≤ client → client ≤ length w.seats → slice_get w.seats (client - 1) ≡ Some (seat_of w client)
seat_there w client first last = found (slice_get w.seats (client - 1)) refl
  where
    found : (x : Option Seat) → slice_get w.seats (client - 1) ≡ x → slice_get w.seats (client - 1) ≡ Some (unwrap_or x no_seat)
    found (Some s) is = is
    found None is = absurd (past w.seats (client - 1) is (omega (arith, first, last)))
      where
        past : (seats : List Seat) (n : ℕ) → slice_get seats n ≡ None → n < length seats → ⊥
        past [] n is less = omega (arith, less)
        past (s ∷ seats) zero is less = cc is
        past (s ∷ seats) (suc n) is less = past seats n is (omega (arith, less))

free_none : (p : Phase) → IsFree p → (is_offered p ≡ false) × (is_held_phase p ≡ false)
free_none Idle free = (refl, refl)
free_none Left free = (refl, refl)
free_none Asked free = absurd free
free_none Held free = absurd free
free_none Receipted free = absurd free
free_none Blocked free = absurd free

pub withdraw_none : (p : Phase) → MayWithdraw p → (is_offered p ≡ true) × (is_held_phase p ≡ false)
withdraw_none Asked may = (refl, refl)
withdraw_none Blocked may = (refl, refl)
withdraw_none Idle may = absurd may
withdraw_none Left may = absurd may
withdraw_none Held may = absurd may
withdraw_none Receipted may = absurd may

none_of_nothing : (s : Seat) (x : Call) → is_offered s.phase ≡ false → Contains (offered_by s) x → ⊥
none_of_nothing s x none has = let empty : Contains [] x = subst (λ q. Contains (if q then s.call ∷ [] else []) x) none has in omega (arith, empty.1)

-- a phase in which nothing is held holds nothing now
pub none_now : (w : WorldView) (s : Seat) → is_held_phase s.phase ≡ false → HoldsNoneNow w s
none_now w s none = by w.running
  where
    by : (r : Option Object) → HoldsNoneNow (record w { running = r }) s
    by None = tt
    by (Some v) = ap (λ q. q && (s.boot == length w.run.boots)) none

module _ (z : Setting) (w : WorldView) (stub : Stub) (k : KeepsPromise z w stub) (client : ℕ) (first : 1 ≤ client) (last : client ≤ length w.seats) (marks : List Mark) (events refused : ℕ) where
  abbrev s : Seat
  s = seat_of w client

  there : slice_get w.seats (client - 1) ≡ Some (seat_of w client)
  there = seat_there w client first last

  seated : IsSeated z w.history client (seat_of w client)
  seated = its_seat z w stub k client s there first s w.withdrawn marks events refused

  gone : AreGone w.withdrawn client (seat_of w client)
  gone = its_gone z w stub k client s there first s w.withdrawn marks events refused

  boot : (seat_of w client).boot ≤ length w.run.boots
  boot = its_boot z w stub k client s there first s w.withdrawn marks events refused

  -- a client that is free offers its next call
  pub offer_keeps : (call : Call) → IsFree (seat_of w client).phase → call.client ≡ client → call.seq ≡ (seat_of w client).seq + 1 → MayBeMade z.iface call
      → KeepsPromise z (record w { seats = slice_set w.seats (client - 1) (record (seat_of w client) { phase = Asked; call = call }); marks = marks; events = events; refused = refused }) stub
  offer_keeps call free its next may =
      let none = free_none s.phase free in
      moves z w stub k client s there first (record s { phase = Asked; call = call }) w.withdrawn marks events refused
      (record { its = λ offers. its; next = λ offers. next; may = λ offers. may; waits = λ isn't. absurd (cc isn't); receipt = λ isn't. absurd (cc isn't); count = seated.count; few = seated.few })
      (λ d x other are. are) gone refl boot (none_now w s none.1) (none_now w (record s { phase = Asked; call = call }) refl) (λ x has. absurd (none_of_nothing s x none.0 has)) (λ x has. has)

  -- a client withdraws its call, which is in no entry
  pub withdraw_keeps : (gone_it : Withdrawn) → MayWithdraw (seat_of w client).phase → gone_it.call ≡ (seat_of w client).call
      → KeepsPromise z (record w { seats = slice_set w.seats (client - 1) (record (seat_of w client) { phase = Idle }); withdrawn = w.withdrawn ++ gone_it ∷ []; marks = marks; events = events; refused = refused }) stub
  withdraw_keeps gone_it may its =
      let offers = withdraw_none s.phase may in
      let own : gone_it.call.client ≡ client = ap (λ c. c.client) its ∙ seated.its offers.0 in
      moves z w stub k client s there first (record s { phase = Idle }) (w.withdrawn ++ gone_it ∷ []) marks events refused
      (record { its = λ isn't. absurd (cc isn't); next = λ isn't. absurd (cc isn't); may = λ isn't. absurd (cc isn't); waits = λ isn't. absurd (cc isn't); receipt = λ isn't. absurd (cc isn't); count = seated.count; few = seated.few })
      (λ d x other are. each_append (λ y. y.call.client ≡ d → y.call.seq ≤ x.seq + 1) w.withdrawn (gone_it ∷ []) are ((λ same. absurd (other (sym same ∙ own))), tt))
      (each_append (λ y. y.call.client ≡ client → y.call.seq ≤ s.seq + 1) w.withdrawn (gone_it ∷ []) gone ((λ same. let next : gone_it.call.seq ≡ s.seq + 1 = ap (λ c. c.seq) its ∙ seated.next offers.0 in omega (arith, next)), tt))
      refl boot (none_now w s offers.1) (none_now w (record s { phase = Idle }) refl) (λ x has. inr (subst (λ l. Contains l x) (sym (map_push w.withdrawn)) (Contains-append_right (map (λ y. y.call) w.withdrawn) (gone_it.call ∷ []) x
      (subst (λ c. Contains (c ∷ []) x) (sym its) (subst (λ q. Contains (if q then s.call ∷ [] else []) x) offers.0 has)))))
      (λ x has. subst (λ l. Contains l x) (sym (map_push w.withdrawn)) (Contains-append_left (map (λ y. y.call) w.withdrawn) (gone_it.call ∷ []) x has))
    where
      map_push : (xs : List Withdrawn) → map (λ y. y.call) (xs ++ gone_it ∷ []) ≡ map (λ y. y.call) xs ++ gone_it.call ∷ []
      map_push [] = refl
      map_push (x ∷ xs) = ap (λ l. x.call ∷ l) (map_push xs)

  -- a client that is free leaves
  pub leave_keeps : IsFree (seat_of w client).phase → KeepsPromise z (record w { seats = slice_set w.seats (client - 1) (record (seat_of w client) { phase = Left }); marks = marks; events = events; refused = refused }) stub
  leave_keeps free =
      let none = free_none s.phase free in
      moves z w stub k client s there first (record s { phase = Left }) w.withdrawn marks events refused
      (record { its = λ isn't. absurd (cc isn't); next = λ isn't. absurd (cc isn't); may = λ isn't. absurd (cc isn't); waits = λ isn't. absurd (cc isn't); receipt = λ isn't. absurd (cc isn't); count = seated.count; few = seated.few })
      (λ d x other are. are) gone refl boot (none_now w s none.1) (none_now w (record s { phase = Left }) refl) (λ x has. absurd (none_of_nothing s x none.0 has)) (λ x has. has)

  -- a reply that is to be handed over is handed over
  pub hand_keeps : (reply : Reply) → (seat_of w client).phase ≡ Receipted
      → KeepsPromise z (record w { seats = slice_set w.seats (client - 1) (record (seat_of w client) { phase = Idle; reply = reply }); marks = marks; events = events; refused = refused }) stub
  hand_keeps reply is =
      moves z w stub k client s there first (record s { phase = Idle; reply = reply }) w.withdrawn marks events refused
      (record { its = λ isn't. absurd (cc isn't); next = λ isn't. absurd (cc isn't); may = λ isn't. absurd (cc isn't); waits = λ isn't. absurd (cc isn't); receipt = λ isn't. absurd (cc isn't); count = seated.count; few = seated.few })
      (λ d x other are. are) gone refl boot (none_now w s (ap is_held_phase is)) (none_now w (record s { phase = Idle; reply = reply }) refl) (λ x has. absurd (none_of_nothing s x (ap is_offered is) has)) (λ x has. has)

  -- a reply that was held in a service that failed, or in another boot, is lost: its client is asked again
  pub lose_keeps : (seat_of w client).phase ≡ Held → HoldsNoneNow w (seat_of w client)
      → KeepsPromise z (record w { seats = slice_set w.seats (client - 1) (record (seat_of w client) { phase = Asked }); marks = marks; events = events; refused = refused }) stub
  lose_keeps is none =
      let offers : is_offered s.phase ≡ true = ap is_offered is in
      moves z w stub k client s there first (record s { phase = Asked }) w.withdrawn marks events refused
      (record { its = λ o. seated.its offers; next = λ o. seated.next offers; may = λ o. seated.may offers; waits = λ isn't. absurd (cc isn't); receipt = λ isn't. absurd (cc isn't); count = seated.count; few = seated.few })
      (λ d x other are. are) gone refl boot none (none_now w (record s { phase = Asked }) refl) (λ x has. inl (subst (λ q. Contains (if q then s.call ∷ [] else []) x) offers has)) (λ x has. has)

  -- the reply that is to be handed over is that of the client's last entry
  pub receipt_is : (seat_of w client).phase ≡ Receipted → last_of (calls_of w.history client) ≡ Some (record { call = (seat_of w client).call; reply = (seat_of w client).reply })
  receipt_is is = seated.receipt is

-- what a world keeps says nothing of its numbers of events
pub counted_keeps : (z : Setting) (w : WorldView) (stub : Stub) (events refused : ℕ) → KeepsPromise z w stub → KeepsPromise z (record w { events = events; refused = refused }) stub
counted_keeps z w stub events refused k = reseated z w (record w { events = events; refused = refused }) stub refl refl refl refl k.seats (λ x has. has) k
