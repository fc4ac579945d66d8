-- What a world keeps where one seat changes, and no history.

-- a call that meets the conditions of an offer may be made
use Rattle.std.proofs.Common.{List, arith, length, slice_set, ℕ, ◌*◌, ◌+◌, ◌-◌, ◌≡◌, ◌≤◌, subst, sym, true, Some, false, flat_map, refl, slice_get, ◌<◌, [], ap, if◌then◌else◌, ◌++◌, ◌∷◌, ◌∙◌}
use Rattle.std.proofs.Math.ListN.{set}
use Rattle.sg_facts.specs.sg_base.declared.call.Call.{Call}
use Rattle.sg_world.specs.Engines.Stubs.{stub_of}
use Rattle.sg_facts.specs.Interface.{declares}
use Rattle.sg_facts.specs.Kinds.{AreWords, FitsKinds}
use Rattle.sg_facts.specs.Limits.{last_client}
use Rattle.sg_facts.specs.declared.entry.Entry.{Entry}
use Rattle.sg_world_laws.proofs.sg_recovery_laws.Objects.Guarded.{keeps}
use Rattle.sg_world_laws.proofs.sg_recovery_laws.Objects.Left.{stays}
use Rattle.sg_replay.specs.Engined.{Engined}
use Rattle.sg_clients.specs.declared.mark.MarkKind.TheVariants.{Leave, Offer, Withdraw}
use Rattle.sg_clients.specs.WorldView.{IsFree, Seat, WorldView, seat_of, is_left_phase, offered_by, MayWithdraw, is_offered}
use Rattle.sg_clients.specs.declared.mark.Mark.{Mark}
use Rattle.sg_clients.specs.declared.phase.Phase.{Phase}
use Rattle.sg_clients.specs.declared.phase.Phase.TheVariants.{Asked, Blocked, Held, Idle, Left, Receipted}
use Rattle.sg_clients.specs.declared.withdrawn.Withdrawn.{Withdrawn}
use Rattle.sg_facts.proofs.Replaying.Steps.{declared_within}
use Rattle.sg_world.proofs.Marking.{marks_on, withdrawal_marked}
use Rattle.sg_world.proofs.Rooming.{length_set, marks_few, offers_few, marks_set, offers_set, marks_some, offers_some}
use Rattle.sg_world.specs.Marked.{TellsAll}
use Rattle.sg_world.specs.Worlded.{HaveRooms, IsWorld, Rooms, marks_left, marks_due}
use Rattle.sg_world_laws.proofs.Moves.{its_seat}
use Rattle.sg_world_laws.proofs.Turns.{counted_keeps, offer_keeps, leave_keeps, seat_there, withdraw_keeps, withdraw_none}
use Rattle.sg_world_laws.specs.Keeping.{KeepsPromise}
use Rattle.sg_world_laws.specs.Seats.{IsSeated}
use Rattle.sg_replay.specs.sg_hist.Clients.{MayBeMade}
use Rattle.sg_world_laws.specs.Setting.{Setting, IsSetting}

pub may_make : (z : Setting) (set : IsSetting z) (call : Call) → 1 ≤ call.client → call.client ≤ last_client → declares z.iface call.fun ≡ true → FitsKinds z.iface.facts call → AreWords call.args → MayBeMade z.iface call
may_make z set call first last declared fits words =
    let within = declared_within z.iface call.fun set.fits declared in
    record { is_clients = record { is_call = record { first = within.0; last = within.1; fits = fits }; words = words; client_first = first; client_last = last }; declared = declared }

-- a client that is free and hasn't left may still leave
idle_marks : (p : Phase) → IsFree p → is_left_phase p ≡ false → marks_due p ≡ 1
idle_marks Idle free is = refl
idle_marks Left free is = absurd (cc is)
idle_marks Asked free is = absurd free
idle_marks Held free is = absurd free
idle_marks Receipted free is = absurd free
idle_marks Blocked free is = absurd free

-- a client whose call may be withdrawn has an entry, an answer and a leave before it
three_marks : (p : Phase) → MayWithdraw p → marks_due p ≡ 3
three_marks Asked may = refl
three_marks Blocked may = refl
three_marks Idle may = absurd may
three_marks Left may = absurd may
three_marks Held may = absurd may
three_marks Receipted may = absurd may

-- a world keeps what it keeps where what is numbered and what happened changes

module _ (z : Setting) (e : Engined) (w : WorldView) (rooms later : Rooms) (is : IsWorld z e w rooms) where
  pub turned : (seats : List Seat) (withdrawn : List Withdrawn) (marks : List Mark) (events : ℕ) → KeepsPromise z (record w { seats = seats; withdrawn = withdrawn; marks = marks; events = events }) (stub_of e)
      → HaveRooms seats later → TellsAll (record w { seats = seats; withdrawn = withdrawn; marks = marks; events = events }) → IsWorld z e (record w { seats = seats; withdrawn = withdrawn; marks = marks; events = events }) later
  turned seats withdrawn marks events keeps rooms_are marked = record { set = is.set; keeps = keeps; tracked = is.tracked; rooms_are = rooms_are; marked = marked }

  -- an event that wanted memory leaves it, and takes no room away
  pub only_counted : (events : ℕ) → rooms.entries ≤ later.entries → rooms.withdrawals ≤ later.withdrawals → rooms.marks ≤ later.marks → IsWorld z e (record w { events = events }) later
  only_counted events entries withdrawals marks = record {
    set = is.set;
    keeps = counted_keeps z w (stub_of e) events w.refused is.keeps;
    tracked = is.tracked;
    rooms_are = record {
      entries = (let was = is.rooms_are.entries in omega (arith, was, entries));
      withdrawals = (let was = is.rooms_are.withdrawals in omega (arith, was, withdrawals));
      marks = (let was = is.rooms_are.marks in omega (arith, was, marks));
    };
    marked = record { entries = is.marked.entries; withdrawals = is.marked.withdrawals; phases = is.marked.phases };
  }

  -- however its lists came about
  pub only_counted_of : (history : List Entry) (withdrawn : List Withdrawn) (marks : List Mark) (events : ℕ) → history ≡ w.history → withdrawn ≡ w.withdrawn → marks ≡ w.marks
      → rooms.entries ≤ later.entries → rooms.withdrawals ≤ later.withdrawals → rooms.marks ≤ later.marks → IsWorld z e (record w { history = history; withdrawn = withdrawn; marks = marks; events = events }) later
  only_counted_of history withdrawn marks events same_history same_withdrawn same_marks more_entries more_withdrawals more_marks =
      subst (λ h. IsWorld z e (record w { history = h; withdrawn = withdrawn; marks = marks; events = events }) later) (sym same_history)
      (subst (λ x. IsWorld z e (record w { withdrawn = x; marks = marks; events = events }) later) (sym same_withdrawn)
      (subst (λ m. IsWorld z e (record w { marks = m; events = events }) later) (sym same_marks) (only_counted events more_entries more_withdrawals more_marks)))

  -- an offer, where memory was taken for all clients
  pub offered_on : (client : ℕ) (first : 1 ≤ client) (last : client ≤ length w.seats) (call : Call) → IsFree (seat_of w client).phase → call.client ≡ client → call.seq ≡ (seat_of w client).seq + 1 → MayBeMade z.iface call
      → (events : ℕ) → length w.seats ≤ later.entries → length w.seats ≤ later.withdrawals → 3 * length w.seats ≤ later.marks
      → IsWorld z e (record w { seats = slice_set w.seats (client - 1) (record (seat_of w client) { phase = Asked; call = call }); marks = w.marks ++ record { client = client; kind = Offer } ∷ []; events = events }) later
  offered_on client first last call free its next may events entries withdrawals marked =
      let new : Seat = record (seat_of w client) { phase = Asked; call = call } in
      let seats = slice_set w.seats (client - 1) new in
      let marks = w.marks ++ record { client = client; kind = Offer } ∷ [] in
      let n = length_set w.seats (client - 1) new in
      let offers = offers_few seats in
      let all = marks_few seats in
      turned seats w.withdrawn marks events (offer_keeps z w (stub_of e) is.keeps client first last marks events w.refused call free its next may)
      (record { entries = omega (arith, n, offers, entries); withdrawals = omega (arith, n, offers, withdrawals); marks = omega (arith, n, all, marked) })
      (marks_on w is.marked client (seat_of w client) new (seat_there w client first last) first Offer refl refl refl events w.refused)

  -- however its lists came about
  pub offered_again : (client : ℕ) (first : 1 ≤ client) (last : client ≤ length w.seats) (call : Call) → IsFree (seat_of w client).phase → call.client ≡ client → call.seq ≡ (seat_of w client).seq + 1 → MayBeMade z.iface call
      → (history : List Entry) (seats : List Seat) (withdrawn : List Withdrawn) (marks : List Mark) (events : ℕ) → history ≡ w.history → seats ≡ slice_set w.seats (client - 1) (record (seat_of w client) { phase = Asked; call = call })
      → withdrawn ≡ w.withdrawn → marks ≡ w.marks ++ record { client = client; kind = Offer } ∷ [] → length w.seats ≤ later.entries → length w.seats ≤ later.withdrawals → 3 * length w.seats ≤ later.marks
      → IsWorld z e (record w { history = history; seats = seats; withdrawn = withdrawn; marks = marks; events = events }) later
  offered_again client first last call free its next may history seats withdrawn marks events same_history set same_withdrawn marks_are entries withdrawals marked =
      subst (λ h. IsWorld z e (record w { history = h; seats = seats; withdrawn = withdrawn; marks = marks; events = events }) later) (sym same_history)
      (subst (λ s. IsWorld z e (record w { seats = s; withdrawn = withdrawn; marks = marks; events = events }) later) (sym set)
      (subst (λ x. IsWorld z e (record w { seats = slice_set w.seats (client - 1) (record (seat_of w client) { phase = Asked; call = call }); withdrawn = x; marks = marks; events = events }) later) (sym same_withdrawn)
      (subst (λ m. IsWorld z e (record w { seats = slice_set w.seats (client - 1) (record (seat_of w client) { phase = Asked; call = call }); marks = m; events = events }) later) (sym marks_are)
      (offered_on client first last call free its next may events entries withdrawals marked))))

  -- a client that leaves, which takes one mark of those that memory was taken for
  pub left_on : (client : ℕ) (first : 1 ≤ client) (last : client ≤ length w.seats) → IsFree (seat_of w client).phase → is_left_phase (seat_of w client).phase ≡ false → (seats : List Seat) (marks : List Mark) (events : ℕ)
      → seats ≡ slice_set w.seats (client - 1) (record (seat_of w client) { phase = Left }) → marks ≡ w.marks ++ record { client = client; kind = Leave } ∷ [] → rooms.entries ≤ later.entries → rooms.withdrawals ≤ later.withdrawals → rooms.marks ≤ later.marks + 1
      → IsWorld z e (record w { seats = seats; marks = marks; events = events }) later
  left_on client first last free stays seats marks events set marks_are entries withdrawals marked =
      subst (λ s. IsWorld z e (record w { seats = s; marks = marks; events = events }) later) (sym set)
      (subst (λ m. IsWorld z e (record w { seats = slice_set w.seats (client - 1) new; marks = m; events = events }) later) (sym marks_are)
      (turned (slice_set w.seats (client - 1) new) w.withdrawn (w.marks ++ record { client = client; kind = Leave } ∷ []) events
      (leave_keeps z w (stub_of e) is.keeps client first last (w.marks ++ record { client = client; kind = Leave } ∷ []) events w.refused free)
      (record {
        entries = (let was = is.rooms_are.entries in omega (arith, was, offers, entries));
        withdrawals = (let was = is.rooms_are.withdrawals in omega (arith, was, offers, withdrawals));
        marks = (let was = is.rooms_are.marks in let one = idle_marks (seat_of w client).phase free stays in omega (arith, was, all, one, marked));
      })
      (marks_on w is.marked client (seat_of w client) new there first Leave refl refl refl events w.refused)))
    where
      new : Seat
      new = record (seat_of w client) { phase = Left }

      there : slice_get w.seats (client - 1) ≡ Some (seat_of w client)
      there = seat_there w client first last

      offers : length (flat_map offered_by (slice_set w.seats (client - 1) (record (seat_of w client) { phase = Left }))) + length (offered_by (seat_of w client)) ≡ length (flat_map offered_by w.seats) + 0
      offers = offers_set w.seats (client - 1) (seat_of w client) (record (seat_of w client) { phase = Left }) there

      all : marks_left (slice_set w.seats (client - 1) (record (seat_of w client) { phase = Left })) + marks_due (seat_of w client).phase ≡ marks_left w.seats + 0
      all = marks_set w.seats (client - 1) (seat_of w client) (record (seat_of w client) { phase = Left }) there

  pub may_leave : (client : ℕ) → 1 ≤ client → client ≤ length w.seats → IsFree (seat_of w client).phase → is_left_phase (seat_of w client).phase ≡ false → 0 < rooms.marks
  may_leave client first last free stays =
      let some = marks_some w.seats (client - 1) (seat_of w client) (seat_there w client first last) in
      let one = idle_marks (seat_of w client).phase free stays in
      let room = is.rooms_are.marks in
      omega (arith, some, one, room)

  -- a client whose call may be withdrawn offers it
  pub offers_it : (client : ℕ) → MayWithdraw (seat_of w client).phase → is_offered (seat_of w client).phase ≡ true
  offers_it client may = (withdraw_none (seat_of w client).phase may).0

  -- a client's seat is as the world keeps it
  seat_kept : (client : ℕ) → 1 ≤ client → client ≤ length w.seats → IsSeated z w.history client (seat_of w client)
  seat_kept client first last = its_seat z w (stub_of e) is.keeps client (seat_of w client) (seat_there w client first last) first (seat_of w client) w.withdrawn w.marks w.events w.refused

  -- a withdrawal takes one room for withdrawals, and one mark
  pub withdrawn_on : (client : ℕ) (first : 1 ≤ client) (last : client ≤ length w.seats) → MayWithdraw (seat_of w client).phase → (seats : List Seat) (withdrawn : List Withdrawn) (gone : Withdrawn) (marks : List Mark) (events : ℕ)
      → seats ≡ slice_set w.seats (client - 1) (record (seat_of w client) { phase = Idle }) → gone.call ≡ (seat_of w client).call → withdrawn ≡ w.withdrawn ++ gone ∷ [] → marks ≡ w.marks ++ record { client = client; kind = Withdraw } ∷ []
      → rooms.entries ≤ later.entries → rooms.withdrawals ≤ later.withdrawals + 1 → rooms.marks ≤ later.marks + 1 → IsWorld z e (record w { seats = seats; withdrawn = withdrawn; marks = marks; events = events }) later
  withdrawn_on client first last may seats withdrawn gone marks events set its list marks_are entries withdrawals marked =
      subst (λ s. IsWorld z e (record w { seats = s; withdrawn = withdrawn; marks = marks; events = events }) later) (sym set)
      (subst (λ l. IsWorld z e (record w { seats = slice_set w.seats (client - 1) new; withdrawn = l; marks = marks; events = events }) later) (sym list)
      (subst (λ m. IsWorld z e (record w { seats = slice_set w.seats (client - 1) new; withdrawn = w.withdrawn ++ gone ∷ []; marks = m; events = events }) later) (sym marks_are)
      (turned (slice_set w.seats (client - 1) new) (w.withdrawn ++ gone ∷ []) (w.marks ++ record { client = client; kind = Withdraw } ∷ []) events
      (withdraw_keeps z w (stub_of e) is.keeps client first last (w.marks ++ record { client = client; kind = Withdraw } ∷ []) events w.refused gone may its)
      (record {
        entries = (let was = is.rooms_are.entries in omega (arith, was, offers, one, entries));
        withdrawals = (let was = is.rooms_are.withdrawals in omega (arith, was, offers, one, withdrawals));
        marks = (let was = is.rooms_are.marks in let three = three_marks (seat_of w client).phase may in omega (arith, was, all, three, marked));
      })
      (withdrawal_marked w is.marked client (seat_of w client) new there first gone own refl events w.refused))))
    where
      new : Seat
      new = record (seat_of w client) { phase = Idle }

      own : gone.call.client ≡ client
      own = ap (λ c. c.client) its ∙ (seat_kept client first last).its (withdraw_none (seat_of w client).phase may).0

      there : slice_get w.seats (client - 1) ≡ Some (seat_of w client)
      there = seat_there w client first last

      offers : length (flat_map offered_by (slice_set w.seats (client - 1) (record (seat_of w client) { phase = Idle }))) + length (offered_by (seat_of w client)) ≡ length (flat_map offered_by w.seats) + 0
      offers = offers_set w.seats (client - 1) (seat_of w client) (record (seat_of w client) { phase = Idle }) there

      one : length (offered_by (seat_of w client)) ≡ 1
      one = ap (λ q. length (if q then (seat_of w client).call ∷ [] else [])) (withdraw_none (seat_of w client).phase may).0

      all : marks_left (slice_set w.seats (client - 1) (record (seat_of w client) { phase = Idle })) + marks_due (seat_of w client).phase ≡ marks_left w.seats + 1
      all = marks_set w.seats (client - 1) (seat_of w client) (record (seat_of w client) { phase = Idle }) there

  pub may_withdraw : (client : ℕ) → 1 ≤ client → client ≤ length w.seats → MayWithdraw (seat_of w client).phase → (0 < rooms.withdrawals) × (0 < rooms.marks)
  may_withdraw client first last may =
      let there = seat_there w client first last in
      let marks = marks_some w.seats (client - 1) (seat_of w client) there in
      let three = three_marks (seat_of w client).phase may in
      let offers = offers_some w.seats (client - 1) (seat_of w client) there in
      let one : length (offered_by (seat_of w client)) ≡ 1 = ap (λ q. length (if q then (seat_of w client).call ∷ [] else [])) (withdraw_none (seat_of w client).phase may).0 in
      let room = is.rooms_are.withdrawals in
      let mark_room = is.rooms_are.marks in
      (omega (arith, offers, one, room), omega (arith, marks, three, mark_room))
