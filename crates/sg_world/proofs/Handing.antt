-- A world keeps what it keeps where a reply is handed over, and where one is lost.
use Rattle.std.proofs.Common.{Bool, List, None, Option, Some, [], ap, arith, false, flat_map, if◌then◌else◌, inl, inr, length, refl, slice_get, slice_set, subst, sym, true, ℕ, ◌&&◌, ◌++◌, ◌+◌, ◌-◌, ◌<◌, ◌∙◌, ◌∷◌, ◌≡◌, ◌≢◌, ◌≤◌, ◌⊎◌}
use Rattle.sg_facts.specs.Object.{Object}
use Rattle.sg_replay.specs.Engined.{Engined}
use Rattle.sg_world.specs.Engines.Stubs.{stub_of}
use Rattle.sg_clients.specs.WorldView.{Seat, WorldView, boot_number, is_held_phase, is_offered, no_reply, offered_by, seat_of}
use Rattle.sg_clients.specs.declared.mark.Mark.{Mark}
use Rattle.sg_clients.specs.declared.mark.MarkKind.TheVariants.{Answer}
use Rattle.sg_clients.specs.declared.phase.Phase.TheVariants.{Asked, Held, Idle, Receipted}
use Rattle.sg_facts.proofs.Replaying.Found.{other_test}
use Rattle.sg_world.proofs.Marking.{marks_on}
use Rattle.sg_world.proofs.Moving.{rooms_moved, told_moved}
use Rattle.sg_world.proofs.Rooming.{marks_set, marks_some, offers_set}
use Rattle.sg_world.specs.Worlded.{IsWorld, Rooms, marks_due, marks_left}
use Rattle.sg_world_laws.proofs.Moves.{HoldsNoneNow}
use Rattle.sg_world_laws.proofs.Turns.{hand_keeps, lose_keeps, seat_there}
use Rattle.sg_world_laws.specs.Setting.{Setting}

module _ (z : Setting) (e : Engined) (w : WorldView) (rooms later : Rooms) (is : IsWorld z e w rooms) (client : ℕ) (first : 1 ≤ client) (last : client ≤ length w.seats) where
  there : slice_get w.seats (client - 1) ≡ Some (seat_of w client)
  there = seat_there w client first last

  -- a reply that is handed over takes one mark
  pub may_hand : (seat_of w client).phase ≡ Receipted → 0 < rooms.marks
  may_hand receipted =
      let some = marks_some w.seats (client - 1) (seat_of w client) there in
      let two : marks_due (seat_of w client).phase ≡ 2 = ap marks_due receipted in
      let room = is.rooms_are.marks in
      omega (arith, some, two, room)

  pub handed_on : (seat_of w client).phase ≡ Receipted → (seats : List Seat) (marks : List Mark) → seats ≡ slice_set w.seats (client - 1) (record (seat_of w client) { phase = Idle; reply = no_reply })
      → marks ≡ w.marks ++ record { client = client; kind = Answer } ∷ [] → rooms.entries ≤ later.entries → rooms.withdrawals ≤ later.withdrawals → rooms.marks ≤ later.marks + 1
      → IsWorld z e (record w { seats = seats; marks = marks }) later
  handed_on receipted seats marks set marks_are entries withdrawals marked =
      subst (λ s. IsWorld z e (record w { seats = s; marks = marks }) later) (sym set)
      (subst (λ m. IsWorld z e (record w { seats = slice_set w.seats (client - 1) new; marks = m }) later) (sym marks_are)
      (record {
        set = is.set;
        keeps = hand_keeps z w (stub_of e) is.keeps client first last (w.marks ++ record { client = client; kind = Answer } ∷ []) w.events w.refused no_reply receipted;
        tracked = is.tracked;
        rooms_are = record {
          entries = (let was = is.rooms_are.entries in omega (arith, was, offers, none, entries));
          withdrawals = (let was = is.rooms_are.withdrawals in omega (arith, was, offers, none, withdrawals));
          marks = (let was = is.rooms_are.marks in omega (arith, was, all, two, marked));
        };
        marked = marks_on w is.marked client (seat_of w client) new there first Answer refl refl refl w.events w.refused;
      }))
    where
      new : Seat
      new = record (seat_of w client) { phase = Idle; reply = no_reply }

      offers : length (flat_map offered_by (slice_set w.seats (client - 1) (record (seat_of w client) { phase = Idle; reply = no_reply }))) + length (offered_by (seat_of w client)) ≡ length (flat_map offered_by w.seats) + 0
      offers = offers_set w.seats (client - 1) (seat_of w client) (record (seat_of w client) { phase = Idle; reply = no_reply }) there

      none : length (offered_by (seat_of w client)) ≡ 0
      none = ap (λ p. length (if is_offered p then (seat_of w client).call ∷ [] else [])) receipted

      all : marks_left (slice_set w.seats (client - 1) (record (seat_of w client) { phase = Idle; reply = no_reply })) + marks_due (seat_of w client).phase ≡ marks_left w.seats + 1
      all = marks_set w.seats (client - 1) (seat_of w client) (record (seat_of w client) { phase = Idle; reply = no_reply }) there

      two : marks_due (seat_of w client).phase ≡ 2
      two = ap marks_due receipted

  -- a reply of another boot isn't held in the running one
  none_held : (w.running ≡ None) ⊎ ((seat_of w client).boot ≢ boot_number w) → HoldsNoneNow w (seat_of w client)
  none_held gone = by w.running gone
    where
      by : (r : Option Object) → (r ≡ None) ⊎ ((seat_of w client).boot ≢ boot_number w) → HoldsNoneNow (record w { running = r }) (seat_of w client)
      by None gone = tt
      by (Some v) (inl none) = absurd (cc none)
      by (Some v) (inr other) = ap (λ q. is_held_phase (seat_of w client).phase && q) (other_test (seat_of w client).boot (boot_number w) other) ∙ nothing (is_held_phase (seat_of w client).phase)
        where
          nothing : (t : Bool) → (t && false) ≡ false
          nothing true = refl
          nothing false = refl

  pub lost_on : (seat_of w client).phase ≡ Held → (w.running ≡ None) ⊎ ((seat_of w client).boot ≢ boot_number w) → (seats : List Seat)
      → seats ≡ slice_set w.seats (client - 1) (record (seat_of w client) { phase = Asked }) → IsWorld z e (record w { seats = seats }) rooms
  lost_on held gone seats set =
      let offers : is_offered (seat_of w client).phase ≡ true = ap is_offered held in
      let new : Seat = record (seat_of w client) { phase = Asked } in
      subst (λ s. IsWorld z e (record w { seats = s }) rooms) (sym set)
      (record {
        set = is.set;
        keeps = lose_keeps z w (stub_of e) is.keeps client first last w.marks w.events w.refused held (none_held gone);
        tracked = is.tracked;
        rooms_are = rooms_moved w.seats (client - 1) (seat_of w client) new rooms there offers refl is.rooms_are;
        marked = record { entries = is.marked.entries; withdrawals = is.marked.withdrawals; phases = told_moved w.marks w.seats (client - 1) (seat_of w client) new there offers refl is.marked.phases };
      })
