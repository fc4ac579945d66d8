-- What a world's marks and memory come to where an answered call comes into the history.
use Rattle.std.proofs.Common.{Bool, List, Some, [], ap, append-nil, arith, false, if◌then◌else◌, length, map, refl, slice_get, slice_set, suc, sym, true, zero, ℕ, ◌++◌, ◌+◌, ◌-◌, ◌∙◌, ◌∷◌, ◌≡◌, ◌≤◌, subst}
use Rattle.sg_facts.specs.sg_base.declared.call.Call.{Call}
use Rattle.sg_facts.specs.declared.entry.Entry.{Entry}
use Rattle.sg_clients.specs.WorldView.{Seat, WorldView, is_blocked_phase, is_offered, offered_by, woken_seat}
use Rattle.sg_clients.specs.declared.mark.MarkKind.TheVariants.{Answer, Entry as IsEntered}
use Rattle.sg_clients.specs.declared.phase.Phase.{Phase}
use Rattle.sg_clients.specs.declared.phase.Phase.TheVariants.{Asked, Blocked, Held, Idle, Left, Receipted}
use Rattle.sg_world.proofs.Marking.{marked_push, told_set}
use Rattle.sg_world.proofs.Moving.{answered_seats, marks_woken, offers_woken, told_woken}
use Rattle.sg_world.proofs.Rooming.{marks_set, marks_some, offers_set, offers_some}
use Rattle.sg_world.specs.Marked.{AreTold, TellsAll, is_entry_mark, is_withdrawal_mark, marked_as}
use Rattle.sg_world.specs.Worlded.{HaveRooms, Rooms, marks_due}

set_again : (seats : List Seat) (at : ℕ) (a b : Seat) → slice_set (slice_set seats at a) at b ≡ slice_set seats at b
set_again [] at a b = refl
set_again (x ∷ seats) zero a b = refl
set_again (x ∷ seats) (suc at) a b = ap (λ l. x ∷ l) (set_again seats at a b)

get_set : (seats : List Seat) (at : ℕ) (s a : Seat) → slice_get seats at ≡ Some s → slice_get (slice_set seats at a) at ≡ Some a
get_set [] at s a there = absurd (cc there)
get_set (x ∷ seats) zero s a there = refl
get_set (x ∷ seats) (suc at) s a there = get_set seats at s a there

clients_push : (history : List Entry) (e : Entry) → map (λ x. x.call.client) (history ++ e ∷ []) ≡ map (λ x. x.call.client) history ++ e.call.client ∷ []
clients_push [] e = refl
clients_push (x ∷ history) e = ap (λ l. x.call.client ∷ l) (clients_push history e)

-- ---- marks

module _ (w : WorldView) (told : TellsAll w) (client : ℕ) (s : Seat) (there : slice_get w.seats (client - 1) ≡ Some s) (first : 1 ≤ client) (stays : is_blocked_phase s.phase ≡ false)
    (test : Call → Bool) (e : Entry) (its : e.call.client ≡ client) (new : Seat) where
  woken_there : slice_get (map (woken_seat test) w.seats) (client - 1) ≡ Some s
  woken_there = (answered_seats test w.seats (client - 1) s there stays s stays).1

  entries : marked_as is_entry_mark (w.marks ++ record { client = client; kind = IsEntered } ∷ []) ≡ map (λ x. x.call.client) (w.history ++ e ∷ [])
  entries = marked_push is_entry_mark w.marks (record { client = client; kind = IsEntered }) ∙ ap (λ l. l ++ client ∷ []) told.entries ∙ ap (λ c. map (λ x. x.call.client) w.history ++ c ∷ []) (sym its) ∙ sym (clients_push w.history e)

  withdrawals : marked_as is_withdrawal_mark (w.marks ++ record { client = client; kind = IsEntered } ∷ []) ≡ map (λ x. x.call.client) w.withdrawn
  withdrawals = marked_push is_withdrawal_mark w.marks (record { client = client; kind = IsEntered }) ∙ append-nil (marked_as is_withdrawal_mark w.marks) ∙ told.withdrawals

  entered : (mid : Seat) → mid.phase ≡ Receipted → AreTold (w.marks ++ record { client = client; kind = IsEntered } ∷ []) 1 (slice_set (map (woken_seat test) w.seats) (client - 1) mid)
  entered mid is = told_set w.marks IsEntered (map (woken_seat test) w.seats) client s mid woken_there first (told_woken w.marks 1 test w.seats told.phases) is

  -- its reply is to be handed over
  pub entered_told : new.phase ≡ Receipted → (events refused : ℕ)
      → TellsAll (record w { history = w.history ++ e ∷ []; seats = slice_set (map (woken_seat test) w.seats) (client - 1) new; marks = w.marks ++ record { client = client; kind = IsEntered } ∷ []; events = events; refused = refused })
  entered_told is events refused = record { entries = entries; withdrawals = withdrawals; phases = entered new is }

  -- or was handed over at once
  pub answered_told : new.phase ≡ Idle → (events refused : ℕ)
      → TellsAll (record w {
        history = w.history ++ e ∷ [];
        seats = slice_set (map (woken_seat test) w.seats) (client - 1) new;
        marks = w.marks ++ record { client = client; kind = IsEntered } ∷ [] ++ record { client = client; kind = Answer } ∷ [];
        events = events;
        refused = refused;
      })
  answered_told is events refused = record {
    entries = marked_push is_entry_mark (w.marks ++ record { client = client; kind = IsEntered } ∷ []) (record { client = client; kind = Answer })
        ∙ append-nil (marked_as is_entry_mark (w.marks ++ record { client = client; kind = IsEntered } ∷ [])) ∙ entries;
    withdrawals = marked_push is_withdrawal_mark (w.marks ++ record { client = client; kind = IsEntered } ∷ []) (record { client = client; kind = Answer })
        ∙ append-nil (marked_as is_withdrawal_mark (w.marks ++ record { client = client; kind = IsEntered } ∷ [])) ∙ withdrawals;
    phases =
        let mid : Seat = record new { phase = Receipted } in
        subst (AreTold (w.marks ++ record { client = client; kind = IsEntered } ∷ [] ++ record { client = client; kind = Answer } ∷ []) 1) (set_again (map (woken_seat test) w.seats) (client - 1) mid new)
        (told_set (w.marks ++ record { client = client; kind = IsEntered } ∷ []) Answer (slice_set (map (woken_seat test) w.seats) (client - 1) mid) client mid new
        (get_set (map (woken_seat test) w.seats) (client - 1) s mid woken_there) first (entered mid refl) is);
  }

-- ---- memory

three_due : (p : Phase) → is_offered p ≡ true → marks_due p ≡ 3
three_due Asked is = refl
three_due Held is = refl
three_due Blocked is = refl
three_due Idle is = absurd (cc is)
three_due Receipted is = absurd (cc is)
three_due Left is = absurd (cc is)

-- a client whose call isn't answered has memory for its entry, its answer and its leave
pub entered_some : (seats : List Seat) (rooms : Rooms) (have : HaveRooms seats rooms) (at : ℕ) (s : Seat) → slice_get seats at ≡ Some s → is_offered s.phase ≡ true → (1 ≤ rooms.entries) × (3 ≤ rooms.marks)
entered_some seats rooms have at s there is =
    let one : length (offered_by s) ≡ 1 = ap (λ q. length (if q then s.call ∷ [] else [])) is in
    let three = three_due s.phase is in
    let offers = offers_some seats at s there in
    let marks = marks_some seats at s there in
    let entries = have.entries in
    let left = have.marks in
    (omega (arith, one, offers, entries), omega (arith, three, marks, left))

-- and takes it after its entry, where others are woken
pub entered_rooms : (seats : List Seat) (rooms later : Rooms) (have : HaveRooms seats rooms) (at : ℕ) (s : Seat) → slice_get seats at ≡ Some s → is_offered s.phase ≡ true → is_blocked_phase s.phase ≡ false
    → (test : Call → Bool) (new : Seat) → is_offered new.phase ≡ false → rooms.entries ≤ later.entries + 1 → rooms.withdrawals ≤ later.withdrawals → rooms.marks + marks_due new.phase ≤ later.marks + 3
    → HaveRooms (slice_set (map (woken_seat test) seats) at new) later
entered_rooms seats rooms later have at s there is stays test new gone entries withdrawals marks =
    let now = (answered_seats test seats at s there stays s stays).1 in
    let offers = offers_set (map (woken_seat test) seats) at s new now in
    let left = marks_set (map (woken_seat test) seats) at s new now in
    let one : length (offered_by s) ≡ 1 = ap (λ q. length (if q then s.call ∷ [] else [])) is in
    let none : length (offered_by new) ≡ 0 = ap (λ q. length (if q then new.call ∷ [] else [])) gone in
    let three = three_due s.phase is in
    let same = offers_woken test seats in
    let due = marks_woken test seats in
    record {
      entries = (let was = have.entries in omega (arith, was, offers, one, none, same, entries));
      withdrawals = (let was = have.withdrawals in omega (arith, was, offers, one, none, same, withdrawals));
      marks = (let was = have.marks in omega (arith, was, left, three, due, marks));
    }
