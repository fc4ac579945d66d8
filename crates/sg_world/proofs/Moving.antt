-- What a world's marks and memory come to where a seat changes without a mark, where clients are woken, and where an entry is appended.
use Rattle.std.proofs.Common.{Bool, List, None, Option, Some, [], ap, arith, false, flat_map, if◌then◌else◌, length, map, refl, length-append, slice_get, slice_set, subst, sym, true, ℕ, ◌&&◌, ◌++◌, ◌+◌, ◌∙◌, ◌∷◌, ◌≡◌}
use Rattle.std.proofs.lemmas.List.{length-map}
use Rattle.sg_facts.specs.sg_base.declared.call.Call.{Call}
use Rattle.sg_clients.specs.WorldView.{Seat, is_blocked_phase, is_offered, offered_by, woken_seat}
use Rattle.sg_clients.specs.declared.mark.Mark.{Mark}
use Rattle.sg_clients.specs.declared.mark.MarkKind.{MarkKind}
use Rattle.sg_clients.specs.declared.mark.MarkKind.TheVariants.{Answer, Entry as IsEntered, Leave, Offer, Withdraw}
use Rattle.sg_clients.specs.declared.phase.Phase.{Phase}
use Rattle.sg_clients.specs.declared.phase.Phase.TheVariants.{Asked, Blocked, Held, Idle, Left, Receipted}
use Rattle.sg_world.proofs.Rooming.{marks_set, offers_set}
use Rattle.sg_world.specs.Marked.{AreTold, IsPhaseAfter, last_kind}
use Rattle.sg_world.specs.Worlded.{HaveRooms, Rooms, marks_due, marks_left}
use Rattle.sg_world_laws.proofs.Seating.{HasSeat, get_at, has_seat, woken_at}

-- ---- phases

-- a client whose call isn't answered goes on to have one
pub still_after : (kind : Option MarkKind) (p q : Phase) → is_offered p ≡ true → is_offered q ≡ true → IsPhaseAfter kind p → IsPhaseAfter kind q
still_after None p q was is after = absurd (let idle : is_offered p ≡ false = ap is_offered after in cc (was, idle))
still_after (Some Offer) p q was is after = is
still_after (Some IsEntered) p q was is after = absurd (let idle : is_offered p ≡ false = ap is_offered after in cc (was, idle))
still_after (Some Answer) p q was is after = absurd (let idle : is_offered p ≡ false = ap is_offered after in cc (was, idle))
still_after (Some Withdraw) p q was is after = absurd (let idle : is_offered p ≡ false = ap is_offered after in cc (was, idle))
still_after (Some Leave) p q was is after = absurd (let idle : is_offered p ≡ false = ap is_offered after in cc (was, idle))

told_there : (marks : List Mark) (n : ℕ) (front back : List Seat) (s new : Seat) → ((kind : Option MarkKind) → IsPhaseAfter kind s.phase → IsPhaseAfter kind new.phase) → AreTold marks n (front ++ s ∷ back) → AreTold marks n (front ++ new ∷ back)
told_there marks n [] back s new on told = (on (last_kind marks n) told.0, told.1)
told_there marks n (x ∷ front) back s new on told = (told.0, told_there marks (n + 1) front back s new on told.1)

-- a seat changes without a mark
pub told_moved : (marks : List Mark) (seats : List Seat) (at : ℕ) (s new : Seat) → slice_get seats at ≡ Some s → is_offered s.phase ≡ true → is_offered new.phase ≡ true → AreTold marks 1 seats → AreTold marks 1 (slice_set seats at new)
told_moved marks seats at s new there was is told =
    let has : HasSeat seats at s = has_seat seats at s there in
    subst (AreTold marks 1) (sym (has.set new)) (told_there marks 1 has.front has.back s new (λ kind. still_after kind s.phase new.phase was is) (subst (AreTold marks 1) has.is told))

-- whoever is woken goes on to have his call
woken_after : (kind : Option MarkKind) (test : Call → Bool) (s : Seat) → IsPhaseAfter kind s.phase → IsPhaseAfter kind (woken_seat test s).phase
woken_after kind test s after = by s.phase refl (test s.call)
  where
    on : (t : Bool) → is_offered s.phase ≡ true → IsPhaseAfter kind (if t then record s { phase = Asked } else s).phase
    on true was = still_after kind s.phase Asked was refl after
    on false was = after

    by : (p : Phase) → s.phase ≡ p → (b : Bool) → IsPhaseAfter kind (if is_blocked_phase s.phase && b then record s { phase = Asked } else s).phase
    by Blocked is b = on (is_blocked_phase s.phase && b) (ap is_offered is)
    by Idle is b = subst (λ q. IsPhaseAfter kind (if is_blocked_phase q && b then record s { phase = Asked } else s).phase) (sym is) after
    by Asked is b = subst (λ q. IsPhaseAfter kind (if is_blocked_phase q && b then record s { phase = Asked } else s).phase) (sym is) after
    by Held is b = subst (λ q. IsPhaseAfter kind (if is_blocked_phase q && b then record s { phase = Asked } else s).phase) (sym is) after
    by Receipted is b = subst (λ q. IsPhaseAfter kind (if is_blocked_phase q && b then record s { phase = Asked } else s).phase) (sym is) after
    by Left is b = subst (λ q. IsPhaseAfter kind (if is_blocked_phase q && b then record s { phase = Asked } else s).phase) (sym is) after

pub told_woken : (marks : List Mark) (n : ℕ) (test : Call → Bool) (seats : List Seat) → AreTold marks n seats → AreTold marks n (map (woken_seat test) seats)
told_woken marks n test [] told = tt
told_woken marks n test (s ∷ seats) told = (woken_after (last_kind marks n) test s told.0, told_woken marks (n + 1) test seats told.1)

-- ---- memory

offered_woken : (test : Call → Bool) (s : Seat) → (length (offered_by (woken_seat test s)) ≡ length (offered_by s)) × (marks_due (woken_seat test s).phase ≡ marks_due s.phase)
offered_woken test s = by s.phase refl (test s.call)
  where
    on : (t : Bool) → s.phase ≡ Blocked → (length (offered_by (if t then record s { phase = Asked } else s)) ≡ length (offered_by s)) × (marks_due (if t then record s { phase = Asked } else s).phase ≡ marks_due s.phase)
    on true is = (sym (ap (λ p. length (if is_offered p then s.call ∷ [] else [])) is), sym (ap marks_due is))
    on false is = (refl, refl)

    by : (p : Phase) → s.phase ≡ p → (b : Bool) → (length (offered_by (if is_blocked_phase s.phase && b then record s { phase = Asked } else s)) ≡ length (offered_by s)) × (marks_due (if is_blocked_phase s.phase && b then record s { phase = Asked } else s).phase ≡ marks_due s.phase)
    by Blocked is b = on (is_blocked_phase s.phase && b) is
    by Idle is b = subst (λ q. (length (offered_by (if is_blocked_phase q && b then record s { phase = Asked } else s)) ≡ length (offered_by s)) × (marks_due (if is_blocked_phase q && b then record s { phase = Asked } else s).phase ≡ marks_due s.phase)) (sym is) (refl, refl)
    by Asked is b = subst (λ q. (length (offered_by (if is_blocked_phase q && b then record s { phase = Asked } else s)) ≡ length (offered_by s)) × (marks_due (if is_blocked_phase q && b then record s { phase = Asked } else s).phase ≡ marks_due s.phase)) (sym is) (refl, refl)
    by Held is b = subst (λ q. (length (offered_by (if is_blocked_phase q && b then record s { phase = Asked } else s)) ≡ length (offered_by s)) × (marks_due (if is_blocked_phase q && b then record s { phase = Asked } else s).phase ≡ marks_due s.phase)) (sym is) (refl, refl)
    by Receipted is b = subst (λ q. (length (offered_by (if is_blocked_phase q && b then record s { phase = Asked } else s)) ≡ length (offered_by s)) × (marks_due (if is_blocked_phase q && b then record s { phase = Asked } else s).phase ≡ marks_due s.phase)) (sym is) (refl, refl)
    by Left is b = subst (λ q. (length (offered_by (if is_blocked_phase q && b then record s { phase = Asked } else s)) ≡ length (offered_by s)) × (marks_due (if is_blocked_phase q && b then record s { phase = Asked } else s).phase ≡ marks_due s.phase)) (sym is) (refl, refl)

-- waking takes no memory
pub offers_woken : (test : Call → Bool) (seats : List Seat) → length (flat_map offered_by (map (woken_seat test) seats)) ≡ length (flat_map offered_by seats)
offers_woken test [] = refl
offers_woken test (s ∷ seats) =
    let both = length-append (offered_by (woken_seat test s)) (flat_map offered_by (map (woken_seat test) seats)) in
    let was = length-append (offered_by s) (flat_map offered_by seats) in
    let rest = offers_woken test seats in
    let one = (offered_woken test s).0 in
    omega (arith, both, was, rest, one)

pub marks_woken : (test : Call → Bool) (seats : List Seat) → marks_left (map (woken_seat test) seats) ≡ marks_left seats
marks_woken test [] = refl
marks_woken test (s ∷ seats) = let rest = marks_woken test seats in let one = (offered_woken test s).1 in omega (arith, rest, one)

pub rooms_woken : (test : Call → Bool) (seats : List Seat) (rooms : Rooms) → HaveRooms seats rooms → HaveRooms (map (woken_seat test) seats) rooms
rooms_woken test seats rooms have = record {
  entries = (let was = have.entries in let n = offers_woken test seats in omega (arith, was, n));
  withdrawals = (let was = have.withdrawals in let n = offers_woken test seats in omega (arith, was, n));
  marks = (let was = have.marks in let n = marks_woken test seats in omega (arith, was, n));
}

-- a client that goes on to have its call takes none either
pub rooms_moved : (seats : List Seat) (at : ℕ) (s new : Seat) (rooms : Rooms) → slice_get seats at ≡ Some s → is_offered s.phase ≡ true → is_offered new.phase ≡ true → HaveRooms seats rooms → HaveRooms (slice_set seats at new) rooms
rooms_moved seats at s new rooms there was is have =
    let offers = offers_set seats at s new there in
    let marks = marks_set seats at s new there in
    let one : length (offered_by s) ≡ 1 = ap (λ q. length (if q then s.call ∷ [] else [])) was in
    let other : length (offered_by new) ≡ 1 = ap (λ q. length (if q then new.call ∷ [] else [])) is in
    let three = due s.phase was in
    let third = due new.phase is in
    record {
      entries = (let n = have.entries in omega (arith, n, offers, one, other));
      withdrawals = (let n = have.withdrawals in omega (arith, n, offers, one, other));
      marks = (let n = have.marks in omega (arith, n, marks, three, third));
    }
  where
    due : (p : Phase) → is_offered p ≡ true → marks_due p ≡ 3
    due Asked is = refl
    due Held is = refl
    due Blocked is = refl
    due Idle is = absurd (cc is)
    due Receipted is = absurd (cc is)
    due Left is = absurd (cc is)

-- ---- an answered call

-- the seat of a client that doesn't wait is answered, and others are woken, in either order
pub answered_seats : (test : Call → Bool) (seats : List Seat) (at : ℕ) (s : Seat) → slice_get seats at ≡ Some s → is_blocked_phase s.phase ≡ false → (new : Seat) → is_blocked_phase new.phase ≡ false
    → (map (woken_seat test) (slice_set seats at new) ≡ slice_set (map (woken_seat test) seats) at new) × (slice_get (map (woken_seat test) seats) at ≡ Some s)
answered_seats test seats at s there stays new is =
    let has : HasSeat seats at s = has_seat seats at s there in
    let own : woken_seat test s ≡ s = ap (λ q. if q && test s.call then record s { phase = Asked } else s) stays in
    let its : woken_seat test new ≡ new = ap (λ q. if q && test new.call then record new { phase = Asked } else new) is in
    let woken : map (woken_seat test) seats ≡ map (woken_seat test) has.front ++ s ∷ map (woken_seat test) has.back
    = ap (map (woken_seat test)) has.is ∙ woken_at test has.front has.back s ∙ ap (λ x. map (woken_seat test) has.front ++ x ∷ map (woken_seat test) has.back) own in
    let place : length (map (woken_seat test) has.front) ≡ at = length-map has.front (woken_seat test) ∙ has.place in (
      ap (map (woken_seat test)) (has.set new) ∙ woken_at test has.front has.back new ∙ ap (λ x. map (woken_seat test) has.front ++ x ∷ map (woken_seat test) has.back) its
          ∙ sym (set_there (map (woken_seat test) has.front) (map (woken_seat test) has.back) s new) ∙ ap (λ n. slice_set (map (woken_seat test) has.front ++ s ∷ map (woken_seat test) has.back) n new) place ∙ ap (λ l. slice_set l at new) (sym woken),
      ap (λ l. slice_get l at) woken ∙ ap (λ n. slice_get (map (woken_seat test) has.front ++ s ∷ map (woken_seat test) has.back) n) (sym place) ∙ get_at (map (woken_seat test) has.front) (map (woken_seat test) has.back) s,
    )
  where
    set_there : (front back : List Seat) (s new : Seat) → slice_set (front ++ s ∷ back) (length front) new ≡ front ++ new ∷ back
    set_there [] back s new = refl
    set_there (x ∷ front) back s new = ap (λ l. x ∷ l) (set_there front back s new)
