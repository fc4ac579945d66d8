-- The last boot has an item and no stop that nobody asked, or somebody will use the service, after each step of a client.
use Rattle.std.proofs.Common.{◌≡◌, ◌≢◌, ◌⊎◌, ℕ, ◌+◌, ◌≤◌, true, List, [], ◌∷◌, ◌++◌, None, Some, IsSome, length, length-append, map, refl, sym, ◌∙◌, ap, subst, inl, inr, arith}
use Rattle.std.specs.declared.option.Option.{Option}
use Rattle.sg_facts.specs.sg_base.Stops.{asked_after}
use Rattle.sg_boot.specs.Cells.{IsCell, IsRunning}
use Rattle.sg_facts.specs.declared.entry.Entry.{Entry}
use Rattle.sg_facts.specs.declared.trace.Item.{Item}
use Rattle.sg_facts.specs.Facts.{Facts}
use Rattle.sg_facts.specs.Guard.{guard}
use Rattle.sg_facts.specs.Interface.{Declared}
use Rattle.sg_facts.specs.Object.{Object, object_of}
use Rattle.sg_facts.specs.Trace.{Boot}
use Rattle.sg_recovery_laws.specs.sg_hist.Recovered.{ends_committed, is_visible_reply}
use Rattle.sg_clients.proofs.Lines.{length_map, same_or_other, seat_woken}
use Rattle.sg_recovery_laws.specs.sg_hist.Growing.{booted, last_stop, noted, struck}
use Rattle.sg_clients.specs.WorldView.{Seat, seat_in, woken_seat}
use Rattle.sg_clients.specs.declared.phase.Phase.TheVariants.{Asked, Held}
use Rattle.sg_world_laws.proofs.Ending.Seats.{OthersStay, each_woken, others_same, stays_woken}
use Rattle.sg_world_laws.proofs.Ending.Boots.{some_item}
use Rattle.sg_world_laws.specs.Ending.{EndsWell, IsEndingSoFar, IsHeldUsed, EachSeat, SomebodyAsks}
use Rattle.sg_recovery_laws.specs.sg_hist.Inside.Parts.{EndsUsed, EndsQuiet, IsQuietStop, last_point}

-- ---- boots

-- an item more is asked
pub asked_noted : (boots : List Boot) (item : Item) → EndsUsed (noted boots item)
asked_noted [] item = tt
asked_noted (b ∷ []) item = tt
asked_noted (b ∷ c ∷ []) item = some_item c.items item
asked_noted (b ∷ c ∷ d ∷ []) item = asked_noted (c ∷ d ∷ []) item
asked_noted (b ∷ c ∷ d ∷ e ∷ boots) item = asked_noted (c ∷ d ∷ e ∷ boots) item

-- a stop asks nothing
pub asked_struck : (boots : List Boot) (stop : ℕ) → EndsUsed boots → EndsUsed (struck boots stop)
asked_struck [] stop is = tt
asked_struck (b ∷ []) stop is = tt
asked_struck (b ∷ c ∷ []) stop is = is
asked_struck (b ∷ c ∷ d ∷ []) stop is = asked_struck (c ∷ d ∷ []) stop is
asked_struck (b ∷ c ∷ d ∷ e ∷ boots) stop is = asked_struck (c ∷ d ∷ e ∷ boots) stop is

-- a boot that goes on is quiet
pub quiet_running : (facts : Facts) (boots : List Boot) → last_stop boots ≡ None → EndsQuiet facts boots
quiet_running facts [] none = tt
quiet_running facts (b ∷ []) none = subst (IsQuietStop facts b.items) (sym none) tt
quiet_running facts (b ∷ c ∷ boots) none = quiet_running facts (c ∷ boots) none

pub stop_noted : (boots : List Boot) (item : Item) → last_stop (noted boots item) ≡ last_stop boots
stop_noted [] item = refl
stop_noted (b ∷ []) item = refl
stop_noted (b ∷ c ∷ []) item = refl
stop_noted (b ∷ c ∷ d ∷ boots) item = stop_noted (c ∷ d ∷ boots) item

pub last_point_noted : (asked : ℕ) (items : List Item) (item : Item) → last_point asked (items ++ item ∷ []) ≡ item.points
last_point_noted asked [] item = refl
last_point_noted asked (x ∷ items) item = last_point_noted x.points items item

pub ends_noted : (facts : Facts) (items : List Item) (item : Item) → ends_committed facts (items ++ item ∷ []) ≡ is_visible_reply facts item
ends_noted facts [] item = refl
ends_noted facts (x ∷ []) item = refl
ends_noted facts (x ∷ y ∷ items) item = ends_noted facts (y ∷ items) item

-- so is one that stopped behind the commit of its last item
pub quiet_after : (facts : Facts) (boots : List Boot) (item : Item) → is_visible_reply facts item ≡ true → EndsQuiet facts (struck (noted boots item) (asked_after item.points 1))
quiet_after facts [] item visible = tt
quiet_after facts (b ∷ []) item visible = (ends_noted facts b.items item ∙ visible, ap (λ n. asked_after n 1) (sym (last_point_noted 0 b.items item)))
quiet_after facts (b ∷ c ∷ []) item visible = quiet_after facts (c ∷ []) item visible
quiet_after facts (b ∷ c ∷ d ∷ []) item visible = quiet_after facts (c ∷ d ∷ []) item visible
quiet_after facts (b ∷ c ∷ d ∷ e ∷ boots) item visible = quiet_after facts (c ∷ d ∷ e ∷ boots) item visible

-- a service that is up has a boot that goes on
pub goes_on : (facts : Facts) (running : Option Object) (boots : List Boot) → IsCell facts running boots → IsSome running → last_stop boots ≡ None
goes_on facts running boots cell up = by running up cell.runs
  where
    by : (o : Option Object) → IsSome o → IsRunning facts boots o → last_stop boots ≡ None
    by None up is = absurd (cc up)
    by (Some v) up is = is.unstopped

-- ---- a step

module _ (i : Declared) (history now : List Entry) (boots : List Boot) (seats later : List Seat) (c : ℕ) (is : IsEndingSoFar i history boots seats) (clients : length later ≡ length seats)
    (others : OthersStay seats c later) where
  was_seat : (client : ℕ) → client ≤ length later → client ≤ length seats
  was_seat client to = subst (λ n. client ≤ n) clients to

  -- replies are held as before, in boots of which the last may have been asked more, or stopped
  held_kept : (next : List Boot) → length next ≡ length boots → (EndsUsed boots → EndsUsed next) → ((seat_in later c).phase ≡ Held → IsHeldUsed next (seat_in later c))
      → EachSeat (λ client s. s.phase ≡ Held → IsHeldUsed next s) later
  held_kept next count more own client from to holds = at (same_or_other client c)
    where
      at : (client ≡ c) ⊎ (client ≢ c) → IsHeldUsed next (seat_in later client)
      at (inl it) = subst (λ n. IsHeldUsed next (seat_in later n)) (sym it) (own (ap (λ n. (seat_in later n).phase) (sym it) ∙ holds))
      at (inr other) =
          let was = (others client from to other).held holds in
          let h = is.held client from (was_seat client to) was.0 in
          record { within = omega (arith, was.1, h.within, count); used = λ it. more (h.used (sym was.1 ∙ it ∙ count)) }

  -- the boots and the object stay, and the client won't ask
  pub ending_kept : object_of i.facts now ≡ object_of i.facts history → ((seat_in seats c).phase ≡ Asked → guard i (object_of i.facts history) (seat_in seats c).call ≡ None → ⊥)
      → ((seat_in later c).phase ≡ Held → ⊥) → IsEndingSoFar i now boots later
  ending_kept same not_it none = record { ends = by is.ends; held = held_kept boots refl (λ asked. asked) (λ holds. absurd (none holds)) }
    where
      by : EndsWell i.facts boots ⊎ SomebodyAsks i history seats → EndsWell i.facts boots ⊎ SomebodyAsks i now later
      by (inl ends) = inl ends
      by (inr asks) = at (same_or_other asks.client c)
        where
          at : (asks.client ≡ c) ⊎ (asks.client ≢ c) → EndsWell i.facts boots ⊎ SomebodyAsks i now later
          at (inl own) = absurd (not_it (ap (λ n. (seat_in seats n).phase) (sym own) ∙ asks.phase) (ap (λ n. guard i (object_of i.facts history) (seat_in seats n).call) (sym own) ∙ asks.passes))
          at (inr other) =
              let to : asks.client ≤ length later = subst (λ n. asks.client ≤ n) (sym clients) asks.last in
              let stays = (others asks.client asks.first to other).asked asks.phase in
              inr (record {
                client = asks.client;
                first = asks.first;
                last = to;
                phase = stays.0;
                passes = ap (λ o. guard i o (seat_in later asks.client).call) same ∙ ap (guard i (object_of i.facts history)) stays.1 ∙ asks.passes;
              })

  -- the boots end well
  pub ending_now : (next : List Boot) → EndsWell i.facts next → length next ≡ length boots → ((seat_in later c).phase ≡ Held → (seat_in later c).boot ≤ length boots) → IsEndingSoFar i now next later
  ending_now next ends count own = record {
    ends = inl ends;
    held = held_kept next count (λ asked. ends.0) (λ holds. record { within = omega (arith, own holds, count); used = λ it. ends.0 });
  }

-- a client asks that will use the service in its next turn
asks_now : (i : Declared) (history : List Entry) (seats : List Seat) (c : ℕ) → 1 ≤ c → c ≤ length seats → (seat_in seats c).phase ≡ Asked → guard i (object_of i.facts history) (seat_in seats c).call ≡ None
    → SomebodyAsks i history seats
asks_now i history seats c first last asked passes = record { client = c; first = first; last = last; phase = asked; passes = passes }

-- the service stops in the call of a client that goes on to ask
pub ending_struck : (i : Declared) (history : List Entry) (boots next : List Boot) (seats : List Seat) (c : ℕ) → 1 ≤ c → c ≤ length seats → (seat_in seats c).phase ≡ Asked
    → guard i (object_of i.facts history) (seat_in seats c).call ≡ None → length next ≡ length boots → (EndsUsed boots → EndsUsed next) → IsEndingSoFar i history boots seats → IsEndingSoFar i history next seats
ending_struck i history boots next seats c first last asked passes count more is = record {
  ends = inr (asks_now i history seats c first last asked passes);
  held = held_kept i history history boots seats seats c is refl (others_same seats c) next count more (λ holds. cc (asked, holds));
}

-- a service that failed is booted for a client that will ask it
pub ending_booted : (i : Declared) (history : List Entry) (boots : List Boot) (seats : List Seat) (c : ℕ) → 1 ≤ c → c ≤ length seats → (seat_in seats c).phase ≡ Asked
    → guard i (object_of i.facts history) (seat_in seats c).call ≡ None → IsEndingSoFar i history boots seats → IsEndingSoFar i history (booted boots) (map (woken_seat (λ call. true)) seats)
ending_booted i history boots seats c first last asked passes is = record {
  ends =
      let stays = (stays_woken (λ call. true) (seat_in seats c)).asked asked in
      inr (record {
        client = c;
        first = first;
        last = subst (λ n. c ≤ n) (sym (length_map (woken_seat (λ call. true)) seats)) last;
        phase = ap (λ (s : Seat). s.phase) (seat_woken (λ call. true) seats c) ∙ stays.0;
        passes = ap (λ (s : Seat). guard i (object_of i.facts history) s.call) (seat_woken (λ call. true) seats c) ∙ ap (guard i (object_of i.facts history)) stays.1 ∙ passes;
      });
  held = each_woken (λ client s. s.phase ≡ Held → IsHeldUsed (booted boots) s) (λ call. true) seats (λ client from to holds.
      let was = (stays_woken (λ call. true) (seat_in seats client)).held holds in
      let h = is.held client from to was.0 in
      let more : length (booted boots) ≡ length boots + 1 = length-append boots (record { items = []; stop = None } ∷ []) in
      record {
        within = omega (arith, was.1, h.within, more);
        used = λ it. absurd (omega (arith, was.1, h.within, more, it));
      });
}
