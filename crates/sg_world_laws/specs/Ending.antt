-- What a world keeps of how its run would end, between its events.
use Rattle.std.specs.Prelude.{ℕ, ◌≡◌, ◌⊎◌, ◌≤◌, ◌==◌, true, false, List, [], ◌∷◌, ◌++◌, None, IsSome, length}
use Rattle.std.specs.List.{list_any}
use Rattle.std.specs.declared.option.Option.{Option}
use Rattle.sg_facts.specs.sg_base.Lists.{Each, When}
use Rattle.sg_facts.specs.declared.entry.Entry.{Entry}
use Rattle.sg_facts.specs.declared.trace.Item.{Item}
use Rattle.sg_facts.specs.declared.trace.Tag.{Tag}
use Rattle.sg_facts.specs.declared.trace.Tag.TheVariants.{Client}
use Rattle.sg_facts.specs.Facts.{Facts}
use Rattle.sg_facts.specs.Guard.{guard}
use Rattle.sg_facts.specs.Interface.{Declared}
use Rattle.sg_facts.specs.Object.{object_of}
use Rattle.sg_facts.specs.Trace.{Boot}
use Rattle.sg_recovery_laws.specs.sg_hist.Ending.{client_of, is_still_blocked}
use Rattle.sg_recovery_laws.specs.sg_hist.Growing.{IsInLast, last_stop}
use Rattle.sg_recovery_laws.specs.sg_hist.Inside.Parts.{EndsQuiet, EndsUsed, IsLost, is_unentered, waking_entries}
use Rattle.sg_recovery_laws.specs.sg_hist.Reading.{Position, is_by_guard, items_of, last_places, places_in}
use Rattle.sg_clients.specs.WorldView.{Seat, WorldView, held_replies, is_held_phase, seat_in}
use Rattle.sg_clients.specs.declared.phase.Phase.TheVariants.{Asked, Blocked, Held}
use Rattle.sg_world_laws.specs.Setting.{Setting}

-- a fact of each client's seat
abbrev pub EachSeat : (ℕ → Seat → Type 0) → List Seat → Type 0
EachSeat P seats = (client : ℕ) → 1 ≤ client → client ≤ length seats → P client (seat_in seats client)

-- ---- the last boot

-- somebody will ask the service in its next turn: its call is asked, and the guard lets it pass
pub record SomebodyAsks (i : Declared) (history : List Entry) (seats : List Seat) : Type 0 where
  pub client : ℕ
  pub first : 1 ≤ client
  pub last : client ≤ length seats
  pub phase : (seat_in seats client).phase ≡ Asked
  pub passes : guard i (object_of i.facts history) (seat_in seats client).call ≡ None

-- the last boot has an item, where it isn't the first, and it didn't stop at a point that no call asked
abbrev pub EndsWell : Facts → List Boot → Type 0
EndsWell facts boots = EndsUsed boots × EndsQuiet facts boots

-- a reply that is held was given in one of the boots, in which something was asked if it is the last
pub record IsHeldUsed (boots : List Boot) (s : Seat) : Type 0 where
  pub within : s.boot ≤ length boots
  pub used : s.boot ≡ length boots → EndsUsed boots

-- the boots might end so, or somebody will use the service
pub record IsEndingSoFar (i : Declared) (history : List Entry) (boots : List Boot) (seats : List Seat) : Type 0 where
  pub ends : EndsWell i.facts boots ⊎ SomebodyAsks i history seats
  pub held : EachSeat (λ client s. s.phase ≡ Held → IsHeldUsed boots s) seats

-- the last boot isn't stopped while the service is up, and the items of the held replies stand in it
pub record HasLastBoot (w : WorldView) : Type 0 where
  pub goes_on : IsSome w.running → last_stop w.run.boots ≡ None
  pub held : Each (IsInLast w.run) (held_replies w)

-- ---- who waits

-- who waits had to wait in the last boot, and no entry's item woke it since; and in a global service, where each call is visible, no
-- reply is held
pub record IsBlockedSeat (facts : Facts) (entries : List Entry) (boots : List Boot) (s : Seat) : Type 0 where
  pub blocked : s.phase ≡ Blocked → is_still_blocked facts entries s.call (last_places boots) ≡ true
  pub visible : facts.global ≡ true → is_held_phase s.phase ≡ false

abbrev pub AreBlockedSoFar : Facts → List Entry → List Boot → List Seat → Type 0
AreBlockedSoFar facts history boots seats = EachSeat (λ client s. IsBlockedSeat facts (waking_entries facts history) boots s) seats

-- ---- replies that are no entry's

-- a client holds the reply of a call of its own, which was given in a boot
pub record HoldsReply (seats : List Seat) (boot : ℕ) (tag : Tag) : Type 0 where
  pub client : ℕ
  pub first : 1 ≤ client
  pub last : client ≤ length seats
  pub phase : (seat_in seats client).phase ≡ Held
  pub given : (seat_in seats client).boot ≡ boot
  pub its : tag ≡ Client client (seat_in seats client).call.seq
  pub served : is_by_guard (seat_in seats client).reply ≡ false

-- a reply that is no entry's: nothing was noted for the client after it, and its boot was stopped, or the client holds it
pub record IsHeldOrLost (seats : List Seat) (boot : ℕ) (stop : Option ℕ) (p : Position) : Type 0 where
  pub quiet : list_any (λ item. client_of item.tag == client_of p.item.tag) p.rest ≡ false
  pub gone : IsSome stop ⊎ HoldsReply seats boot p.item.tag

-- each such reply was lost in the stop of its boot, or is of the last of so many boots and held
abbrev pub AreLostSoFar : List Entry → List Seat → ℕ → List Item → List Boot → Type 0
AreLostSoFar history seats boot older [] = Unit {0}
AreLostSoFar history seats boot older (b ∷ []) = Each (λ p. When (is_unentered history p) (IsHeldOrLost seats boot b.stop p)) (places_in older [] b.items [])
AreLostSoFar history seats boot older (b ∷ c ∷ boots) =
    Each (IsLost history b.stop) (places_in older [] b.items (items_of (c ∷ boots))) × AreLostSoFar history seats boot (older ++ b.items) (c ∷ boots)

-- ---- a world

-- what a world keeps of how its run would end: of its boots, and of replies that are no entry's, while no call was withdrawn, since
-- whoever caused a stop or a boot, or holds a reply, may go; and of who waits
pub record IsEnding (z : Setting) (w : WorldView) : Type 0 where
  pub boots : w.withdrawn ≡ [] → IsEndingSoFar z.iface w.history w.run.boots w.seats
  pub blocked : AreBlockedSoFar z.iface.facts w.history w.run.boots w.seats
  pub lost : w.withdrawn ≡ [] → AreLostSoFar w.history w.seats (length w.run.boots) [] w.run.boots
