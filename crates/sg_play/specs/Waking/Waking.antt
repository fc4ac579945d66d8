-- What a play keeps of its waits: who waits is woken before it waits again.
use Rattle.std.specs.Prelude.{ℕ, ◌≡◌, ◌⊎◌, ◌≤◌, Bool, true, false, ◌&&◌, List, [], ◌∷◌, ◌++◌}
use Rattle.std.specs.List.{list_any}
use Rattle.sg_facts.specs.sg_base.Lists.{Each}
use Rattle.sg_facts.specs.sg_base.declared.call.Call.{Call}
use Rattle.sg_facts.specs.declared.entry.Entry.{Entry}
use Rattle.sg_facts.specs.declared.trace.Tag.{Tag}
use Rattle.sg_facts.specs.declared.trace.Tag.TheVariants.{Walk, Load, Client}
use Rattle.sg_facts.specs.Facts.{Facts}
use Rattle.sg_facts.specs.Trace.{Boot}
use Rattle.sg_plain.specs.Answering.{no_query_waits}
use Rattle.sg_plain.specs.sg_hist.Reading.{last_places, Position, is_tagged, last_items, places_from, places_in}
use Rattle.sg_plain.specs.sg_hist.Inside.Parts.{waking_entries}
use Rattle.sg_plain.specs.Inside.Kept.{IsWokenBetween}
use Rattle.sg_plain.specs.sg_hist.Wakes.{has_blocked, wakes_at}
use Rattle.sg_plain.specs.sg_clients.WorldView.{Seat, WorldView, is_held_phase, is_offered}
use Rattle.sg_plain.specs.sg_clients.declared.phase.Phase.{Phase}
use Rattle.sg_plain.specs.sg_clients.declared.phase.Phase.TheVariants.{Idle, Asked, Held, Receipted, Blocked, Left}
use Rattle.sg_world.specs.sg_world_laws.Ending.{EachSeat}
use Rattle.sg_world.specs.sg_world_laws.Setting.{Setting}

-- whether the call of a number of a client had to wait at a place
abbrev pub waits_at : ℕ → ℕ → Position → Bool
waits_at client seq p = is_tagged client seq p.item.tag && has_blocked p.item.outcome

-- where it did, it was woken since in that boot
abbrev pub IsWokenSince : Facts → List Entry → ℕ → ℕ → Position → Type 0
IsWokenSince facts history client seq p =
    waits_at client seq p ≡ true → list_any (wakes_at facts history p.item.shown.desc) (places_in p.older (p.front ++ p.item ∷ []) p.rest p.newer) ≡ true

-- a call of a number is the one of a seat that isn't answered
abbrev pub IsItsOffer : Seat → Call → ℕ → Type 0
IsItsOffer s call seq = (is_offered s.phase ≡ true) × (seq ≡ s.call.seq) × (call ≡ s.call)

-- an item is of a call that its client made so far
abbrev pub IsMadeSoFar : ℕ → Seat → Call → Tag → Type 0
IsMadeSoFar client s shown (Client c seq) = c ≡ client → (seq ≤ s.seq) ⊎ IsItsOffer s shown seq
IsMadeSoFar client s shown (Walk id k c) = Unit {0}
IsMadeSoFar client s shown (Load key c) = Unit {0}

-- whether a client in a phase has a call under way and doesn't wait
abbrev pub is_asking : Phase → Bool
is_asking Asked = true
is_asking Held = true
is_asking Idle = false
is_asking Receipted = false
is_asking Blocked = false
is_asking Left = false

-- the client's items in the last boot are of calls that it made; where it waited in its call and doesn't wait now, it was woken; and in
-- a global service, where each call is visible, it holds no reply
pub record IsWokenSeat (facts : Facts) (entries : List Entry) (boots : List Boot) (client : ℕ) (s : Seat) : Type 0 where
  pub items : Each (λ item. IsMadeSoFar client s item.shown item.tag) (last_items boots)
  pub since : is_asking s.phase ≡ true → Each (IsWokenSince facts entries client s.call.seq) (last_places boots)
  pub visible : facts.global ≡ true → is_held_phase s.phase ≡ false

-- between two waits of one call in a boot stands an entry that wakes it, and so it goes on
pub record AreWokenSoFar (facts : Facts) (history : List Entry) (boots : List Boot) (seats : List Seat) : Type 0 where
  pub woken : Each (λ p. IsWokenBetween facts (waking_entries facts history) p p.item.tag) (places_from [] boots)
  pub each : EachSeat (IsWokenSeat facts (waking_entries facts history) boots) seats

-- what a play keeps of its waits
abbrev pub IsWaking : Setting → WorldView → Type 0
IsWaking z w = no_query_waits z.iface.facts ≡ true → AreWokenSoFar z.iface.facts w.history w.run.boots w.seats
