-- What is known of passes that go to threads and come back.
use Rattle.std.specs.Prelude.{ℕ, ◌≡◌, ◌≤◌, true, List, [], ◌∷◌, length}
use Rattle.sg_facts.specs.declared.entry.Entry.{Entry}
use Rattle.sg_log.specs.sg_turn.Passes.{own_entries, standing_of}
use Rattle.sg_log.specs.sg_turn.Told.{HasNoCall}
use Rattle.sg_log.specs.sg_turn.Seats.{SeatView, TurnView}
use Rattle.sg_sim.specs.sg_plain.sg_hist.Clients.{calls_of}
use Rattle.sg_sim.specs.sg_plain.Playing.Turns.{is_free_phase}
use Rattle.sg_sim.specs.sg_clients.WorldView.{WorldView, seat_of}

-- no client of a world has a call under way
abbrev pub AllFree : WorldView → Type 0
AllFree w = (client : ℕ) → 1 ≤ client → client ≤ length w.seats → is_free_phase (seat_of w client).phase ≡ true

-- a pass of a sharing whose client has no call under way, and just the entries of a history
pub record MayPlay (t : TurnView) (history : List Entry) (p : SeatView) : Type 0 where
  pub turn : p.turn ≡ t.id
  pub free : HasNoCall (standing_of p)
  pub own : own_entries p ≡ calls_of history p.number

-- the same pass, whatever it has seen since
pub record IsSamePass (old new : SeatView) : Type 0 where
  pub number : new.number ≡ old.number
  pub turn : new.turn ≡ old.turn
  pub last : new.last ≡ old.last

-- the same passes, one by one
abbrev pub AreSamePasses : List SeatView → List SeatView → Type 0
AreSamePasses [] [] = Unit {0}
AreSamePasses (p ∷ ps) (q ∷ qs) = IsSamePass p q × AreSamePasses ps qs
AreSamePasses [] (q ∷ qs) = ⊥
AreSamePasses (p ∷ ps) [] = ⊥
