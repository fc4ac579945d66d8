-- What the seats are behind a client's entry, and whose the calls of seats are.
use Rattle.std.proofs.Common.{◌≡◌, ℕ, ◌-◌, List, map, ap, slice_set}
use Rattle.sg_facts.specs.sg_base.declared.reply.Reply.{Reply}
use Rattle.sg_facts.specs.declared.entry.Entry.{Entry}
use Rattle.sg_facts.specs.Facts.{Facts}
use Rattle.sg_facts.specs.Object.{object_of}
use Rattle.sg_clients.specs.WorldView.{Seat, WorldView, answered_to, committed, given_to, no_reply, seat_in, seat_of, wakes_seat, woken_seat}
use Rattle.sg_clients.specs.declared.phase.Phase.{Phase}
use Rattle.sg_clients.specs.declared.phase.Phase.TheVariants.{Idle, Receipted}

module _ (facts : Facts) (w : WorldView) (c : ℕ) where
  abbrev pub s : Seat
  s = seat_of w c

  abbrev pub entry_with : Reply → Entry
  entry_with reply = record { call = s.call; reply = reply }

  -- the seats when an entry woke who waited for it
  abbrev pub woken : Reply → List Seat
  woken reply = map (woken_seat (wakes_seat facts (object_of facts w.history).rows s.call reply)) w.seats

  -- the client's seat behind the entry
  abbrev pub seat_after : Reply → Phase → Reply → Seat
  seat_after reply p kept = record (seat_in (woken reply) c) { phase = p; seq = s.call.seq; reply = kept }

  pub given_seats : (reply : Reply) → s.call.client ≡ c → (given_to (committed facts w (entry_with reply)) (entry_with reply)).seats ≡ slice_set (woken reply) (c - 1) (seat_after reply Receipted reply)
  given_seats reply its = ap (λ n. slice_set (woken reply) (n - 1) (record (seat_in (woken reply) n) { phase = Receipted; seq = s.call.seq; reply = reply })) its

  pub answered_seats : (reply : Reply) → s.call.client ≡ c → (answered_to (committed facts w (entry_with reply)) (entry_with reply)).seats ≡ slice_set (woken reply) (c - 1) (seat_after reply Idle no_reply)
  answered_seats reply its = ap (λ n. slice_set (woken reply) (n - 1) (record (seat_in (woken reply) n) { phase = Idle; seq = s.call.seq; reply = no_reply })) its
