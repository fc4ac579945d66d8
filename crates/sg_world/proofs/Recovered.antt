-- What a world keeps, read at its history, its trace and its seats.
use Rattle.std.proofs.Common.{ℕ, List, length, [], append-nil, subst, sym, ◌≡◌, ◌≤◌}
use Rattle.std.specs.Prelude.{◌==◌}
use Rattle.sg_replay.specs.sg_hist.Recovered.{AreInBoots, ArePointsOf, IsRecovered, struck_in}
use Rattle.sg_replay.specs.sg_hist.Growing.{IsRecovering}
use Rattle.sg_clients.specs.WorldView.{WorldView, held_replies, seat_of, unanswered}
use Rattle.sg_world.specs.Worlded.{CountsAll, CountsPoints}
use Rattle.sg_world_laws.proofs.Ending.Ended.{goes_on}
use Rattle.sg_world_laws.proofs.Moves.{its_seat}
use Rattle.sg_world_laws.proofs.Struck.{no_drawn}
use Rattle.sg_world_laws.proofs.Turns.{seat_there}
use Rattle.sg_world_laws.specs.Ending.{HasLastBoot}
use Rattle.sg_world_laws.specs.Keeping.{KeepsPromise, Stub}
use Rattle.sg_world_laws.specs.Seats.{IsSeated}
use Rattle.sg_world_laws.specs.Setting.{Setting, stubs_of}

module _ (z : Setting) (w : WorldView) (stub : Stub) (k : KeepsPromise z w stub) where
  -- its run recovers
  pub recovering_now : IsRecovering (stubs_of z) w.history w.run (unanswered w)
  recovering_now = subst (λ l. IsRecovering (stubs_of z) l w.run (unanswered w)) (append-nil w.history) (k.recovering [] (no_drawn (held_replies w)))

  -- whole, where no step wanted memory
  pub recovered_now : CountsAll z w → AreInBoots z.iface.facts w.run 0 w.history → w.refused ≡ 0 → IsRecovered (stubs_of z) w.history w.run (unanswered w)
  recovered_now counts in_boots none = record {
    reboots = recovering_now.reboots;
    served = recovering_now.served;
    walks = recovering_now.walks;
    on_demand = recovering_now.on_demand;
    tracked_state = recovering_now.tracked_state;
    points = subst (λ n. ArePointsOf (n == 0) z.iface.facts z.ask z.parts 0 w.run.boots w.run.points) none counts;
    held = in_boots;
  }

  -- the last boot has the items of the held replies, and goes on while the service is up
  pub last_now : HasLastBoot w
  last_now = record { goes_on = goes_on z.iface.facts w.running w.run.boots k.cell; held = k.held_items }

  -- each client's seat is as its phase says
  pub seated_now : (client : ℕ) → 1 ≤ client → client ≤ length w.seats → IsSeated z w.history client (seat_of w client)
  seated_now client first last =
      its_seat z w stub k client (seat_of w client) (seat_there w client first last) first (seat_of w client) w.withdrawn w.marks w.events w.refused

-- the points and the stops of the trace meet the test of the stops
pub tested_now : (test : ℕ → List ℕ → List ℕ → Type 0) (w : WorldView) (asked : ℕ) (struck plan : List ℕ) → CountsPoints test w asked struck plan → test w.run.points (struck_in w.run) plan
tested_now test w asked struck plan counts = subst (λ n. test n (struck_in w.run) plan) (sym counts.asked_so) (subst (λ l. test asked l plan) (sym counts.struck_so) counts.tested)
