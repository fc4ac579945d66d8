-- What a world tells of itself between events.
use Rattle.std.specs.Prelude.{ℕ, ◌≡◌, ◌≤◌, None, length}
use Rattle.sg_facts.specs.Legal.{LegalFrom, answer}
use Rattle.sg_facts.specs.Object.{empty_object, object_of}
use Rattle.sg_plain.specs.sg_hist.Growing.{IsRecovering}
use Rattle.sg_plain.specs.sg_clients.WorldView.{WorldView, seat_of, unanswered}
use Rattle.sg_plain.specs.sg_clients.declared.phase.Phase.TheVariants.{Blocked}
use Rattle.sg_world.specs.sg_world_laws.Ending.{HasLastBoot, IsEnding}
use Rattle.sg_world.specs.sg_world_laws.Setting.{IsSetting, Setting, stubs_of}

-- the interface can be recovered; the history is legal, and the run recovers; who waits has no answer after the history; the run could end
-- there, or somebody will use the service; and the last boot goes on while the service is up
pub record RecoversSoFar (z : Setting) (w : WorldView) : Type 0 where
  pub set : IsSetting z
  pub legal : LegalFrom z.iface z.ask empty_object w.history
  pub recovering : IsRecovering (stubs_of z) w.history w.run (unanswered w)
  pub waits : (client : ℕ) → 1 ≤ client → client ≤ length w.seats → (seat_of w client).phase ≡ Blocked
      → answer z.iface z.ask (object_of z.iface.facts w.history) (seat_of w client).call ≡ None
  pub ending : IsEnding z w
  pub last : HasLastBoot w
