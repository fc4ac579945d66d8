-- Where a step gets no memory.
use Rattle.std.specs.Prelude.{ℕ, ◌≡◌, ◌⊎◌}
use Rattle.sg_facts.specs.sg_base.Stops.{asked_after}
use Rattle.sg_clients.specs.WorldView.{WorldView, with_points}
use Rattle.sg_world.specs.Steps.{PassesGuard}
use Rattle.sg_world_laws.specs.Setting.{Setting}

-- the client's call was let in, and nothing changed but the number of points, where the service was about to be used
pub record NoMemoryLeft (z : Setting) (w : WorldView) (client : ℕ) (later : WorldView) : Type 0 where
  pub let_in : PassesGuard z w client
  pub now : (later ≡ w) ⊎ (later ≡ with_points w (asked_after w.run.points 1))
