-- What the clients so far were given.
use Rattle.std.proofs.Common.{◌≡◌, ◌≤◌, ℕ, length, take}
use Rattle.sg_play.specs.sg_hist.Clients.{calls_of}
use Rattle.sg_play.specs.sg_plain.Playing.Callers.{handed}
use Rattle.sg_play.specs.sg_plain.Playing.Given.{GaveIds, given_in}
use Rattle.sg_play.specs.sg_clients.WorldView.{seat_of}
use Rattle.sg_sim.specs.Inside.Givens.{lists_of}
use Rattle.sg_sim.proofs.given.Given.told_by.Given as goal

abbrev pub invariant-clients : goal.invariant-clients
invariant-clients g l = record {
  clients : length l.lists.items ≡ l.before;
  each : (client : ℕ) → 1 ≤ client → client ≤ l.before → GaveIds (take (handed (seat_of l.world.view client)) (calls_of l.world.view.history client)) (given_in (lists_of l.lists.items) client);
}
