-- What a play over several services keeps of the world of one of them.
use Rattle.std.specs.Prelude.{ℕ, ◌≡◌, true, List, [], length, map}
use Rattle.sg_multi.specs.sg_sim.sg_plain.Calls.{ascending_from}
use Rattle.sg_multi.specs.sg_sim.sg_plain.Playing.Plays.{IsPlaying}
use Rattle.sg_multi.specs.sg_sim.sg_plain.Answering.{no_query_waits}
use Rattle.sg_multi.specs.sg_sim.sg_play.Striking.Striking.{IsStriking}
use Rattle.sg_multi.specs.sg_sim.sg_play.Waking.Waking.{IsWaking}
use Rattle.sg_multi.specs.sg_sim.sg_play.sg_hist.Clients.{AreNumbered}
use Rattle.sg_multi.specs.sg_sim.sg_script.declared.script.Script.{Script}
use Rattle.sg_multi.specs.sg_sim.sg_clients.WorldView.{WorldView}
use Rattle.sg_multi.specs.sg_sim.sg_world_laws.Setting.{Setting}

-- a member's world is that of a play of its own: of a script of what each client called there, with numbers in place of `$k`. Each client's
-- calls are numbered one after the other, no call was withdrawn, who waits is woken before it waits again, and each stop was asked for
pub record KeepsMember (z : Setting) (w : WorldView) : Type 0 where
  pub script : Script
  pub given : List (List ℕ)
  pub no_setup : script.setup ≡ []
  pub all : map (λ c. c.0) script.clients ≡ ascending_from 1 (length w.seats)
  pub playing : IsPlaying z.iface script w.history w.seats given
  pub numbered : AreNumbered [] w.history
  pub waking : IsWaking z w
  pub striking : IsStriking z w
  pub none_waits : no_query_waits z.iface.facts ≡ true
  pub none_withdrawn : w.withdrawn ≡ []
