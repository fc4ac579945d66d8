-- What a world keeps that threads play a script on.
use Rattle.std.specs.Prelude.{◌≡◌, [], true}
use Rattle.sg_shared.specs.Reached.{ComesByEvents}
use Rattle.sg_sim.specs.Playing.{new_of}
use Rattle.sg_sim.specs.sg_play.GoingOn.{MayGoOn}
use Rattle.sg_sim.specs.sg_plain.Answering.{no_query_waits}
use Rattle.sg_sim.specs.sg_plain.sg_script.declared.script.Script.{Script}
use Rattle.sg_sim.specs.sg_clients.WorldView.{WorldView}
use Rattle.sg_sim.specs.sg_world_laws.Setting.{Setting}

-- unless a call was withdrawn a play can go on over it, and it comes of a new world by events
pub record KeepsPlayed (z : Setting) (script : Script) (w : WorldView) : Type 0 where
  pub none_waits : no_query_waits z.iface.facts ≡ true
  pub goes : w.withdrawn ≡ [] → MayGoOn z script w
  pub comes : ComesByEvents z script (new_of script) w
