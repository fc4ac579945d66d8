-- What a play keeps between turns.
use Rattle.std.specs.Prelude.{ℕ, ◌≡◌, ◌≤◌, Bool, List, [], true, length}
use Rattle.sg_play.specs.Following.Follows.{IsFollowing}
use Rattle.sg_play.specs.SettingUp.{IsSettingUpFirst}
use Rattle.sg_play.specs.sg_plain.Playing.Plays.{IsPlaying}
use Rattle.sg_play.specs.sg_script.declared.script.Script.{Script}
use Rattle.sg_play.specs.sg_clients.WorldView.{WorldView}
use Rattle.sg_play.specs.sg_plain.Answering.{no_query_waits}
use Rattle.sg_play.specs.Striking.Striking.{IsStriking}
use Rattle.sg_play.specs.Waking.Waking.{IsWaking}
use Rattle.sg_play.specs.sg_world_laws.Setting.{Setting}

-- the clients make the script's calls, none is withdrawn, the client of the last turn is one of the world, the play without
-- stops is followed where each turn was its, the items of the setup come first, who waits is woken before it waits again, and each stop was
-- asked for
pub record KeepsPlay (z : Setting) (script : Script) (w : WorldView) (given : List (List ℕ)) (passed last : ℕ) (in_order : Bool) : Type 0 where
  pub playing : IsPlaying z.iface script w.history w.seats given
  pub none_withdrawn : w.withdrawn ≡ []
  pub last_there : last ≤ length w.seats
  pub following : in_order ≡ true → IsFollowing z script w passed last
  pub setting_up : IsSettingUpFirst script w
  pub waking : IsWaking z w
  pub striking : IsStriking z w
  pub none_waits : no_query_waits z.iface.facts ≡ true
