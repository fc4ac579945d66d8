-- What a world keeps after every event while its clients make the calls of a script, so that a play can go on over it.
use Rattle.std.specs.Prelude.{◌≡◌, false, length}
use Rattle.sg_plain.specs.Calls.{most_client}
use Rattle.sg_plain.specs.Playing.Callers.{AreCallers, SetsUpFirst, is_setting_up}
use Rattle.sg_plain.specs.Playing.Playable.{IsPlayable}
use Rattle.sg_plain.specs.sg_script.declared.script.Script.{Script}
use Rattle.sg_plain.specs.sg_clients.WorldView.{WorldView}
use Rattle.sg_play.specs.SettingUp.{IsSettingUpFirst}
use Rattle.sg_play.specs.Striking.Striking.{IsStriking}
use Rattle.sg_play.specs.Waking.Waking.{IsWaking}
use Rattle.sg_world.specs.sg_world_laws.Setting.{Setting}

-- the script may be played, and there is a seat for each client up to the greatest; each client made its first calls of the script, and a
-- call under way is its next; the calls of the setup are done, and came first, as did their items; who waits is woken before it waits again;
-- and each stop was asked for
pub record MayGoOn (z : Setting) (script : Script) (w : WorldView) : Type 0 where
  pub playable : IsPlayable z.iface script
  pub clients : length w.seats ≡ most_client script.clients
  pub callers : AreCallers z.iface.facts script w.history w.seats
  pub first : SetsUpFirst script w.history w.seats
  pub settled : is_setting_up script w.seats ≡ false
  pub setting_up : IsSettingUpFirst script w
  pub waking : IsWaking z w
  pub striking : IsStriking z w
