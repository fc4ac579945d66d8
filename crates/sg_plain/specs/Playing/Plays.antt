-- What a play keeps.
use Rattle.std.specs.Prelude.{ℕ, ◌≡◌, List, length}
use Rattle.sg_facts.specs.Interface.{Declared}
use Rattle.sg_facts.specs.declared.entry.Entry.{Entry}
use Rattle.sg_plain.specs.Calls.{most_client}
use Rattle.sg_plain.specs.Playing.Callers.{AreCallers, SetsUpFirst}
use Rattle.sg_plain.specs.Playing.Given.{HaveGiven}
use Rattle.sg_plain.specs.Playing.Playable.{IsPlayable}
use Rattle.sg_script.specs.declared.script.Script.{Script}
use Rattle.sg_clients.specs.WorldView.{Seat}

-- its script may be played, there is a seat for each client up to the greatest, the calls that were made are the script's, and those of
-- the setup came first
pub record IsPlaying (i : Declared) (script : Script) (history : List Entry) (seats : List Seat) (given : List (List ℕ)) : Type 0 where
  pub playable : IsPlayable i script
  pub clients : length seats ≡ most_client script.clients
  pub callers : AreCallers i.facts script history seats
  pub first : SetsUpFirst script history seats
  pub have_given : HaveGiven history seats given
