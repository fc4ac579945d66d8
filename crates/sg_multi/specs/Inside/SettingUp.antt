-- What a play over several services keeps of its setup in the runs of its members.
use Rattle.std.specs.Prelude.{ℕ, ◌≡◌, ◌+◌, ◌==◌, Bool, true, List, Some, slice_get}
use Rattle.std.specs.List.{list_all}
use Rattle.sg_facts.specs.Trace.{Boot}
use Rattle.sg_facts.specs.declared.trace.Item.{Item}
use Rattle.sg_multi.specs.Members.{Membered, view_in}
use Rattle.sg_multi.specs.sg_sim.sg_plain.Inside.Kept.{is_setup_first}
use Rattle.sg_multi.specs.sg_sim.sg_play.sg_hist.Ending.{client_of}
use Rattle.sg_multi.specs.sg_sim.sg_play.sg_hist.Reading.{items_of}
use Rattle.sg_multi.specs.sg_sim.sg_script.declared.multi.MultiScript.{MultiScript}
use Rattle.sg_multi.specs.Calls.{setup_at}
use Rattle.sg_multi.specs.Inside.Keeps.{is_multi_setting_up}

-- whether items were all noted in turns of client 1
abbrev pub are_of_first : List Item → Bool
are_of_first items = list_all (λ item. client_of item.tag == 1) items

-- in the boots of the member of a number no item of another client's turn stands before one of the setup, and until the setup is done all
-- their items were noted in turns of client 1
pub record IsSettingUpAt (script : MultiScript) (given : List (List ℕ)) (number : ℕ) (boots : List Boot) : Type 0 where
  pub front : is_setup_first (setup_at number script) (items_of boots) ≡ true
  pub all : is_multi_setting_up script given ≡ true → are_of_first (items_of boots) ≡ true

-- so it is in those of each member
abbrev pub AreSettingUp : List Membered → MultiScript → List (List ℕ) → Type 0
AreSettingUp members script given = (place : ℕ) (m : Membered) → slice_get members place ≡ Some m → IsSettingUpAt script given (place + 1) (view_in m).run.boots
