-- What a play keeps of its setup in the trace.
use Rattle.std.specs.Prelude.{◌≡◌, ◌==◌, true}
use Rattle.std.specs.List.{list_all}
use Rattle.sg_plain.specs.sg_hist.Reading.{items_of}
use Rattle.sg_plain.specs.Playing.Callers.{is_setting_up}
use Rattle.sg_plain.specs.sg_hist.Ending.{client_of}
use Rattle.sg_plain.specs.Inside.Kept.{is_setup_first}
use Rattle.sg_plain.specs.sg_script.declared.script.Script.{Script}
use Rattle.sg_plain.specs.sg_clients.WorldView.{WorldView}

-- no item of another client's turn stands before one of the setup, and until the setup is done all items were noted in turns of
-- client 1
pub record IsSettingUpFirst (script : Script) (w : WorldView) : Type 0 where
  pub front : is_setup_first script (items_of w.run.boots) ≡ true
  pub all : is_setting_up script w.seats ≡ true → list_all (λ item. client_of item.tag == 1) (items_of w.run.boots) ≡ true
