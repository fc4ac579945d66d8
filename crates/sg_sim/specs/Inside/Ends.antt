-- How the clients of a play end.
use Rattle.std.specs.Prelude.{ℕ, ◌≡◌, if◌then◌else◌, false, List, [], ◌∷◌}
use Rattle.sg_play.specs.sg_hist.declared.ended.End.{End}
use Rattle.sg_play.specs.sg_plain.Playing.Callers.{is_setting_up}
use Rattle.sg_play.specs.sg_plain.Playing.Ends.{end_of, ends_from, has_calls}
use Rattle.sg_play.specs.sg_plain.Playing.Turns.{NobodyGoes}
use Rattle.sg_play.specs.sg_script.declared.script.Script.{Script}
use Rattle.sg_play.specs.sg_clients.WorldView.{Seat}
use Rattle.sg_sim.specs.Playing.{Playing}

-- the end of a client, where it has a call
abbrev pub end_by : Script → ℕ → Seat → List (ℕ × End)
end_by script client s = if has_calls script client then (client, end_of s) ∷ [] else []

-- the setup is done, nobody can take a turn, no step of the world wanted memory, and these are the ends of the clients
pub record HasEnded (p : Playing) (ends : List (ℕ × End)) : Type 0 where
  pub settled : is_setting_up p.script p.view.seats ≡ false
  pub nobody : NobodyGoes p.script p.view.seats
  pub unrefused : p.view.refused ≡ 0
  pub ends_so : ends ≡ ends_from p.script 1 p.view.seats
