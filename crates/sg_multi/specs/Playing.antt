-- What contracts see of a play over several services.
use Rattle.std.specs.Prelude.{ℕ, List}
use Rattle.sg_multi.specs.Members.{Membered}
use Rattle.sg_multi.specs.sg_sim.sg_script.declared.multi.MultiScript.{MultiScript}

-- its members, its script, how many turns of the schedule were taken or passed over, and the client of the last turn, 0 before the first
pub record MultiPlaying : Type 0 where
  pub members : List Membered
  pub script : MultiScript
  pub passed : ℕ
  pub last : ℕ
