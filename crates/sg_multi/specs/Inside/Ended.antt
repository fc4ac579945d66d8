-- What the runs of members came to.
use Rattle.std.specs.Prelude.{ℕ, ◌≡◌, ◌+◌, List, Some, length, slice_get}
use Rattle.sg_multi.specs.sg_edge.Stops.{up_to}
use Rattle.sg_multi.specs.Members.{Membered, setting_in, view_in}
use Rattle.sg_multi.specs.sg_sim.Played.{IsOfWorld}
use Rattle.sg_multi.specs.sg_sim.sg_play.Recovering.{RecoversSoFar}
use Rattle.sg_multi.specs.sg_sim.sg_play.sg_hist.Recovered.{IsRecovered, struck_in}
use Rattle.sg_multi.specs.sg_sim.sg_play.sg_hist.declared.ended.Ended.{Ended}
use Rattle.sg_multi.specs.sg_sim.sg_clients.WorldView.{unanswered}
use Rattle.sg_multi.specs.Ends.{ends_at}
use Rattle.sg_multi.specs.Played.{stubs_in}
use Rattle.sg_multi.specs.declared.ended.MultiEnd.{MultiEnd}

-- what the run of the member of a number came to, where the clients ended so, and what its world tells of itself
pub record IsEndedMember (ends : List (ℕ × MultiEnd)) (number : ℕ) (m : Membered) (ended : Ended) : Type 0 where
  pub its : IsOfWorld (view_in m) ended
  pub ends_are : ended.ends ≡ ends_at number ends
  pub told : RecoversSoFar (setting_in m) (view_in m)
  pub recovered : IsRecovered (stubs_in m) (view_in m).history (view_in m).run (unanswered (view_in m))
  pub struck : struck_in (view_in m).run ≡ up_to (view_in m).run.points m.world.plan

-- so did the runs of these members come to these, place by place
abbrev pub AreEnded : List Membered → List (ℕ × MultiEnd) → List Ended → Type 0
AreEnded members ends ended = (place : ℕ) (m : Membered) (e : Ended) → slice_get members place ≡ Some m → slice_get ended place ≡ Some e → IsEndedMember ends (place + 1) m e

-- and there is one for each
pub record AreEndedMembers (members : List Membered) (ends : List (ℕ × MultiEnd)) (ended : List Ended) : Type 0 where
  pub count : length ended ≡ length members
  pub each : AreEnded members ends ended
