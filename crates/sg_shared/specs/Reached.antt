-- What events make of a new world while its clients make the calls of a script.
use Rattle.std.specs.Prelude.{ℕ, ◌≡◌, ◌⊎◌, true, List, [], ◌∷◌, Some, length}
use Rattle.sg_facts.specs.sg_base.declared.call.Call.{Call}
use Rattle.sg_sim.specs.sg_plain.sg_hist.Clients.{calls_of}
use Rattle.sg_sim.specs.sg_plain.sg_hist.declared.ended.Ended.{Ended}
use Rattle.sg_sim.specs.sg_plain.Calls.{call_after}
use Rattle.sg_sim.specs.sg_plain.Playing.Turns.{is_free_phase}
use Rattle.sg_sim.specs.sg_plain.sg_script.declared.script.Script.{Script}
use Rattle.sg_sim.specs.Played.{IsOfWorld}
use Rattle.sg_sim.specs.Playing.{new_of}
use Rattle.sg_sim.specs.sg_clients.WorldView.{WorldView, happened, offered, seat_of, with_leave, withdrawn_by}
use Rattle.sg_sim.specs.sg_world.Steps.{HasStepped, LackedMemory}
use Rattle.sg_sim.specs.sg_world.declared.did.Did.{Did}
use Rattle.sg_sim.specs.sg_world_laws.Setting.{Setting}

-- a client that has no call under way offers its next call of the script
pub record OffersNext (z : Setting) (script : Script) (w now : WorldView) : Type 0 where
  pub client : ℕ
  pub call : Call
  pub free : is_free_phase (seat_of w client).phase ≡ true
  pub next : call_after z.iface.facts script w.history client (length (calls_of w.history client)) ≡ Some call
  pub is : now ≡ happened (offered w client call)

-- a client makes a step, which comes to something or wants memory
pub record MakesStep (z : Setting) (w now : WorldView) : Type 0 where
  pub client : ℕ
  pub made : ((did : Did) × HasStepped z w client did now) ⊎ LackedMemory z w client now

-- a client withdraws its call, or leaves
pub record GoesAway (w now : WorldView) : Type 0 where
  pub client : ℕ
  pub is : (now ≡ happened (withdrawn_by w client)) ⊎ (now ≡ happened (with_leave w client))

-- an event of a world: an offer, a step, a withdrawal or a leave; where an offer wants memory its event is counted, and nothing changes
abbrev pub IsEventOf : Setting → Script → WorldView → WorldView → Type 0
IsEventOf z script w now = OffersNext z script w now ⊎ MakesStep z w now ⊎ GoesAway w now ⊎ (now ≡ happened w)

-- events, one after the other, with the world after each
abbrev pub AreEventsOf : Setting → Script → WorldView → List WorldView → WorldView → Type 0
AreEventsOf z script w [] now = now ≡ w
AreEventsOf z script w (next ∷ worlds) now = IsEventOf z script w next × AreEventsOf z script next worlds now

-- a world comes to another by events
abbrev pub ComesByEvents : Setting → Script → WorldView → WorldView → Type 0
ComesByEvents z script w now = (worlds : List WorldView) × AreEventsOf z script w worlds now

-- by events the new world comes to one whose history and trace are those of an end
pub record IsReachedEnd (z : Setting) (script : Script) (ended : Ended) : Type 0 where
  pub last : WorldView
  pub events : ComesByEvents z script (new_of script) last
  pub its : IsOfWorld last ended
