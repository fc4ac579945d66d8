-- The parts of a world whose service was asked a client's call and replied, before the call is committed or its reply is held.
use Rattle.std.specs.Prelude.{ℕ, ◌≡◌, ◌≤◌, List, None, Some, IfSome, length}
use Rattle.std.specs.declared.option.Option.{Option}
use Rattle.sg_facts.specs.sg_base.declared.reply.Reply.{Reply}
use Rattle.sg_facts.specs.declared.outcome.Outcome.TheVariants.{Replied}
use Rattle.sg_facts.specs.declared.outcome.Patch.{Patch}
use Rattle.sg_facts.specs.Invoke.{FitsRoom, Points}
use Rattle.sg_facts.specs.Object.{Object}
use Rattle.sg_replay.specs.Engined.{Engined, IsEngine}
use Rattle.sg_replay.specs.Missing.{missing}
use Rattle.sg_replay.specs.Present.{HasMark}
use Rattle.sg_replay.specs.Serving.{TellsReply}
use Rattle.sg_clients.specs.WorldView.{WorldView, seat_in}
use Rattle.sg_replay.specs.sg_store.Stored.{HasRoom}
use Rattle.sg_world.specs.declared.inner.Inner.{Inner}
use Rattle.sg_world.specs.Due.{needs_in}
use Rattle.sg_world.specs.Inners.{rooms_in}
use Rattle.sg_world.specs.Steps.{PassesGuard}
use Rattle.sg_world.specs.Worlded.{CountsPoints, IsWorld, view_of}
use Rattle.sg_world_laws.specs.Setting.{Setting}

-- the parts with another engine, as plain data
abbrev pub view_with : {S T I : Type 0} → Engined → Inner S T I → WorldView
view_with e x = view_of e x.history.items x.clients x.withdrawn.items x.marks.items x.events x.refused

-- the engine had the memory of a call with a needed file
pub record HasRooms (e : Engined) (file : Option (List ℕ)) : Type 0 where
  pub row : 1 ≤ e.tracked.spare
  pub stored : 1 ≤ e.stored.spare
  pub room : IfSome file (HasRoom e.stored)
  pub mark : IfSome file (HasMark e.present)

-- the service of an engine that stood in a world was asked the call of a client that it may be asked, and replied. The engine has the
-- item since, and the name that the reply made; nothing else has changed
pub record HasServed {S T I : Type 0} (z : Setting) (test : ℕ → List ℕ → List ℕ → Type 0) (asked : T → ℕ) (struck plan : T → List ℕ) (x : Inner S T I) (client : ℕ) (reply : Reply) (patch : Option Patch) : Type 0 where
  pub before : Engined
  pub points : Points
  pub world : IsWorld z before (view_with before x) (rooms_in x)
  pub places : length x.clients ≤ before.stored.clients
  pub counts : CountsPoints test (view_with before x) points.asked points.struck (plan x.stops)
  pub is_engine : IsEngine z.iface.facts before
  pub held : Object
  pub up : before.cell.running ≡ Some held
  pub let_in : PassesGuard z (view_with before x) client
  pub whole : missing before (needs_in z (view_with before x) (seat_in x.clients client).call) ≡ None
  pub walks : before.tables.walks ≡ z.walks
  pub tells : TellsReply z.iface.facts z.ask z.parts held before (seat_in x.clients client).call points reply patch x.engine (record { asked = asked x.stops; struck = struck x.stops })
  pub fits : FitsRoom held (Replied reply patch)
  pub rooms : HasRooms before (needs_in z (view_with before x) (seat_in x.clients client).call).file
  pub tables_same : x.engine.tables ≡ before.tables
  pub stored_same : x.engine.stored ≡ before.stored
  pub tracked_same : x.engine.tracked ≡ before.tracked
  pub present_same : x.engine.present ≡ before.present
  pub tested : test (asked x.stops) (struck x.stops) (plan x.stops)
