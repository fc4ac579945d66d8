-- A call that was served.
use Rattle.std.specs.Prelude.{◌≡◌, ◌⊎◌, ◌++◌, ◌∷◌, List, [], Some, length}
use Rattle.std.specs.List.{Contains}
use Rattle.std.specs.declared.option.Option.{Option}
use Rattle.sg_facts.specs.sg_base.declared.call.Call.{Call}
use Rattle.sg_facts.specs.sg_base.declared.reply.Reply.{Reply}
use Rattle.sg_facts.specs.declared.entry.Entry.{Entry}
use Rattle.sg_facts.specs.declared.outcome.Patch.{Patch}
use Rattle.sg_facts.specs.declared.trace.Item.{Item}
use Rattle.sg_facts.specs.Alike.{under_names}
use Rattle.sg_facts.specs.Object.{Object, after}
use Rattle.sg_recovery_laws.specs.sg_hist.Growing.{noted}
use Rattle.sg_clients.specs.WorldView.{WorldView, held_in, unanswered}
use Rattle.sg_world_laws.specs.Keeping.{Stub}
use Rattle.sg_world_laws.specs.Seats.{HaveSeats}
use Rattle.sg_world_laws.specs.Setting.{Setting}
use Rattle.sg_world_laws.specs.Turns.{HasAll, IsLetIn, IsRepliedItem}

-- a call was let in, found what it needs, and was served: its item has the service's reply, which is told as the answer at the object of
-- the history
pub record IsServedCall (z : Setting) (w : WorldView) (stub : Stub) (v : Object) (call : Call) (item : Item) (reply other : Reply) (patch : Option Patch) : Type 0 where
  pub let_in : IsLetIn z w call
  pub all : HasAll z w stub call
  pub replied : IsRepliedItem z w stub v call item reply other patch

-- the later world has a served call in its history, its item in the running boot, and what the service holds after it; the same replies
-- are held, and no other call that wasn't answered is left out
pub record IsCommittedIn (z : Setting) (w : WorldView) (stub : Stub) (v : Object) (call : Call) (item : Item) (reply other : Reply) (later : WorldView) : Type 0 where
  pub history : later.history ≡ w.history ++ record { call = call; reply = reply } ∷ []
  pub boots : later.run.boots ≡ noted w.run.boots item
  pub running : later.running ≡ Some (after z.iface.facts v (under_names stub.names call) other)
  pub held : held_in (length w.run.boots) later.seats ≡ held_in (length w.run.boots) w.seats
  pub seats : HaveSeats z later.history later.withdrawn (length w.run.boots) later.seats
  pub left : (x : Call) → Contains (unanswered w) x → (x ≡ call) ⊎ Contains (unanswered later) x

-- the later world holds the reply of a served call among the others, at a place, its item stands in the running boot, and no call that
-- wasn't answered is left out
pub record IsHeldBy (z : Setting) (w : WorldView) (stub : Stub) (v : Object) (call : Call) (item : Item) (reply other : Reply) (front back : List Entry) (later : WorldView) : Type 0 where
  pub history : later.history ≡ w.history
  pub boots : later.run.boots ≡ noted w.run.boots item
  pub running : later.running ≡ Some (after z.iface.facts v (under_names stub.names call) other)
  pub held_before : held_in (length w.run.boots) w.seats ≡ front ++ back
  pub held : held_in (length w.run.boots) later.seats ≡ front ++ record { call = call; reply = reply } ∷ back
  pub seats : HaveSeats z w.history later.withdrawn (length w.run.boots) later.seats
  pub left : (x : Call) → Contains (unanswered w) x → Contains (unanswered later) x
