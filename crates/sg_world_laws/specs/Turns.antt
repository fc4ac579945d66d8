-- A client's turn: its call is let in, what the call needs is there, and the service replied to it.
use Rattle.std.specs.Prelude.{ℕ, ◌≡◌, ◌⊎◌, ◌<◌, ◌≤◌, true, List, [], ◌++◌, None, Some}
use Rattle.std.specs.declared.option.Option.{Option}
use Rattle.std.specs.List.{Contains}
use Rattle.sg_facts.specs.sg_base.Lists.{Each}
use Rattle.sg_facts.specs.sg_base.declared.call.Call.{Call}
use Rattle.sg_facts.specs.sg_base.declared.reply.Reply.{Reply}
use Rattle.sg_facts.specs.declared.outcome.Outcome.TheVariants.{Replied}
use Rattle.sg_facts.specs.declared.outcome.Patch.{Patch}
use Rattle.sg_facts.specs.declared.row.Row.{Row}
use Rattle.sg_facts.specs.declared.trace.Item.{Item}
use Rattle.sg_facts.specs.declared.trace.Tag.TheVariants.{Client}
use Rattle.sg_facts.specs.Alike.{SameReply, named, under_names}
use Rattle.sg_facts.specs.Facts.{fun_at}
use Rattle.sg_facts.specs.Guard.{guard}
use Rattle.sg_facts.specs.Laws.{Passes}
use Rattle.sg_facts.specs.Needs.{is_wanted}
use Rattle.sg_facts.specs.Object.{Object, file_at, object_of, path_of}
use Rattle.sg_facts.specs.Track.{row_at}
use Rattle.sg_recovery_laws.specs.Midway.Progress.{IsNone, complete}
use Rattle.sg_recovery_laws.specs.sg_hist.Reading.{service_call}
use Rattle.sg_recovery_laws.specs.sg_hist.Recovered.{IsByTable}
use Rattle.sg_recovery_laws.specs.Objects.Waiting.{NoneBy}
use Rattle.sg_clients.specs.WorldView.{WorldView, held_replies, unanswered}
use Rattle.sg_world_laws.specs.Keeping.{Stub}
use Rattle.sg_recovery_laws.specs.sg_hist.Clients.{MayBeMade}
use Rattle.sg_world_laws.specs.Setting.{Setting}

-- a call is let in: it is under way, is its client's last, and the guard lets it pass at the object of the history
pub record IsLetIn (z : Setting) (w : WorldView) (call : Call) : Type 0 where
  pub passes : Passes z.iface.facts (object_of z.iface.facts w.history) call
  pub guarded : guard z.iface (object_of z.iface.facts w.history) call ≡ None
  pub may : MayBeMade z.iface call
  pub none_by : NoneBy call.client (held_replies w)
  pub above : Each (λ e. e.call.client ≡ call.client → e.call.seq < call.seq) (w.history ++ held_replies w)
  pub made : Contains (unanswered w) call
  pub last : (x : Call) → Contains (unanswered w) x → x.client ≡ call.client → x.seq ≤ call.seq

-- a file is there that a call needs: it is present in this boot, or it is empty
abbrev pub IsThere : Stub → Object → List ℕ → Type 0
IsThere stub o path = (stub.present path ≡ true) ⊎ (file_at o.files path ≡ [])

-- all that is wanted for a call is there: the rows are whole, and its file is there; and its descriptor is none, or live
pub record HasAll (z : Setting) (w : WorldView) (stub : Stub) (call : Call) : Type 0 where
  pub rows : (r : Row) → row_at (object_of z.iface.facts w.history).rows r.id ≡ Some r → is_wanted z.iface (object_of z.iface.facts w.history).rows call r ≡ true → stub.told r.id ≡ complete
  pub file : (fun_at z.iface.facts.funs call.fun).uses_file ≡ true → IsThere stub (object_of z.iface.facts w.history) (path_of (object_of z.iface.facts w.history).rows call.desc)
  pub desc : IsNone (object_of z.iface.facts w.history).rows call.desc

-- an item is of a client's call, asked of the service under its ids and answered by its table
pub record IsAskedItem (z : Setting) (stub : Stub) (v : Object) (call : Call) (item : Item) : Type 0 where
  pub tag : item.tag ≡ Client call.client call.seq
  pub shown : item.shown ≡ call
  pub real : item.real ≡ named stub.names call.desc
  pub table : IsByTable z.iface.facts z.ask v (service_call item) item.outcome

-- the service replied to it, and its reply is the answer at the object of the history, under the clients' ids
pub record IsRepliedItem (z : Setting) (w : WorldView) (stub : Stub) (v : Object) (call : Call) (item : Item) (reply other : Reply) (patch : Option Patch) : Type 0 where
  pub asked : IsAskedItem z stub v call item
  pub outcome : item.outcome ≡ Replied other patch
  pub answered : z.ask (object_of z.iface.facts w.history) call ≡ Some reply
  pub answered_there : z.ask v (under_names stub.names call) ≡ Some other
  pub same : SameReply stub.names (fun_at z.iface.facts.funs call.fun).creation (Some reply) (Some other)
