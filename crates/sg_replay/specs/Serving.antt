-- What it means to serve a call: the service is asked it under its own ids, and its answer is told under the clients'.
use Rattle.std.specs.Prelude.{ℕ, ◌≡◌, ◌≤◌, ◌<◌, ◌⊎◌, ◌+◌, ◌^◌, ◌==◌, ◌&&◌, Bool, true, false, if◌then◌else◌, List, Some, map}
use Rattle.std.specs.declared.option.Option.{Option}
use Rattle.sg_facts.specs.sg_base.declared.call.Call.{Call}
use Rattle.sg_facts.specs.sg_base.declared.reply.Good.{Good}
use Rattle.sg_facts.specs.sg_base.declared.reply.Reply.{Reply}
use Rattle.sg_facts.specs.sg_base.declared.reply.Reply.TheVariants.{Ok, Refused}
use Rattle.sg_facts.specs.declared.outcome.Outcome.{Outcome}
use Rattle.sg_facts.specs.declared.outcome.Outcome.TheVariants.{Replied, Blocks, Stopped, NoMemory}
use Rattle.sg_facts.specs.declared.outcome.Patch.{Patch}
use Rattle.sg_facts.specs.declared.trace.Tag.TheVariants.{Client}
use Rattle.sg_facts.specs.Alike.{under_names}
use Rattle.sg_facts.specs.Facts.{Facts, fun_at}
use Rattle.sg_facts.specs.Invoke.{Points}
use Rattle.sg_facts.specs.Kinds.{MayAsk}
use Rattle.sg_facts.specs.Legal.{Table}
use Rattle.sg_facts.specs.Object.{Object}
use Rattle.sg_boot.specs.Invoking.{NotesNothing, NotesReply, NotesStop, NotesWait}
use Rattle.sg_name.specs.Names.{named_at, real_at}
use Rattle.sg_name.specs.declared.named.Named.TheVariants.{Live}
use Rattle.sg_name.specs.declared.named.Standing.{Standing}
use Rattle.sg_replay.specs.Engined.{Engined}

-- the names as pairs of a client's id and a service's
abbrev pub pairs_of : List (ℕ × Standing) → List (ℕ × ℕ)
pairs_of known = map (λ n. (n.0, n.1.real)) known

-- a call under the ids of the running service
abbrev pub real_call : Engined → Call → Call
real_call e call = under_names (pairs_of e.names.known) call

-- whether a call makes a descriptor
abbrev pub makes : Facts → Call → Bool
makes facts call = (fun_at facts.funs call.fun).creation

-- a descriptor of the service is told: one that was made under the next id, none as none, and any other under the id that it
-- stands for
abbrev pub IsDescTold : List (ℕ × Standing) → Bool → ℕ → ℕ → ℕ → Type 0
IsDescTold known true next real told = told ≡ next
IsDescTold known false next real told = ((real ≡ 0) × (told ≡ 0)) ⊎ (real_at known told ≡ Some real)

-- a reply of the service is told under the clients' ids
abbrev pub IsReplyTold : List (ℕ × Standing) → Bool → ℕ → Reply → Reply → Type 0
IsReplyTold known is_new next (Ok good) (Ok told) = (told.words ≡ good.words) × (told.bytes ≡ good.bytes) × IsDescTold known is_new next good.desc told.desc
IsReplyTold known is_new next (Refused code) (Refused told) = told ≡ code
IsReplyTold known is_new next _ _ = ⊥

-- a call may be served: the service is up and may be asked it under its ids, there is room for its item and its name, and what
-- the service would answer can be told: a creation gives the service's next id, and any other descriptor stands for a client's id
pub record MayServe (facts : Facts) (ask : Table) (e : Engined) (call : Call) : Type 0 where
  pub held : Object
  pub up : e.cell.running ≡ Some held
  pub may : MayAsk facts held (real_call e call)
  pub room : 1 ≤ e.cell.room
  pub name_room : 1 ≤ e.names.spare
  pub ids : e.tracked.given + 1 < 2 ^ 64
  pub next : (good : Good) → ask held (real_call e call) ≡ Some (Ok good) → makes facts call ≡ true → good.desc ≡ held.given + 1
  pub back : (good : Good) → ask held (real_call e call) ≡ Some (Ok good) → makes facts call ≡ false
      → (good.desc ≡ 0) ⊎ ((id : ℕ) × (real_at e.names.known id ≡ Some good.desc))

-- whether a reply made what stands for an id now
abbrev pub is_named_by : Bool → ℕ → Reply → ℕ → Bool
is_named_by is_new next (Ok good) id = is_new && (id == next)
is_named_by is_new next (Refused code) id = false

-- the service id in a reply
abbrev pub real_in : Reply → ℕ
real_in (Ok good) = good.desc
real_in (Refused code) = 0

-- the service replied, its item is noted, its reply is told, and what it made has a name
pub record TellsReply (facts : Facts) (ask : Table) (parts : ℕ → ℕ) (held : Object) (old : Engined) (call : Call) (points : Points) (told : Reply) (patch : Option Patch) (new : Engined) (later : Points) : Type 0 where
  pub reply : Reply
  pub notes : NotesReply facts ask parts held old.cell (Client call.client call.seq) call (real_call old call) points reply patch new.cell later
  pub tells : IsReplyTold old.names.known (makes facts call) (old.tracked.given + 1) reply told
  pub names : (id : ℕ) → named_at new.names.known id ≡ (if is_named_by (makes facts call) (old.tracked.given + 1) reply id then Live (real_in reply) else named_at old.names.known id)

-- all names stay
abbrev pub KeepsNames : Engined → Engined → Type 0
KeepsNames old new = (id : ℕ) → named_at new.names.known id ≡ named_at old.names.known id

-- what serving a call does, by its outcome
abbrev pub ServesOne : Facts → Table → (ℕ → ℕ) → Object → Engined → Call → Points → Outcome → Engined → Points → Type 0
ServesOne facts ask parts held old call points (Replied reply patch) new later = TellsReply facts ask parts held old call points reply patch new later
ServesOne facts ask parts held old call points Blocks new later = NotesWait ask held old.cell (Client call.client call.seq) call (real_call old call) points new.cell later × KeepsNames old new
ServesOne facts ask parts held old call points Stopped new later = NotesStop ask parts held old.cell (Client call.client call.seq) call (real_call old call) points new.cell later × KeepsNames old new
ServesOne facts ask parts held old call points NoMemory new later = NotesNothing old.cell points new.cell later × KeepsNames old new
