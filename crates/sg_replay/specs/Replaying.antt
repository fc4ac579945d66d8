-- What it means to rebuild a row by one call more of its walk, or to load a file.
use Rattle.std.specs.Prelude.{ℕ, ◌≡◌, ◌≤◌, ◌+◌, ◌==◌, ◌||◌, true, false, if◌then◌else◌, List, None, Some, length}
use Rattle.std.specs.Str.{bytes_eq}
use Rattle.std.specs.declared.option.Option.{Option}
use Rattle.std.specs.declared.result.Result.{Result}
use Rattle.std.specs.declared.result.Result.TheVariants.{Ok as Done, Err}
use Rattle.sg_facts.specs.sg_base.declared.call.Call.{Call}
use Rattle.sg_facts.specs.sg_base.declared.reply.Good.{Good}
use Rattle.sg_facts.specs.sg_base.declared.memory.NoMemory.{NoMemory}
use Rattle.sg_facts.specs.sg_base.declared.reply.Reply.TheVariants.{Ok}
use Rattle.sg_facts.specs.declared.outcome.Patch.{Patch}
use Rattle.sg_facts.specs.declared.row.Row.{Row}
use Rattle.sg_facts.specs.declared.tables.WalkLine.{WalkLine}
use Rattle.sg_facts.specs.declared.trace.Tag.TheVariants.{Walk}
use Rattle.sg_facts.specs.Facts.{Facts}
use Rattle.sg_facts.specs.Invoke.{Points, loaded}
use Rattle.sg_facts.specs.Kinds.{MayAsk}
use Rattle.sg_facts.specs.Legal.{Table}
use Rattle.sg_facts.specs.Object.{Object}
use Rattle.sg_facts.specs.Track.{row_at}
use Rattle.sg_boot.specs.sg_hist.Reading.{walk_in}
use Rattle.sg_boot.specs.sg_hist.Recovered.{item_of_load}
use Rattle.sg_boot.specs.sg_hist.Inside.Parts.{call_in}
use Rattle.sg_boot.specs.Invoking.{NotesReply, NotesStop, with_item}
use Rattle.sg_name.specs.Names.{named_at}
use Rattle.sg_name.specs.declared.named.Named.{Named}
use Rattle.sg_name.specs.declared.named.Named.TheVariants.{Partial, Live}
use Rattle.sg_replay.specs.declared.advance.Advanced.{Advanced}
use Rattle.sg_replay.specs.declared.advance.Advanced.TheVariants.{Replayed, Loaded, Struck}
use Rattle.sg_replay.specs.Engined.{Engined}
use Rattle.sg_replay.specs.Missing.{is_whole, missing, next_number}
use Rattle.sg_replay.specs.declared.todo.Todo.{Todo}
use Rattle.sg_replay.specs.declared.todo.Todo.TheVariants.{Walk as ToWalk, Load}
use Rattle.sg_replay.specs.Present.{is_present}
use Rattle.sg_store.specs.Stored.{bytes_of}
use Rattle.sg_replay.specs.Serving.{KeepsNames, makes, real_call}

-- the call with this number of the walk of an id's row
abbrev pub replay_of : Facts → List WalkLine → Option Row → ℕ → Option Call
replay_of facts walks None k = None
replay_of facts walks (Some r) k = call_in facts r k (walk_in walks (Some r))

-- the length of the walk of a row
abbrev pub length_of : Option (List ℕ) → ℕ
length_of None = 0
length_of (Some walk) = length walk

-- the number of calls of the walk of a row, 0 where there is no walk
abbrev pub walk_length : List WalkLine → Option Row → ℕ
walk_length walks row = length_of (walk_in walks row)

-- a row may be rebuilt by this call of its walk: the service may be asked it under its ids and answers Ok, and the first call of
-- a walk is a creation, which gives the service's next id
pub record IsReplayable (facts : Facts) (ask : Table) (e : Engined) (held : Object) (id k : ℕ) (shown : Call) : Type 0 where
  pub its : replay_of facts e.tables.walks (row_at e.tracked.rows id) k ≡ Some shown
  pub fields : (r : Row) → row_at e.tracked.rows id ≡ Some r → length r.fields ≤ 8
  pub may : MayAsk facts held (real_call e shown)
  pub good : Good
  pub answered : ask held (real_call e shown) ≡ Some (Ok good)
  pub first : k ≡ 1 → (makes facts shown ≡ true) × (good.desc ≡ held.given + 1)

-- a row is to be rebuilt by this call of its walk: the service is up, the row isn't whole, and the call is the next of its walk
pub record MayReplay (facts : Facts) (ask : Table) (e : Engined) (id k : ℕ) : Type 0 where
  pub held : Object
  pub up : e.cell.running ≡ Some held
  pub shown : Call
  pub ready : IsReplayable facts ask e held id k shown
  pub partly : is_whole (named_at e.names.known id) ≡ false
  pub next : k ≡ next_number (named_at e.names.known id)

-- what stands for an id after a call of its walk: its first call gives its service id, its last makes it whole
abbrev pub name_after : ℕ → ℕ → ℕ → Named
name_after real k last = if k == last then Live real else Partial real k

-- the service id of an id after a call of its walk that gave a descriptor
abbrev pub real_after : Named → ℕ → ℕ
real_after (Partial real done) desc = real
real_after _ desc = desc

-- a call more of a walk was replayed, its item is noted, and its row is so much further
pub record Replays (facts : Facts) (ask : Table) (parts : ℕ → ℕ) (held : Object) (old : Engined) (id k client : ℕ) (shown : Call) (points : Points) (new : Engined) (later : Points) : Type 0 where
  pub good : Good
  pub patch : Option Patch
  pub notes : NotesReply facts ask parts held old.cell (Walk id k client) shown (real_call old shown) points (Ok good) patch new.cell later
  pub names : (x : ℕ) → named_at new.names.known x
      ≡ (if x == id then name_after (real_after (named_at old.names.known id) good.desc) k (walk_length old.tables.walks (row_at old.tracked.rows id)) else named_at old.names.known x)

-- the service stopped within the call, whose item is noted
pub record IsStruck (ask : Table) (parts : ℕ → ℕ) (held : Object) (old : Engined) (id k client : ℕ) (shown : Call) (points : Points) (new : Engined) (later : Points) : Type 0 where
  pub notes : NotesStop ask parts held old.cell (Walk id k client) shown (real_call old shown) points new.cell later
  pub names : KeepsNames old new

-- there was no memory: nothing changed but room, and no point was asked
pub record IsUnchanged (old : Engined) (points : Points) (new : Engined) (later : Points) : Type 0 where
  pub unasked : later ≡ points
  pub running : new.cell.running ≡ old.cell.running
  pub run : new.cell.run ≡ old.cell.run
  pub names : KeepsNames old new

-- what one call more of a walk does, by its answer
abbrev pub ReplaysOne : Facts → Table → (ℕ → ℕ) → Object → Engined → ℕ → ℕ → ℕ → Call → Points → Result Advanced NoMemory → Engined → Points → Type 0
ReplaysOne facts ask parts held old id k client shown points (Done Replayed) new later = Replays facts ask parts held old id k client shown points new later
ReplaysOne facts ask parts held old id k client shown points (Done Struck) new later = IsStruck ask parts held old id k client shown points new later
ReplaysOne facts ask parts held old id k client shown points (Done Loaded) new later = ⊥
ReplaysOne facts ask parts held old id k client shown points (Err error) new later = IsUnchanged old points new later

-- ---- files

-- a file was loaded: the service has it as storage has it, the load is noted, and it is present in this boot
pub record Loads (facts : Facts) (held : Object) (old : Engined) (client : ℕ) (key : List ℕ) (points : ℕ) (new : Engined) : Type 0 where
  pub running : new.cell.running ≡ Some (loaded facts held key (bytes_of old.stored key))
  pub run : new.cell.run ≡ with_item old.cell.run (item_of_load client points key (bytes_of old.stored key)) points
  pub present : (k : List ℕ) → is_present new.present k ≡ (bytes_eq k key || is_present old.present k)
  pub names : KeepsNames old new

-- all files are as present as before
abbrev pub KeepsPresent : Engined → Engined → Type 0
KeepsPresent old new = (key : List ℕ) → is_present new.present key ≡ is_present old.present key

-- what loading a file does, by its answer; no point is asked
abbrev pub LoadsOne : Facts → Object → Engined → ℕ → List ℕ → Points → Result Advanced NoMemory → Engined → Points → Type 0
LoadsOne facts held old client key points (Done Loaded) new later = Loads facts held old client key points.asked new × (later ≡ points)
LoadsOne facts held old client key points (Done Replayed) new later = ⊥
LoadsOne facts held old client key points (Done Struck) new later = ⊥
LoadsOne facts held old client key points (Err error) new later = IsUnchanged old points new later × KeepsPresent old new

-- ---- one step

-- what is to be done next may be done: it is what is missing of some rows and the needed file, the service is up, a row may be
-- rebuilt by the next call of its walk, and a file is loaded into a service that has files
pub record MayAdvance (facts : Facts) (ask : Table) (e : Engined) (file : Option (List ℕ)) (todo : Todo) : Type 0 where
  pub held : Object
  pub up : e.cell.running ≡ Some held
  pub ids : List ℕ
  pub due : missing e (record { ids = ids; file = file }) ≡ Some todo
  pub walk : (id k : ℕ) → todo ≡ ToWalk id k → (shown : Call) × IsReplayable facts ask e held id k shown
  pub load : todo ≡ Load → facts.resc_data ≡ true
