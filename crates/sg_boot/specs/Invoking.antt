-- What it means to ask the service of a cell.
use Rattle.std.specs.Prelude.{ℕ, ◌≡◌, ◌≢◌, ◌+◌, ◌<◌, ◌≤◌, List, [], ◌∷◌, ◌++◌, None, Some}
use Rattle.std.specs.declared.option.Option.{Option}
use Rattle.sg_facts.specs.sg_base.Counts.{last_count}
use Rattle.sg_facts.specs.sg_base.Stops.{asked_after}
use Rattle.sg_facts.specs.sg_base.declared.call.Call.{Call}
use Rattle.sg_facts.specs.sg_base.declared.reply.Reply.{Reply}
use Rattle.sg_boot.specs.Cells.{Celled}
use Rattle.sg_facts.specs.declared.outcome.Outcome.{Outcome}
use Rattle.sg_facts.specs.declared.outcome.Outcome.TheVariants.{Replied, Blocks, Stopped, NoMemory}
use Rattle.sg_facts.specs.declared.outcome.Patch.{Patch}
use Rattle.sg_facts.specs.declared.trace.Item.{Item}
use Rattle.sg_facts.specs.declared.trace.Tag.{Tag}
use Rattle.sg_facts.specs.declared.trace.Tag.TheVariants.{Load}
use Rattle.sg_facts.specs.Facts.{Facts}
use Rattle.sg_facts.specs.Invoke.{Points, parts_of}
use Rattle.sg_facts.specs.Kinds.{MayAsk}
use Rattle.sg_facts.specs.Legal.{Table}
use Rattle.sg_facts.specs.Object.{Object, after, patch_of}
use Rattle.sg_facts.specs.Trace.{Run}
use Rattle.sg_hist.specs.Growing.{noted, struck}

-- ---- items

-- the item of a call that was asked
abbrev pub item_of_call : Tag → Call → ℕ → ℕ → Outcome → Item
item_of_call tag shown real points outcome = record { tag = tag; shown = shown; real = real; points = points; outcome = outcome }

-- an item more in the last boot, and the number of points asked
abbrev pub with_item : Run → Item → ℕ → Run
with_item run item points = record { boots = noted run.boots item; points = points }

-- the last boot ended at a point, which is the last that was asked
abbrev pub with_stop : Run → ℕ → Run
with_stop run point = record { boots = struck run.boots point; points = point }

-- ---- asking

-- a service that is up may be asked a call, which is the one that is shown but for its descriptor or parent
pub record MayInvoke (facts : Facts) (c : Celled) (tag : Tag) (shown call : Call) : Type 0 where
  pub held : Object
  pub up : c.running ≡ Some held
  pub may : MayAsk facts held call
  pub room : 1 ≤ c.room
  pub tagged : (key : List ℕ) (client : ℕ) → tag ≢ Load key client
  pub same : call ≡ record shown { desc = call.desc }

-- the service answered as its table says, with the patch that belongs to the reply; each part of an Ok was asked, and the point
-- after the reply
pub record AnswersCall (facts : Facts) (ask : Table) (parts : ℕ → ℕ) (old : Object) (call : Call) (points : Points) (reply : Reply) (patch : Option Patch) (later : Points) : Type 0 where
  pub answered : ask old call ≡ Some reply
  pub written : patch ≡ patch_of facts old call reply
  pub asked : later.asked ≡ asked_after (asked_after points.asked (parts_of parts call reply)) 1
  pub struck : later.struck ≡ points.struck

-- the service stopped within a call that it would have answered: at a part of an Ok, or at the point after the reply. The last
-- point asked struck
pub record Stops (ask : Table) (parts : ℕ → ℕ) (old : Object) (call : Call) (points later : Points) : Type 0 where
  pub reply : Reply
  pub answered : ask old call ≡ Some reply
  pub first : points.asked < later.asked
  pub last : later.asked ≤ points.asked + parts_of parts call reply + 1
  pub struck : later.struck ≡ points.struck ++ later.asked ∷ []

-- the service replied and goes on after the call, whose item is noted with the points asked
pub record NotesReply (facts : Facts) (ask : Table) (parts : ℕ → ℕ) (held : Object) (old : Celled) (tag : Tag) (shown call : Call) (points : Points) (reply : Reply) (patch : Option Patch) (new : Celled) (later : Points) : Type 0 where
  pub answers : AnswersCall facts ask parts held call points reply patch later
  pub running : new.running ≡ Some (after facts held call reply)
  pub run : new.run ≡ with_item old.run (item_of_call tag shown call.desc later.asked (Replied reply patch)) later.asked

-- the caller has to wait: the service goes on as it was, no point was asked, and the item is noted
pub record NotesWait (ask : Table) (held : Object) (old : Celled) (tag : Tag) (shown call : Call) (points : Points) (new : Celled) (later : Points) : Type 0 where
  pub unanswered : ask held call ≡ None
  pub unasked : later ≡ points
  pub running : new.running ≡ Some held
  pub run : new.run ≡ with_item old.run (item_of_call tag shown call.desc points.asked Blocks) points.asked

-- the service stopped, and has failed: the item is noted, and the boot ended at the last point asked, which can be counted
pub record NotesStop (ask : Table) (parts : ℕ → ℕ) (held : Object) (old : Celled) (tag : Tag) (shown call : Call) (points : Points) (new : Celled) (later : Points) : Type 0 where
  pub stops : Stops ask parts held call points later
  pub counted : later.asked ≤ last_count
  pub running : new.running ≡ None
  pub run : new.run ≡ with_stop (with_item old.run (item_of_call tag shown call.desc later.asked Stopped) later.asked) later.asked

-- there was no memory: nothing changed, and no point was asked
pub record NotesNothing (old : Celled) (points : Points) (new : Celled) (later : Points) : Type 0 where
  pub unasked : later ≡ points
  pub running : new.running ≡ old.running
  pub run : new.run ≡ old.run
  pub room : new.room ≡ old.room

-- what asking the service of a cell does, by the outcome
abbrev pub Invoked : Facts → Table → (ℕ → ℕ) → Object → Celled → Tag → Call → Call → Points → Outcome → Celled → Points → Type 0
Invoked facts ask parts held old tag shown call points (Replied reply patch) new later = NotesReply facts ask parts held old tag shown call points reply patch new later
Invoked facts ask parts held old tag shown call points Blocks new later = NotesWait ask held old tag shown call points new later
Invoked facts ask parts held old tag shown call points Stopped new later = NotesStop ask parts held old tag shown call points new later
Invoked facts ask parts held old tag shown call points NoMemory new later = NotesNothing old points new later
