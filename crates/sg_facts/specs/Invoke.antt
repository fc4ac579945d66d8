-- What asking a service does.
use Rattle.std.specs.Prelude.{ℕ, ◌≡◌, ◌+◌, ◌<◌, ◌≤◌, if◌then◌else◌, List, [], ◌∷◌, ◌++◌, None, Some, length}
use Rattle.std.specs.declared.option.Option.{Option}
use Rattle.sg_base.specs.declared.call.Call.{Call}
use Rattle.sg_base.specs.declared.reply.Good.{Good}
use Rattle.sg_base.specs.declared.reply.Reply.{Reply}
use Rattle.sg_base.specs.declared.reply.Reply.TheVariants.{Ok, Refused}
use Rattle.sg_base.specs.Reply.{FitsReplyRoom}
use Rattle.sg_base.specs.Stops.{asked_after}
use Rattle.sg_facts.specs.declared.outcome.Outcome.{Outcome}
use Rattle.sg_facts.specs.declared.outcome.Outcome.TheVariants.{Replied, Blocks, Stopped, NoMemory}
use Rattle.sg_facts.specs.declared.outcome.Patch.{Patch}
use Rattle.sg_facts.specs.Facts.{Facts}
use Rattle.sg_facts.specs.Limits.{most_file, most_path, most_written}
use Rattle.sg_facts.specs.Object.{Object, after, patch_of, file_at, set_file}
use Rattle.sg_facts.specs.Legal.{Table}

-- the number of points asked, and the points struck
pub record Points : Type 0 where
  pub asked : ℕ
  pub struck : List ℕ

-- the parts that a reply took: those of its function for an Ok, none for a refusal
abbrev pub parts_of : (ℕ → ℕ) → Call → Reply → ℕ
parts_of parts call (Ok good) = parts call.fun
parts_of parts call (Refused code) = 0

-- nothing changed, and no point was asked
pub record Stays (old : Object) (points : Points) (new : Object) (later : Points) : Type 0 where
  pub same : new ≡ old
  pub unasked : later ≡ points

-- the service replied: as its table says, with the change and the patch that belong to the reply, and each part of an
-- Ok was asked
pub record HasReplied (facts : Facts) (ask : Table) (parts : ℕ → ℕ) (old : Object) (call : Call) (points : Points) (reply : Reply) (patch : Option Patch) (new : Object) (later : Points) : Type 0 where
  pub answered : ask old call ≡ Some reply
  pub changed : new ≡ after facts old call reply
  pub written : patch ≡ patch_of facts old call reply
  pub asked : later.asked ≡ asked_after points.asked (parts_of parts call reply)
  pub struck : later.struck ≡ points.struck

-- the service stopped at a part of an Ok: the last point asked struck, and nothing is known of the object
pub record HasStopped (ask : Table) (parts : ℕ → ℕ) (old : Object) (call : Call) (points later : Points) : Type 0 where
  pub answered : (good : Good) × (ask old call ≡ Some (Ok good))
  pub first : points.asked < later.asked
  pub last : later.asked ≤ points.asked + parts call.fun
  pub struck : later.struck ≡ points.struck ++ later.asked ∷ []

-- what asking a service does, by its outcome
abbrev pub Invokes : Facts → Table → (ℕ → ℕ) → Object → Call → Points → Outcome → Object → Points → Type 0
Invokes facts ask parts old call points (Replied reply patch) new later = HasReplied facts ask parts old call points reply patch new later
Invokes facts ask parts old call points Blocks new later = (ask old call ≡ None) × Stays old points new later
Invokes facts ask parts old call points Stopped new later = HasStopped ask parts old call points later
Invokes facts ask parts old call points NoMemory new later = Stays old points new later

-- a patch is at a path of at most 256 bytes, has at most 256 bytes, begins within the file and ends at most at 65,536
pub record FitsFile (o : Object) (p : Patch) : Type 0 where
  pub key : length p.key ≤ most_path
  pub bytes : length p.bytes ≤ most_written
  pub within : p.from ≤ length (file_at o.files p.key)
  pub end : p.from + length p.bytes ≤ most_file

-- there is no patch, or it fits its file
abbrev pub IfPatch : Object → Option Patch → Type 0
IfPatch o None = Unit {0}
IfPatch o (Some p) = FitsFile o p

-- a reply has at most 4 words and 256 bytes, and a patch fits its file
abbrev pub FitsRoom : Object → Outcome → Type 0
FitsRoom o (Replied reply patch) = FitsReplyRoom reply × IfPatch o patch
FitsRoom o Blocks = Unit {0}
FitsRoom o Stopped = Unit {0}
FitsRoom o NoMemory = Unit {0}

-- the object after a file was loaded: its file is set; a service without files stays
abbrev pub loaded : Facts → Object → List ℕ → List ℕ → Object
loaded facts o path bytes = if facts.resc_data then record o { files = set_file o.files path bytes } else o
