-- What the file service decides.
use Rattle.std.specs.Prelude.{ℕ, ◌≡◌, ◌+◌, ◌<◌, ◌≤◌, nat_lt, if◌then◌else◌, List, [], ◌∷◌, ◌++◌, None, Some, length, take, drop}
use Rattle.sg_facts.specs.sg_base.declared.call.Call.{Call}
use Rattle.sg_facts.specs.sg_base.declared.reply.Code.TheVariants.{Gap, TooBig, BadName}
use Rattle.sg_facts.specs.sg_base.declared.reply.Reply.{Reply}
use Rattle.sg_facts.specs.sg_base.declared.reply.Reply.TheVariants.{Ok, Refused}
use Rattle.sg_facts.specs.sg_base.Stops.{asked_after}
use Rattle.sg_facts.specs.declared.outcome.Outcome.{Outcome}
use Rattle.sg_facts.specs.declared.outcome.Outcome.TheVariants.{Replied, Blocks, Stopped, NoMemory}
use Rattle.sg_facts.specs.declared.outcome.Patch.{Patch}
use Rattle.sg_facts.specs.Invoke.{Points}
use Rattle.sg_facts.specs.Limits.{most_file, most_path}
use Rattle.sg_facts.specs.Object.{file_at, first_text, over, path_of, set_file}
use Rattle.sg_slots.specs.declared.decision.Decision.{Decision}
use Rattle.sg_slots.specs.declared.decision.Decision.TheVariants.{Refuse, Make, Set}
use Rattle.sg_slots.specs.Carry.{Carries, IsDone, IsSame, held_after, ok_reply}
use Rattle.sg_slots.specs.Slots.{Held}
use Rattle.sg_ramfs.specs.declared.open_file.OpenFile.{OpenFile}
use Rattle.sg_ramfs.specs.declared.plan.ReadPlan.{ReadPlan}
use Rattle.sg_ramfs.specs.declared.plan.WritePlan.{WritePlan}
use Rattle.sg_ramfs.specs.declared.plan.WritePlan.TheVariants.{Refuse as RefuseWrite, Move, Put}
use Rattle.sg_ramfs.specs.declared.moves.Moved.{Moved}
use Rattle.sg_ramfs.specs.declared.moves.Moved.TheVariants.{Done, Stopped as MoveStopped, NoMemory as NoMoveMemory}
use Rattle.sg_ramfs.specs.RamfsTable.{is_bad_name}
use Rattle.sg_ramfs.specs.Inside.RamfsAnswer.{most_read}
use Rattle.sg_ramfs.specs.Inside.RamfsTree.{tree_rows}

-- ---- decisions

-- a descriptor is made below another, or as a root, at the start of its file
abbrev pub on_open : Held OpenFile → Call → Decision OpenFile
on_open held call =
    let name = first_text call.args in
    if is_bad_name name then Refuse BadName
    else if nat_lt most_path (length (path_of (tree_rows held) call.desc ++ 47 ∷ name)) then Refuse TooBig
    else Make (record { creator = call.client; parent = call.desc; name = name; place = 0 }) None

-- a descriptor reads at most so many bytes of its file, and moves its place after them
abbrev pub on_read : OpenFile → List ℕ → ℕ → ReadPlan
on_read f file n =
    let bytes = take n (drop f.place file) in
    if nat_lt most_read n then record { decision = Refuse TooBig; bytes = [] }
    else record { decision = Set (record f { place = f.place + length bytes }) (Some (length bytes)); bytes = bytes }

-- bytes to write are a patch where there are any
abbrev pub put_at : List ℕ → OpenFile → List ℕ → WritePlan
put_at path f [] = Move (record f { place = f.place + 0 })
put_at path f (b ∷ bytes) = Put (record f { place = f.place + length (b ∷ bytes) }) (record { key = path; from = f.place; bytes = b ∷ bytes })

-- a descriptor writes bytes into its file, and moves its place after them
abbrev pub on_write : OpenFile → List ℕ → List ℕ → List ℕ → WritePlan
on_write f path file bytes =
    if nat_lt (length file) f.place then RefuseWrite Gap
    else if nat_lt most_file (f.place + length bytes) then RefuseWrite TooBig
    else put_at path f bytes

-- a descriptor's place is set
abbrev pub on_seek : OpenFile → ℕ → Decision OpenFile
on_seek f place = if nat_lt most_file place then Refuse TooBig else Set (record f { place = place }) None

-- ---- how they are carried out

-- a reply with bytes
abbrev pub with_bytes : Reply → List ℕ → Reply
with_bytes (Ok good) bytes = Ok (record good { bytes = bytes })
with_bytes (Refused code) bytes = Refused code

-- a decision is carried out, and its reply has bytes
abbrev pub CarriesBytes : Held OpenFile → ℕ → Decision OpenFile → List ℕ → Points → Outcome → Held OpenFile → Points → Type 0
CarriesBytes old id d bytes points (Replied reply None) new later = (plain : Reply) × IsDone old id d points plain new later × (reply ≡ with_bytes plain bytes)
CarriesBytes old id d bytes points (Replied reply (Some patch)) new later = ⊥
CarriesBytes old id d bytes points Blocks new later = Carries old id d points Blocks new later
CarriesBytes old id d bytes points Stopped new later = Carries old id d points Stopped new later
CarriesBytes old id d bytes points NoMemory new later = Carries old id d points NoMemory new later

-- a descriptor was set, the first of two parts, and both were asked
pub record IsMoved (old : Held OpenFile) (id : ℕ) (f : OpenFile) (count : ℕ) (points : Points) (reply : Reply) (new : Held OpenFile) (later : Points) : Type 0 where
  pub answered : reply ≡ ok_reply 0 (Some count)
  pub changed : new ≡ held_after old id (Set f (Some count))
  pub asked : later.asked ≡ asked_after points.asked 2
  pub struck : later.struck ≡ points.struck

-- one of two parts struck, which was the last that was asked
pub record IsCutShort (points later : Points) : Type 0 where
  pub first : points.asked < later.asked
  pub last : later.asked ≤ points.asked + 2
  pub struck : later.struck ≡ points.struck ++ later.asked ∷ []

-- a descriptor is set in the first of two parts
abbrev pub Moves : Held OpenFile → ℕ → OpenFile → ℕ → Points → Moved → Held OpenFile → Points → Type 0
Moves old id f count points (Done reply) new later = IsMoved old id f count points reply new later
Moves old id f count points MoveStopped new later = IsCutShort points later
Moves old id f count points NoMoveMemory new later = IsSame old points new later

-- what that comes to where nothing is written
abbrev pub outcome_of : Moved → Outcome
outcome_of (Done reply) = Replied reply None
outcome_of MoveStopped = Stopped
outcome_of NoMoveMemory = NoMemory

-- a descriptor is set in the first of two parts, and a patch written over the bytes of its file in the second
abbrev pub Overwrites : Held OpenFile → List ℕ → ℕ → OpenFile → Patch → Points → Outcome → Held OpenFile → List ℕ → Points → Type 0
Overwrites old bytes id f p points (Replied reply (Some q)) new bytes' later = IsMoved old id f (length p.bytes) points reply new later × (q ≡ p) × (bytes' ≡ over bytes p.from p.bytes)
Overwrites old bytes id f p points (Replied reply None) new bytes' later = ⊥
Overwrites old bytes id f p points Blocks new bytes' later = ⊥
Overwrites old bytes id f p points Stopped new bytes' later = IsCutShort points later × (bytes' ≡ bytes)
Overwrites old bytes id f p points NoMemory new bytes' later = IsSame old points new later × (bytes' ≡ bytes)

-- among all files, a descriptor is set in the first of two parts, and a patch written over its file in the second
abbrev pub Puts : Held OpenFile → List (List ℕ × List ℕ) → ℕ → OpenFile → Patch → Points → Outcome → Held OpenFile → List (List ℕ × List ℕ) → Points → Type 0
Puts old files id f p points (Replied reply (Some q)) new files' later =
    IsMoved old id f (length p.bytes) points reply new later × (q ≡ p) × (files' ≡ set_file files p.key (over (file_at files p.key) p.from p.bytes))
Puts old files id f p points (Replied reply None) new files' later = ⊥
Puts old files id f p points Blocks new files' later = ⊥
Puts old files id f p points Stopped new files' later = IsCutShort points later
Puts old files id f p points NoMemory new files' later = IsSame old points new later × (files' ≡ files)

-- a plan to write is carried out
abbrev pub WritesFile : Held OpenFile → List (List ℕ × List ℕ) → ℕ → WritePlan → Points → Outcome → Held OpenFile → List (List ℕ × List ℕ) → Points → Type 0
WritesFile old files id (RefuseWrite code) points (Replied reply None) new files' later = (reply ≡ Refused code) × IsSame old points new later × (files' ≡ files)
WritesFile old files id (RefuseWrite code) points (Replied reply (Some patch)) new files' later = ⊥
WritesFile old files id (RefuseWrite code) points Blocks new files' later = ⊥
WritesFile old files id (RefuseWrite code) points Stopped new files' later = ⊥
WritesFile old files id (RefuseWrite code) points NoMemory new files' later = IsSame old points new later × (files' ≡ files)
WritesFile old files id (Move f) points (Replied reply None) new files' later = IsMoved old id f 0 points reply new later × (files' ≡ files)
WritesFile old files id (Move f) points (Replied reply (Some patch)) new files' later = ⊥
WritesFile old files id (Move f) points Blocks new files' later = ⊥
WritesFile old files id (Move f) points Stopped new files' later = IsCutShort points later
WritesFile old files id (Move f) points NoMemory new files' later = IsSame old points new later × (files' ≡ files)
WritesFile old files id (Put f p) points outcome new files' later = Puts old files id f p points outcome new files' later
