-- When an answered call may be committed, and what it leaves of names.
use Rattle.std.specs.Prelude.{ℕ, ◌≡◌, Bool, true, false, ◌&&◌, not, if◌then◌else◌, List, None, Some, IfSome}
use Rattle.std.specs.declared.option.Option.{Option}
use Rattle.std.specs.Str.{bytes_eq}
use Rattle.sg_facts.specs.sg_base.declared.call.Call.{Call}
use Rattle.sg_facts.specs.sg_base.declared.reply.Reply.{Reply}
use Rattle.sg_facts.specs.declared.outcome.Patch.{Patch}
use Rattle.sg_facts.specs.declared.row.Row.{Row}
use Rattle.sg_facts.specs.Facts.{Facts, is_visible}
use Rattle.sg_facts.specs.Track.{is_live}
use Rattle.sg_name.specs.declared.named.Named.{Named}
use Rattle.sg_name.specs.declared.named.Named.TheVariants.{Unnamed}
use Rattle.sg_store.specs.Committing.{MayCommit}
use Rattle.sg_store.specs.Stored.{Stored}
use Rattle.sg_needs.specs.sg_track.Tracked.{MayTrack}
use Rattle.sg_replay.specs.Engined.{Engined}
use Rattle.sg_replay.specs.Present.{HasMark}

-- an answered call may be stored: where it is visible it may be committed, and one that isn't visible wrote nothing
pub record MayStore (facts : Facts) (stored : Stored) (call : Call) (reply : Reply) (patch : Option Patch) : Type 0 where
  pub visible : is_visible facts call.fun ≡ true → MayCommit facts stored call reply patch
  pub hidden : is_visible facts call.fun ≡ false → patch ≡ None

-- an answered call may be committed: the stubs may track it, it may be stored, and memory was taken for a written file to become
-- present
pub record MayCommitAt (facts : Facts) (e : Engined) (call : Call) (reply : Reply) (patch : Option Patch) : Type 0 where
  pub tracks : MayTrack facts e.tracked call reply
  pub stores : MayStore facts e.stored call reply patch
  pub marked : IfSome patch (λ p. HasMark e.present p.key)

-- what stands for an id when rows come to others: nothing where the id was live and isn't any more
abbrev pub name_left : List Row → List Row → ℕ → Named → Named
name_left before after id old = if is_live before id && not (is_live after id) then Unnamed else old

-- whether a patch wrote into the file of a path
abbrev pub is_written : Option Patch → List ℕ → Bool
is_written None key = false
is_written (Some p) key = bytes_eq key p.key
