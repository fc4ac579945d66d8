-- What contracts see of a tracker, and when an answered call may be tracked.
use Rattle.std.specs.Prelude.{ℕ, ◌≡◌, ◌+◌, ◌-◌, ◌<◌, ◌≤◌, ◌==◌, Bool, true, false, ◌||◌, ◌&&◌, not, if◌then◌else◌, List, [], ◌∷◌, ◌++◌, Some, filter, length, map}
use Rattle.sg_facts.specs.sg_base.declared.call.Call.{Call}
use Rattle.sg_facts.specs.sg_base.declared.reply.Good.{Good}
use Rattle.sg_facts.specs.sg_base.declared.reply.Reply.{Reply}
use Rattle.sg_facts.specs.sg_base.declared.reply.Reply.TheVariants.{Ok, Refused}
use Rattle.sg_facts.specs.declared.row.Row.{Row}
use Rattle.sg_facts.specs.Facts.{Facts, fun_at, takes_parent}
use Rattle.sg_facts.specs.Allowed.{is_allowed}
use Rattle.sg_facts.specs.Object.{Object}
use Rattle.sg_facts.specs.Sound.{AreRows, IsSound}
use Rattle.sg_facts.specs.Track.{is_ancestor, is_live, new_row, row_at, rows_after}
use Rattle.sg_facts.specs.Inside.Rows.{row_after}
use Rattle.sg_facts.specs.Fields.{empty_field}
use Rattle.sg_track.specs.Drafts.{EachNew, IsDraftWord, IsValue}

-- the rows in ascending ids, how many ids were given, and for how many more rows there is room
pub record Tracked : Type 0 where
  pub rows : List Row
  pub given : ℕ
  pub spare : ℕ

-- a row's parent is below its id
abbrev pub HasLowerParent : Row → Type 0
HasLowerParent r = r.parent < r.id

-- rows under ascending ids from 1 to the number given, each above its parent
abbrev pub AreTracked : ℕ → List Row → Type 0
AreTracked given rows = AreRows HasLowerParent 0 given rows

-- the room left after an answered call: an Ok of a creation takes that of one row
abbrev pub spare_after : Facts → ℕ → Call → Reply → ℕ
spare_after facts spare call (Ok good) = if (fun_at facts.funs call.fun).creation then spare - 1 else spare
spare_after facts spare call (Refused code) = spare

-- the rows after an Ok of a creation
abbrev pub made_rows : Facts → List Row → Call → Good → List Row
made_rows facts rows call good = if (fun_at facts.funs call.fun).query then rows else rows ++ new_row facts call good ∷ []

-- the rows after an Ok of a function that changes its row
abbrev pub changed_rows : Facts → List Row → Call → Good → List Row
changed_rows facts rows call good = map (λ r. if r.id == call.desc then row_after facts call good r else r) rows

-- the rows after an Ok of a terminal function
abbrev pub left_rows : Bool → List Row → ℕ → List Row
left_rows subtree rows id = filter (λ r. not ((r.id == id) || (subtree && is_ancestor rows id r.id))) rows

-- there is a place for what an Ok of a creation makes: room for its row, a parent that is 0 or live, and the next id as
-- its descriptor
pub record HasPlace (facts : Facts) (t : Tracked) (call : Call) (good : Good) : Type 0 where
  pub room : 1 ≤ t.spare
  pub parent : takes_parent (fun_at facts.funs call.fun) ≡ true → ((call.desc == 0) || is_live t.rows call.desc) ≡ true
  pub next : good.desc ≡ t.given + 1

-- an Ok of a creation may be tracked: there is a place for its row, and its fields, at most 8, come to numbers of their
-- type or texts
pub record MayMake (facts : Facts) (t : Tracked) (call : Call) (good : Good) : Type 0 where
  pub place : HasPlace facts t call good
  pub few : length facts.fields ≤ 8
  pub values : (fun_at facts.funs call.fun).query ≡ false → EachNew IsValue call good (fun_at facts.funs call.fun).effects (map empty_field facts.fields)

-- an Ok of a function that changes its row may be tracked: the fields that it sets come to numbers of their type
abbrev pub MayChange : Facts → Tracked → Call → Good → Type 0
MayChange facts t call good = (r : Row) → row_at t.rows call.desc ≡ Some r → EachNew IsDraftWord call good (fun_at facts.funs call.fun).effects r.fields

-- an Ok may be tracked, by what its function does. A query and a terminal function ask for nothing
pub record MayTrackOk (facts : Facts) (t : Tracked) (call : Call) (good : Good) : Type 0 where
  pub makes : (fun_at facts.funs call.fun).creation ≡ true → MayMake facts t call good
  pub changes : (fun_at facts.funs call.fun).query ≡ false → (fun_at facts.funs call.fun).creation ≡ false → (fun_at facts.funs call.fun).terminal ≡ false
      → MayChange facts t call good

-- an answered call may be tracked. A refusal asks for nothing
abbrev pub MayTrack : Facts → Tracked → Call → Reply → Type 0
MayTrack facts t call (Ok good) = MayTrackOk facts t call good
MayTrack facts t call (Refused code) = Unit {0}

-- an Ok of a service of an allowed shape may be tracked where the rows after it are a sound object's and, for a creation,
-- there is a place for its row
abbrev pub TracksSound : Facts → Tracked → Call → Good → Object → Type 0
TracksSound facts t call good o =
    is_allowed facts ≡ true → IsSound facts o → o.rows ≡ rows_after facts t.rows call good
    → ((fun_at facts.funs call.fun).creation ≡ true → HasPlace facts t call good) → MayTrackOk facts t call good
