-- What the stubs tell after an answered call.
use Rattle.std.specs.Prelude.{ℕ, ◌≡◌, ◌⊎◌, ◌<◌, ◌==◌, ◌&&◌, not, Bool, true, false, if◌then◌else◌, List}
use Rattle.sg_facts.specs.sg_base.declared.call.Call.{Call}
use Rattle.sg_facts.specs.sg_base.declared.reply.Reply.{Reply}
use Rattle.sg_facts.specs.sg_base.declared.reply.Reply.TheVariants.{Ok, Refused}
use Rattle.sg_facts.specs.declared.row.Row.{Row}
use Rattle.sg_facts.specs.Alike.{named}
use Rattle.sg_facts.specs.Facts.{Facts, fun_at}
use Rattle.sg_facts.specs.Object.{Object, after, patch_of}
use Rattle.sg_facts.specs.Track.{is_live}
use Rattle.sg_recovery_laws.specs.Midway.Progress.{complete, fresh}
use Rattle.sg_recovery_laws.specs.Midway.Stepping.{present_with}
use Rattle.sg_recovery_laws.specs.sg_hist.Inside.Reads.{desc_of}
use Rattle.sg_world_laws.specs.Keeping.{Stub}

-- ---- after an answered call

-- whether an answered call made an id
abbrev pub makes_id : Facts → Call → Reply → ℕ → Bool
makes_id facts call (Ok good) id = (fun_at facts.funs call.fun).creation && (id == good.desc)
makes_id facts call (Refused code) id = false

-- whether an id was live, and isn't any more
abbrev pub has_ended : List Row → List Row → ℕ → Bool
has_ended before later id = is_live before id && not (is_live later id)

-- what stubs tell after a call at an object that the service gave a reply to: what it made is whole, under the service's id; of what
-- it ended nothing is told; and the file that it wrote is present
pub record TellsAfter (facts : Facts) (o : Object) (call : Call) (reply other : Reply) (stub later : Stub) : Type 0 where
  pub names : (id : ℕ) → named later.names id
      ≡ (if has_ended o.rows (after facts o call reply).rows id then 0 else if makes_id facts call reply id then desc_of other else named stub.names id)
  pub told : (id : ℕ) → later.told id
      ≡ (if has_ended o.rows (after facts o call reply).rows id then fresh else if makes_id facts call reply id then complete else stub.told id)
  pub present : (path : List ℕ) → later.present path ≡ present_with (patch_of facts o call reply) stub.present path

-- ---- a reply under the clients' ids

-- a descriptor of the service is told under names: one that was made under the next id, none as none, and any other under the id
-- that it stands for
abbrev pub IsDescToldBy : List (ℕ × ℕ) → Bool → ℕ → ℕ → ℕ → Type 0
IsDescToldBy names true next real told = told ≡ next
IsDescToldBy names false next real told = ((real ≡ 0) × (told ≡ 0)) ⊎ ((0 < real) × (named names told ≡ real))

-- a reply of the service is told under names
abbrev pub IsToldBy : List (ℕ × ℕ) → Bool → ℕ → Reply → Reply → Type 0
IsToldBy names is_new next (Ok good) (Ok told) = (told.words ≡ good.words) × (told.bytes ≡ good.bytes) × IsDescToldBy names is_new next good.desc told.desc
IsToldBy names is_new next (Refused code) (Refused told) = told ≡ code
IsToldBy names is_new next _ _ = ⊥
