-- When what the service answered can be told under the clients' ids.
use Rattle.std.specs.Prelude.{ℕ, ◌≡◌, ◌≤◌, ◌⊎◌, Bool, true, false, Some}
use Rattle.sg_facts.specs.sg_base.declared.reply.Reply.{Reply}
use Rattle.sg_facts.specs.sg_base.declared.reply.Reply.TheVariants.{Ok, Refused}
use Rattle.sg_name.specs.Names.{Naming, real_at}

-- there is room for the name of a descriptor that was made, and nothing has its service id; any other is none, or stands for an id
abbrev pub MayTellDesc : Naming → Bool → ℕ → Type 0
MayTellDesc names true real = (1 ≤ names.spare) × ((id : ℕ) → real_at names.known id ≡ Some real → ⊥)
MayTellDesc names false real = (real ≡ 0) ⊎ ((id : ℕ) × (real_at names.known id ≡ Some real))

-- a reply can be told where its descriptor can; a refusal has none
abbrev pub MayTell : Naming → Bool → Reply → Type 0
MayTell names is_new (Ok good) = MayTellDesc names is_new good.desc
MayTell names is_new (Refused code) = Unit {0}
