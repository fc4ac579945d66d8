-- The answers of the lock service by their functions, as its proofs name them.
use Rattle.std.specs.Prelude.{ℕ, ◌==◌, if◌then◌else◌, None, Some}
use Rattle.std.specs.Option.{option_map_or}
use Rattle.std.specs.declared.option.Option.{Option}
use Rattle.sg_facts.specs.sg_base.declared.reply.Code.TheVariants.{Held, NotOwner}
use Rattle.sg_facts.specs.sg_base.declared.reply.Reply.{Reply}
use Rattle.sg_facts.specs.sg_base.declared.reply.Reply.TheVariants.{Refused}
use Rattle.sg_facts.specs.declared.row.Row.{Row}
use Rattle.sg_facts.specs.Track.{word_of, field_at}
use Rattle.sg_facts.specs.Legal.{done}

-- the owner of a lock, 0 where it is free
abbrev pub owner_in : Option Row → ℕ
owner_in row = option_map_or (λ r. word_of (field_at r.fields 0)) row 0

-- what lock_take answers
abbrev pub take_answer : ℕ → ℕ → Option Reply
take_answer owner client = if owner == client then Some (Refused Held) else if owner == 0 then done 0 else None

-- what lock_release answers
abbrev pub release_answer : ℕ → ℕ → Option Reply
release_answer owner client = if owner == client then done 0 else Some (Refused NotOwner)

-- what lock_free answers
abbrev pub free_answer : ℕ → Option Reply
free_answer owner = if owner == 0 then done 0 else Some (Refused Held)
