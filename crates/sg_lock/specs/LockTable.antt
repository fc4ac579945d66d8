-- What the lock service answers.
use Rattle.std.specs.Prelude.{ℕ, zero, suc, ◌+◌, ◌==◌, if◌then◌else◌, [], ◌∷◌, None, Some, slice_get, unwrap_or}
use Rattle.std.specs.Option.{option_map_or}
use Rattle.std.specs.declared.option.Option.{Option}
use Rattle.sg_facts.specs.sg_base.declared.reply.Code.TheVariants.{Held, NotOwner, NotFound}
use Rattle.sg_facts.specs.sg_base.declared.reply.Reply.{Reply}
use Rattle.sg_facts.specs.sg_base.declared.reply.Reply.TheVariants.{Refused}
use Rattle.sg_facts.specs.Track.{row_at, word_of, field_at}
use Rattle.sg_facts.specs.Legal.{Table, done}

-- what the function of a number answers, by the number of ids given, the lock's owner, 0 where it is free, and the caller
abbrev pub lock_answer : ℕ → ℕ → ℕ → ℕ → Option Reply
-- lock_alloc
lock_answer (suc zero) given owner client = done (given + 1)
-- lock_take is refused to the owner, and blocks while another owns the lock
lock_answer (suc (suc zero)) given owner client = if owner == client then Some (Refused Held) else if owner == 0 then done 0 else None
-- lock_release is the owner's alone
lock_answer (suc (suc (suc zero))) given owner client = if owner == client then done 0 else Some (Refused NotOwner)
-- lock_free is refused while the lock is owned
lock_answer (suc (suc (suc (suc zero)))) given owner client = if owner == 0 then done 0 else Some (Refused Held)
lock_answer _ given owner client = Some (Refused NotFound)

-- what a service of locks answers a call at an object; None where the caller has to wait
abbrev pub lock_table : Table
lock_table o call = lock_answer call.fun o.given (option_map_or (λ r. word_of (field_at r.fields 0)) (row_at o.rows call.desc) 0) call.client

-- the parts of an Ok: two of lock_alloc, one of the others
abbrev pub lock_parts : ℕ → ℕ
lock_parts fun = unwrap_or (slice_get (0 ∷ 2 ∷ []) fun) 1
