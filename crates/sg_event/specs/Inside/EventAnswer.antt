-- The answers of the event service by their functions, as its proofs name them.
use Rattle.std.specs.Prelude.{ℕ, ◌+◌, ◌==◌, min, nat_lt, if◌then◌else◌, [], ◌∷◌, None, Some}
use Rattle.std.specs.Option.{option_map_or}
use Rattle.std.specs.declared.option.Option.{Option}
use Rattle.sg_facts.specs.sg_base.declared.reply.Code.TheVariants.{Overflow}
use Rattle.sg_facts.specs.sg_base.declared.reply.Reply.{Reply}
use Rattle.sg_facts.specs.sg_base.declared.reply.Reply.TheVariants.{Ok, Refused}
use Rattle.sg_facts.specs.declared.row.Row.{Row}
use Rattle.sg_facts.specs.Track.{word_of, field_at}
use Rattle.sg_facts.specs.Legal.{done}

-- the greatest count, the greatest 32-bit number
abbrev pub most_count : ℕ
most_count = 4294967295

-- the count of an event, 0 where there is none
abbrev pub count_in : Option Row → ℕ
count_in row = option_map_or (λ r. word_of (field_at r.fields 0)) row 0

-- what evt_wait answers
abbrev pub event_wait_answer : ℕ → Option Reply
event_wait_answer count = if count == 0 then None else done 0

-- what evt_trigger answers
abbrev pub trigger_answer : ℕ → ℕ → Option Reply
trigger_answer count n = if nat_lt most_count (count + n) then Some (Refused Overflow) else done 0

-- what evt_take answers
abbrev pub take_answer : ℕ → ℕ → Option Reply
take_answer count n = Some (Ok (record { desc = 0; words = min n count ∷ []; bytes = [] }))
