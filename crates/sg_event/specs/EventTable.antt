-- What the event service answers.
use Rattle.std.specs.Prelude.{ℕ, zero, suc, ◌+◌, ◌==◌, min, nat_lt, if◌then◌else◌, [], ◌∷◌, None, Some, slice_get, unwrap_or}
use Rattle.std.specs.Option.{option_map_or}
use Rattle.std.specs.declared.option.Option.{Option}
use Rattle.sg_facts.specs.sg_base.declared.reply.Code.TheVariants.{NotFound, Overflow}
use Rattle.sg_facts.specs.sg_base.declared.reply.Reply.{Reply}
use Rattle.sg_facts.specs.sg_base.declared.reply.Reply.TheVariants.{Ok, Refused}
use Rattle.sg_facts.specs.Track.{row_at, word_of, field_at, arg_at}
use Rattle.sg_facts.specs.Legal.{Table, done}

-- what the function of a number answers, by the number of ids given, the event's count, 0 where there is no event, and the number in
-- the call
abbrev pub event_answer : ℕ → ℕ → ℕ → ℕ → Option Reply
-- evt_split
event_answer (suc zero) given count n = done (given + 1)
-- evt_wait blocks while the count is 0
event_answer (suc (suc zero)) given count n = if count == 0 then None else done 0
-- evt_trigger is refused where the count would pass the greatest number of 32 bits
event_answer (suc (suc (suc zero))) given count n = if nat_lt 4294967295 (count + n) then Some (Refused Overflow) else done 0
-- evt_free
event_answer (suc (suc (suc (suc zero)))) given count n = done 0
-- evt_take answers how much it takes: all that it is asked for, or all that there is
event_answer (suc (suc (suc (suc (suc zero))))) given count n = Some (Ok (record { desc = 0; words = min n count ∷ []; bytes = [] }))
event_answer _ given count n = Some (Refused NotFound)

-- what a service of events answers a call at an object; None where the caller has to wait
abbrev pub event_table : Table
event_table o call =
    event_answer call.fun o.given (option_map_or (λ r. word_of (field_at r.fields 0)) (row_at o.rows call.desc) 0) (word_of (arg_at call 0))

-- the parts of an Ok: two of evt_split, one of the others
abbrev pub event_parts : ℕ → ℕ
event_parts fun = unwrap_or (slice_get (0 ∷ 2 ∷ []) fun) 1
