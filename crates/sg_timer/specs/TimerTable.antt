-- What the timer service answers.
use Rattle.std.specs.Prelude.{ℕ, zero, suc, ◌+◌, ◌-◌, ◌*◌, ◌/◌, ◌==◌, Bool, ◌&&◌, ◌||◌, nat_lt, if◌then◌else◌, List, [], ◌∷◌, None, Some, slice_get, unwrap_or}
use Rattle.std.specs.Option.{option_map_or}
use Rattle.std.specs.declared.option.Option.{Option}
use Rattle.std.specs.List.{list_any, reduce}
use Rattle.sg_facts.specs.sg_base.declared.call.Call.{Call}
use Rattle.sg_facts.specs.sg_base.declared.reply.Code.TheVariants.{NotFound, NotOwner, Occupied, Overflow, TooBig}
use Rattle.sg_facts.specs.sg_base.declared.reply.Reply.{Reply}
use Rattle.sg_facts.specs.sg_base.declared.reply.Reply.TheVariants.{Ok, Refused}
use Rattle.sg_facts.specs.declared.row.Row.{Row}
use Rattle.sg_facts.specs.Track.{row_at, word_of, field_at, arg_at}
use Rattle.sg_facts.specs.Object.{Object}
use Rattle.sg_facts.specs.Legal.{Table, done}

-- the greatest period, and the greatest time of a clock: the greatest number of 32 bits
abbrev pub most_ticks : ℕ
most_ticks = 4294967295

-- the tag of a timer
abbrev pub tag_of : Row → ℕ
tag_of r = word_of (field_at r.fields 2)

-- what is left until a timer is due by its clock, 0 once it is
abbrev pub left_of : Row → ℕ
left_of r = word_of (field_at r.fields 4) - word_of (field_at r.fields 3)

-- whether a timer goes before another: by what is left, then by tag, then by id
abbrev pub goes_before : Row → Row → Bool
goes_before r s =
    nat_lt (left_of r) (left_of s) || ((left_of r == left_of s) && (nat_lt (tag_of r) (tag_of s) || ((tag_of r == tag_of s) && nat_lt r.id s.id)))

-- the timer that goes before all others
abbrev pub first_timer : List Row → Option Row
first_timer rows = reduce (λ r s. if goes_before s r then s else r) rows

-- by how much a skip puts a timer off: by as many whole periods as take it past its time, and not at all before it is due, or where
-- it has no period
abbrev pub skipped : ℕ → ℕ → ℕ → ℕ
skipped time due period = if nat_lt time due || (period == 0) then 0 else period * ((time - due) / period + 1)

-- the field of a number of a timer, 0 where there is no timer
abbrev pub field_in : Option Row → ℕ → ℕ
field_in timer x = option_map_or (λ r. word_of (field_at r.fields x)) timer 0

-- an Ok with a descriptor and a word
abbrev pub worded : ℕ → ℕ → Option Reply
worded desc word = Some (Ok (record { desc = desc; words = word ∷ []; bytes = [] }))

-- what the function of a number answers, by the object, the timer that is called, and the call
abbrev pub timer_answer : ℕ → Object → Option Row → Call → Option Reply
-- tmr_create is refused where the period is above the greatest, or a live timer has the tag; else it answers the period
timer_answer (suc zero) o timer call =
    if nat_lt most_ticks (word_of (arg_at call 0)) then Some (Refused TooBig)
    else if list_any (λ r. tag_of r == word_of (arg_at call 1)) o.rows then Some (Refused Occupied)
    else worded (o.given + 1) (word_of (arg_at call 0))
-- tmr_tick is refused where the time would pass the greatest
timer_answer (suc (suc zero)) o timer call = if nat_lt most_ticks (field_in timer 3 + word_of (arg_at call 0)) then Some (Refused Overflow) else done 0
-- tmr_wait blocks until the timer is due, and answers its period
timer_answer (suc (suc (suc zero))) o timer call = if nat_lt (field_in timer 3) (field_in timer 4) then None else worded 0 (field_in timer 1)
-- tmr_place
timer_answer (suc (suc (suc (suc zero)))) o timer call = done 0
-- tmr_first answers the timer that goes before all others, if there is one
timer_answer (suc (suc (suc (suc (suc zero))))) o timer call = option_map_or (λ r. done r.id) (first_timer o.rows) (Some (Refused NotFound))
-- tmr_skip answers by how much it puts the timer off
timer_answer (suc (suc (suc (suc (suc (suc zero)))))) o timer call = worded 0 (skipped (field_in timer 3) (field_in timer 4) (field_in timer 1))
-- tmr_free is refused to all but the owner
timer_answer (suc (suc (suc (suc (suc (suc (suc zero))))))) o timer call = if field_in timer 0 == call.client then done 0 else Some (Refused NotOwner)
timer_answer _ o timer call = Some (Refused NotFound)

-- what a service of timers answers a call at an object; None where the caller has to wait
abbrev pub timer_table : Table
timer_table o call = timer_answer call.fun o (row_at o.rows call.desc) call

-- the parts of an Ok: three of tmr_create, none of tmr_first, one of the others
abbrev pub timer_parts : ℕ → ℕ
timer_parts fun = unwrap_or (slice_get (0 ∷ 3 ∷ 1 ∷ 1 ∷ 1 ∷ 0 ∷ []) fun) 1
