-- What the memory mapping service answers.
use Rattle.std.specs.Prelude.{ℕ, zero, suc, ◌+◌, ◌==◌, Bool, ◌&&◌, if◌then◌else◌, min, List, Some, map, filter, [], ◌∷◌, slice_get, unwrap_or}
use Rattle.std.specs.Option.{option_map_or}
use Rattle.std.specs.declared.option.Option.{Option}
use Rattle.std.specs.List.{list_any, reduce}
use Rattle.sg_facts.specs.sg_base.declared.call.Call.{Call}
use Rattle.sg_facts.specs.sg_base.declared.reply.Code.TheVariants.{Occupied, NotFound}
use Rattle.sg_facts.specs.sg_base.declared.reply.Reply.{Reply}
use Rattle.sg_facts.specs.sg_base.declared.reply.Reply.TheVariants.{Refused}
use Rattle.sg_facts.specs.declared.row.Row.{Row}
use Rattle.sg_facts.specs.Track.{word_of, field_at, arg_at}
use Rattle.sg_facts.specs.Object.{Object}
use Rattle.sg_facts.specs.Legal.{Table, done}

-- whether a page is in a space, its first field, at an address, its second
abbrev pub is_at : ℕ → ℕ → Row → Bool
is_at space addr r = (word_of (field_at r.fields 0) == space) && (word_of (field_at r.fields 1) == addr)

-- a new page is refused where its place is taken
abbrev pub page_answer : List Row → ℕ → ℕ → ℕ → Option Reply
page_answer rows given space addr = if list_any (is_at space addr) rows then Some (Refused Occupied) else done (given + 1)

-- the number that is an argument
abbrev pub number_at : Call → ℕ → ℕ
number_at call k = word_of (arg_at call k)

-- what the function of a number answers
abbrev pub mm_answer : ℕ → Object → Call → Option Reply
-- mman_get_page
mm_answer (suc zero) o call = page_answer o.rows o.given call.client (number_at call 0)
-- mman_alias_page
mm_answer (suc (suc zero)) o call = page_answer o.rows o.given (number_at call 0) (number_at call 1)
-- mman_release_page
mm_answer (suc (suc (suc zero))) o call = done 0
-- mman_find answers the least id of a page there, if there is one
mm_answer (suc (suc (suc (suc zero)))) o call =
    option_map_or done (reduce min (map (λ r. r.id) (filter (is_at (number_at call 0) (number_at call 1)) o.rows))) (Some (Refused NotFound))
mm_answer _ o call = Some (Refused NotFound)

-- what a service of pages answers a call at an object; no caller has to wait
abbrev pub mm_table : Table
mm_table o call = mm_answer call.fun o call

-- the parts of an Ok: three of mman_alias_page, none of mman_find, two of the others
abbrev pub mm_parts : ℕ → ℕ
mm_parts fun = unwrap_or (slice_get (0 ∷ 2 ∷ 3 ∷ 2 ∷ []) fun) 0
