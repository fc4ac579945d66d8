-- The places of pages and the answers of the memory mapping service by their functions, as its proofs name them.
use Rattle.std.specs.Prelude.{ℕ, min, List, Some, map, filter}
use Rattle.std.specs.Option.{option_map_or}
use Rattle.std.specs.declared.option.Option.{Option}
use Rattle.std.specs.List.{reduce}
use Rattle.sg_facts.specs.sg_base.declared.reply.Code.TheVariants.{NotFound}
use Rattle.sg_facts.specs.sg_base.declared.reply.Reply.{Reply}
use Rattle.sg_facts.specs.sg_base.declared.reply.Reply.TheVariants.{Refused}
use Rattle.sg_facts.specs.declared.row.Row.{Row}
use Rattle.sg_facts.specs.Track.{word_of, field_at}
use Rattle.sg_facts.specs.Legal.{done}
use Rattle.sg_mm.specs.MmTable.{is_at}

-- the space of a page
abbrev pub space_of : Row → ℕ
space_of r = word_of (field_at r.fields 0)

-- the address of a page in its space
abbrev pub addr_of : Row → ℕ
addr_of r = word_of (field_at r.fields 1)

-- the least id of a page in a space at an address
abbrev pub page_at : List Row → ℕ → ℕ → Option ℕ
page_at rows space addr = reduce min (map (λ r. r.id) (filter (is_at space addr) rows))

-- what mman_find answers: a page that was found, or none
abbrev pub find_answer : Option ℕ → Option Reply
find_answer found = option_map_or done found (Some (Refused NotFound))
