-- What the memory mapping service holds.
use Rattle.sg_facts.specs.Object.{Object}
use Rattle.sg_slots.specs.Slots.{object_of}
use Rattle.sg_mm.specs.MmRow.{page_body}
use Rattle.sg_mm.specs.declared.service.MmService.{MmService}

-- its pages as rows, and the number of ids given
abbrev pub mm_object : MmService → Object
mm_object s = object_of page_body s.pages
