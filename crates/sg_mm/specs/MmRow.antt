-- The row that a page stands for.
use Rattle.std.specs.Prelude.{[], ◌∷◌}
use Rattle.sg_facts.specs.sg_base.declared.value.Value.TheVariants.{Word}
use Rattle.sg_slots.specs.Slots.{Body}
use Rattle.sg_mm.specs.declared.page.Page.{Page}

-- in the state that the function that made it leaves, with its space and its address as its fields
abbrev pub page_body : Page → Body
page_body page = record {
  made = page.made;
  creator = page.creator;
  parent = page.parent;
  state = page.made;
  fields = Word page.space ∷ Word page.addr ∷ [];
}
