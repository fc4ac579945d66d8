-- The last place of a run: where an item stands that is noted after all others.
use Rattle.std.specs.Prelude.{◌≡◌, ◌||◌, true, List, []}
use Rattle.std.specs.List.{list_any}
use Rattle.sg_facts.specs.sg_base.Lists.{Each}
use Rattle.sg_facts.specs.declared.entry.Entry.{Entry}
use Rattle.sg_facts.specs.declared.trace.Item.{Item}
use Rattle.sg_hist.specs.Reading.{Position, is_by_guard, is_item_of}

-- each entry that isn't the guard's has an item
abbrev pub HaveItems : List Item → List Entry → Type 0
HaveItems items history = Each (λ e. is_by_guard e.reply || list_any (is_item_of e) items ≡ true) history

-- the place after all items
abbrev pub last_place : List Item → List Item → Item → Position
last_place older front item = record { older = older; front = front; item = item; rest = []; newer = [] }
