-- The indexes of the pages, and what they say of them.
use Rattle.std.specs.Prelude.{ℕ, ◌≡◌, ◌<◌, ◌==◌, Bool, true, false, ◌&&◌, if◌then◌else◌, List, None, Some}
use Rattle.std.specs.declared.option.Option.{Option}
use Rattle.std.specs.declared.cmp.Ordering.{Ordering}
use Rattle.std.specs.Ordering.{nat_cmp, ordering_then}
use Rattle.std.specs.BTreeMap.{BTreeMap, get}
use Rattle.std.specs.BTreeSet.{BTreeSet}
use Rattle.sg_facts.specs.Sound.{AreRows}
use Rattle.sg_slots.specs.Slots.{AreIds, Held, entry_at, rows_of}
use Rattle.sg_mm.specs.declared.child.Child.{Child}
use Rattle.sg_mm.specs.declared.page.Page.{Page}
use Rattle.sg_mm.specs.declared.page.PageKey.{PageKey}
use Rattle.sg_mm.specs.Inside.Children.{AreChildren, has_id}
use Rattle.sg_mm.specs.MmRow.{page_body}
use Rattle.sg_facts.proofs.Replaying.Subtrees.{IsAboveParent}
use Rattle.sg_mm.specs.MmSound.{HaveOwnAddresses}
use Rattle.sg_mm.specs.Inside.MmAnswer.{page_at}

-- the order of places: by the space, then by the address
abbrev pub place_cmp : PageKey → PageKey → Ordering
place_cmp a b = ordering_then (nat_cmp a.space b.space) (nat_cmp a.addr b.addr)

-- whether two places are one
abbrev pub is_place : PageKey → PageKey → Bool
is_place a b = (a.space == b.space) && (a.addr == b.addr)

-- the id in a place
abbrev pub id_in : BTreeMap PageKey ℕ → PageKey → Option ℕ
id_in places place = get place_cmp places place

-- one place has an id more
abbrev pub Gains : BTreeMap PageKey ℕ → BTreeMap PageKey ℕ → PageKey → ℕ → Type 0
Gains old new one id = (place : PageKey) → id_in new place ≡ (if is_place one place then Some id else id_in old place)

-- all places have what they had
abbrev pub Keeps : BTreeMap PageKey ℕ → BTreeMap PageKey ℕ → Type 0
Keeps old new = (place : PageKey) → id_in new place ≡ id_in old place

-- one place has none any more
abbrev pub Loses : BTreeMap PageKey ℕ → BTreeMap PageKey ℕ → PageKey → Type 0
Loses old new one = (place : PageKey) → id_in new place ≡ (if is_place one place then None else id_in old place)

-- whether a page is there and in a place
abbrev pub is_in_place : Option Page → PageKey → Bool
is_in_place None place = false
is_in_place (Some page) place = (page.space == place.space) && (page.addr == place.addr)

-- where an index has an id for a place, just the page of this id is there
abbrev pub ArePlaced : List (ℕ × Page) → BTreeMap PageKey ℕ → Type 0
ArePlaced pages places = (place : PageKey) (n id : ℕ) → id_in places place ≡ Some n → (n == id) ≡ is_in_place (entry_at pages id) place

-- the pages by id are above their parents and have places of their own; one index has for each place the page there, the other
-- each page below its parent
pub record AreIndexed (held : Held Page) (places : BTreeMap PageKey ℕ) (children : BTreeSet Child) : Type 0 where
  pub rows : AreRows IsAboveParent 0 held.given (rows_of page_body held.entries)
  pub apart : HaveOwnAddresses (rows_of page_body held.entries)
  pub indexed : (place : PageKey) → id_in places place ≡ page_at (rows_of page_body held.entries) place.space place.addr
  pub below : AreChildren held.entries children

-- pages by ascending ids
pub record AreAscending (pages : List (ℕ × Page)) : Type 0 where
  pub most : ℕ
  pub ids : AreIds 0 most pages

-- the least id of a set above one, or none where the set has none there
abbrev pub IsNext : BTreeSet ℕ → ℕ → Option ℕ → Type 0
IsNext ids id None = (n : ℕ) → id < n → has_id ids n ≡ false
IsNext ids id (Some next) = (id < next) × (has_id ids next ≡ true) × ((n : ℕ) → id < n → n < next → has_id ids n ≡ false)
