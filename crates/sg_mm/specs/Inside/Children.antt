-- Pages below others, and the index of them.
use Rattle.std.specs.Prelude.{ℕ, ◌≡◌, ◌^◌, ◌<◌, ◌==◌, Bool, true, false, ◌&&◌, ◌||◌, not, List, None, Some}
use Rattle.std.specs.declared.option.Option.{Option}
use Rattle.std.specs.declared.cmp.Ordering.{Ordering}
use Rattle.std.specs.Ordering.{nat_cmp, ordering_then}
use Rattle.std.specs.BTreeSet.{BTreeSet, contains}
use Rattle.sg_slots.specs.Slots.{entry_at}
use Rattle.sg_mm.specs.declared.child.Child.{Child}
use Rattle.sg_mm.specs.declared.page.Page.{Page}

-- the order of children: by the parent, then by the id
abbrev pub child_cmp : Child → Child → Ordering
child_cmp a b = ordering_then (nat_cmp a.parent b.parent) (nat_cmp a.id b.id)

-- whether an index has an id below a parent
abbrev pub is_child : BTreeSet Child → ℕ → ℕ → Bool
is_child children parent id = contains child_cmp children (record { parent = parent; id = id })

-- whether a set has an id
abbrev pub has_id : BTreeSet ℕ → ℕ → Bool
has_id ids id = contains nat_cmp ids id

-- whether a page is there and below a parent
abbrev pub is_below : Option Page → ℕ → Bool
is_below None parent = false
is_below (Some page) parent = not (parent == 0) && (page.parent == parent)

-- an index has each page that is below a parent, and nothing else
abbrev pub AreChildren : List (ℕ × Page) → BTreeSet Child → Type 0
AreChildren pages children = (parent id : ℕ) → is_child children parent id ≡ is_below (entry_at pages id) parent

-- an index has only pages that are below their parents
abbrev pub AreOfPages : List (ℕ × Page) → BTreeSet Child → Type 0
AreOfPages pages children = (parent id : ℕ) → is_child children parent id ≡ true → is_below (entry_at pages id) parent ≡ true

-- the ids in an index are above their parents, and fit 64 bits
abbrev pub AreAboveParents : BTreeSet Child → Type 0
AreAboveParents children = (parent id : ℕ) → is_child children parent id ≡ true → (parent < id) × (id < 2 ^ 64)

-- whether one is the id that hangs below a parent, where one is named
abbrev pub is_hung : Option ℕ → ℕ → ℕ → ℕ → Bool
is_hung None one parent id = false
is_hung (Some above) one parent id = (above == parent) && (one == id)

-- an index has one id more, where a parent is named
abbrev pub HangsOne : BTreeSet Child → BTreeSet Child → Option ℕ → ℕ → Type 0
HangsOne old new below one = (parent id : ℕ) → is_child new parent id ≡ (is_child old parent id || is_hung below one parent id)

-- an index has one id less, where a parent is named
abbrev pub TakesOneOff : BTreeSet Child → BTreeSet Child → Option ℕ → ℕ → Type 0
TakesOneOff old new below one = (parent id : ℕ) → is_child new parent id ≡ (is_child old parent id && not (is_hung below one parent id))

-- a set has an id, each id that an index has below one of the set, and no other
pub record IsSubtree (children : BTreeSet Child) (root : ℕ) (ids : BTreeSet ℕ) : Type 0 where
  pub has_root : has_id ids root ≡ true
  pub has_children : (parent id : ℕ) → has_id ids parent ≡ true → is_child children parent id ≡ true → has_id ids id ≡ true
  pub no_other : (id : ℕ) → has_id ids id ≡ true → (id == root) ≡ false → (parent : ℕ) × (has_id ids parent ≡ true) × (is_child children parent id ≡ true)
