-- What the orders of a queue say of its entries.
use Rattle.std.specs.Prelude.{ℕ, ◌≡◌, ◌==◌, Bool, false, ◌&&◌, ◌||◌, not, if◌then◌else◌, List, None, Some}
use Rattle.std.specs.declared.option.Option.{Option}
use Rattle.std.specs.BTreeSet.{BTreeSet}
use Rattle.sg_slots.specs.declared.decision.Decision.{Decision}
use Rattle.sg_slots.specs.Slots.{Held, AreIds, entry_at}
use Rattle.sg_slots.specs.Carry.{held_after}
use Rattle.sg_slots.specs.declared.key.Key.{Key}
use Rattle.sg_slots.specs.declared.standing.Standing.{Standing}
use Rattle.sg_slots.specs.Inside.QueueKeys.{has, is_key}

-- whether a key has the numbers of a standing, where there is one
abbrev pub is_standing : Option Standing → Key → Bool
is_standing None k = false
is_standing (Some s) k = (s.first == k.first) && (s.second == k.second)

module _ {E : Type 0} where
  -- whether a key has the numbers of an entry that stands in an order
  abbrev pub stands : (E → Option Standing) → Option E → Key → Bool
  stands order None k = false
  stands order (Some e) k = is_standing (order e) k

  -- an order in which each entry stands
  abbrev pub in_all : (E → Standing) → E → Option Standing
  in_all order e = Some (order e)

  -- a set has the keys of entries, as a test tells them, and no others
  abbrev pub Indexes : (Option E → Key → Bool) → List (ℕ × E) → BTreeSet Key → Type 0
  Indexes test entries keys = (k : Key) → has keys k ≡ test (entry_at entries k.id) k

  -- entries under ascending ids, in their two orders
  pub record IsIndexed (first : E → Option Standing) (second : E → Standing) (held : Held E) (firsts seconds : BTreeSet Key) : Type 0 where
    pub ids : AreIds 0 held.given held.entries
    pub in_first : Indexes (stands first) held.entries firsts
    pub in_second : Indexes (stands (in_all second)) held.entries seconds

  -- a key is that of an entry under an id, none where the test has none for it
  abbrev pub IsKeyOf : (Option E → Key → Bool) → ℕ → Option E → Option Key → Type 0
  IsKeyOf test id entry key = (k : Key) → is_key key k ≡ ((id == k.id) && test entry k)

  -- a set has the key of an entry more, or is as it was
  abbrev pub Grows : (Option E → Key → Bool) → ℕ → Option E → BTreeSet Key → BTreeSet Key → Bool → Type 0
  Grows test id entry old new grown = (k : Key) → has new k ≡ (has old k || (grown && ((id == k.id) && test entry k)))

  -- a set is as it was, but may have the key of an entry more
  abbrev pub MayGrow : (Option E → Key → Bool) → ℕ → Option E → BTreeSet Key → BTreeSet Key → Type 0
  MayGrow test id entry old new = (grown : Bool) × Grows test id entry old new grown

  -- a set has the key of an entry less, unless it is that of another
  abbrev pub Shrinks : (Option E → Key → Bool) → ℕ → Option E → Option E → BTreeSet Key → BTreeSet Key → Type 0
  Shrinks test id gone kept old new = (k : Key) → has new k ≡ (has old k && not ((id == k.id) && (test gone k && not (test kept k))))

  -- a decision changes the entry of one id, from what it was to what it becomes, and leaves the ids ascending
  pub record IsChange (held : Held E) (of : ℕ) (d : Decision E) (id : ℕ) (before after : Option E) : Type 0 where
    pub was : entry_at held.entries id ≡ before
    pub becomes : (n : ℕ) → entry_at (held_after held of d).entries n ≡ (if id == n then after else entry_at held.entries n)
    pub stays : AreIds 0 (held_after held of d).given (held_after held of d).entries
