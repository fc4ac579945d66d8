-- The objects that the memory mapping service can come to.
use Rattle.std.specs.Prelude.{◌≡◌, ◌==◌, true, false, ◌&&◌, nat_le, List, [], ◌∷◌}
use Rattle.std.specs.List.{list_any}
use Rattle.sg_facts.specs.declared.row.Row.{Row}
use Rattle.sg_facts.specs.Object.{Object}
use Rattle.sg_facts.specs.Sound.{IsSound, AreRows}
use Rattle.sg_facts.specs.Allowed.{implies}
use Rattle.sg_mm.specs.MmFacts.{mm_facts}
use Rattle.sg_mm.specs.MmTable.{is_at}
use Rattle.sg_mm.specs.Inside.MmAnswer.{space_of, addr_of}

-- the space of a page that mman_get_page made is a client
abbrev pub IsOfClient : Row → Type 0
IsOfClient r = implies (r.made == 1) (nat_le 1 (space_of r) && nat_le (space_of r) 64) ≡ true

-- no two pages are in one space at one address
abbrev pub HaveOwnAddresses : List Row → Type 0
HaveOwnAddresses [] = Unit {0}
HaveOwnAddresses (r ∷ rows) = (list_any (is_at (space_of r) (addr_of r)) rows ≡ false) × HaveOwnAddresses rows

-- a sound object of the memory mapping service
pub record IsMmSound (o : Object) : Type 0 where
  pub general : IsSound mm_facts o
  pub of_clients : AreRows IsOfClient 0 o.given o.rows
  pub apart : HaveOwnAddresses o.rows
