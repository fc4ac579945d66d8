-- The objects that the lock service can come to.
use Rattle.std.specs.Prelude.{ℕ, ◌≡◌, ◌==◌, Bool, true, ◌&&◌, nat_le, if◌then◌else◌}
use Rattle.sg_facts.specs.declared.row.Row.{Row}
use Rattle.sg_facts.specs.Track.{word_of, field_at}
use Rattle.sg_facts.specs.Object.{Object}
use Rattle.sg_facts.specs.Sound.{IsSound, AreRows}
use Rattle.sg_lock.specs.LockFacts.{lock_facts}

-- an owner is 0 in the state that lock_alloc leaves, and else a client
abbrev pub is_owner_in : ℕ → ℕ → Bool
is_owner_in state owner = if state == 1 then owner == 0 else nat_le 1 owner && nat_le owner 64

-- a row's owner is 0 in the state that lock_alloc leaves, and else a client, from 1 to 64
abbrev pub IsOwned : Row → Type 0
IsOwned r = is_owner_in r.state (word_of (field_at r.fields 0)) ≡ true

-- a sound object of the lock service
pub record IsLockSound (o : Object) : Type 0 where
  pub general : IsSound lock_facts o
  pub owned : AreRows IsOwned 0 o.given o.rows
