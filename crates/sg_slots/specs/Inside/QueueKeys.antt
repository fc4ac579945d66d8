-- Keys by two numbers and an id, and sets of them.
use Rattle.std.specs.Prelude.{ℕ, ◌≡◌, ◌==◌, Bool, true, false, ◌&&◌, ◌||◌, not, None, Some}
use Rattle.std.specs.declared.option.Option.{Option}
use Rattle.std.specs.declared.cmp.Ordering.{Ordering}
use Rattle.std.specs.Ordering.{nat_cmp, ordering_then}
use Rattle.std.specs.BTreeSet.{BTreeSet, contains}
use Rattle.sg_slots.specs.declared.key.Key.{Key}

-- the order of keys: by the first number, then by the second, then by id
abbrev pub key_cmp : Key → Key → Ordering
key_cmp a b = ordering_then (nat_cmp a.first b.first) (ordering_then (nat_cmp a.second b.second) (nat_cmp a.id b.id))

-- whether a set has a key
abbrev pub has : BTreeSet Key → Key → Bool
has keys k = contains key_cmp keys k

-- whether a key is the one, where there is one
abbrev pub is_key : Option Key → Key → Bool
is_key None k = false
is_key (Some one) k = (one.first == k.first) && (one.second == k.second) && (one.id == k.id)

-- a set has a key more
abbrev pub GainsKey : BTreeSet Key → BTreeSet Key → Option Key → Type 0
GainsKey old new key = (k : Key) → has new k ≡ (has old k || is_key key k)

-- a set has a key less, unless it is one to keep
abbrev pub LosesKey : BTreeSet Key → BTreeSet Key → Option Key → Option Key → Type 0
LosesKey old new key kept = (k : Key) → has new k ≡ (has old k && not (is_key key k && not (is_key kept k)))

-- a set has a key with this first number
pub record IsFound (keys : BTreeSet Key) (first : ℕ) : Type 0 where
  pub second : ℕ
  pub id : ℕ
  pub found : has keys (record { first = first; second = second; id = id }) ≡ true
