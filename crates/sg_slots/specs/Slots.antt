-- What contracts see of slots: entries under ids, and the object that they stand for.
use Rattle.std.specs.Prelude.{ℕ, ◌<◌, ◌≤◌, nat_eq, List, [], ◌∷◌, map}
use Rattle.std.specs.Map.{lookup, remove_entry, set_value}
use Rattle.std.specs.declared.option.Option.{Option}
use Rattle.sg_facts.specs.sg_base.declared.value.Value.{Value}
use Rattle.sg_facts.specs.declared.row.Row.{Row}
use Rattle.sg_facts.specs.Object.{Object}

-- the entries of slots, each under its id, and the number of ids given
pub record Held (E : Type 0) : Type 0 where
  pub entries : List (ℕ × E)
  pub given : ℕ

-- a row without its id
pub record Body : Type 0 where
  pub made : ℕ
  pub creator : ℕ
  pub parent : ℕ
  pub state : ℕ
  pub fields : List Value

-- the row of an id
abbrev pub row_with : ℕ → Body → Row
row_with id b = record { id = id; made = b.made; creator = b.creator; parent = b.parent; state = b.state; fields = b.fields }

-- ascending ids above one number and up to another
abbrev pub AreIds : {E : Type 0} → ℕ → ℕ → List (ℕ × E) → Type 0
AreIds low high [] = Unit {0}
AreIds low high (e ∷ es) = (low < e.0) × (e.0 ≤ high) × AreIds e.0 high es

-- the entry of an id
abbrev pub entry_at : {E : Type 0} → List (ℕ × E) → ℕ → Option E
entry_at es id = lookup (nat_eq id) es

-- the entries with that of an id set
abbrev pub set_entry : {E : Type 0} → List (ℕ × E) → ℕ → E → List (ℕ × E)
set_entry es id e = set_value (nat_eq id) es e

-- the entries without that of an id
abbrev pub without : {E : Type 0} → List (ℕ × E) → ℕ → List (ℕ × E)
without es id = remove_entry (nat_eq id) es

module _ {E : Type 0} (body : E → Body) where
  -- the rows that entries stand for
  abbrev pub rows_of : List (ℕ × E) → List Row
  rows_of es = map (λ p. row_with p.0 (body p.1)) es

  -- the object that slots stand for
  abbrev pub object_of : Held E → Object
  object_of held = record { rows = rows_of held.entries; files = []; given = held.given }
