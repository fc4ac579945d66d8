-- Names in both directions.
use Rattle.std.specs.Prelude.{ℕ, ◌≡◌, ◌↔◌, List, Some, nat_eq}
use Rattle.std.specs.Map.{lookup}
use Rattle.sg_name.specs.declared.named.Standing.{Standing}
use Rattle.sg_name.specs.Names.{real_at}

-- a service id goes back to an id exactly where it stands for that
abbrev pub GoesBack : List (ℕ × Standing) → List (ℕ × ℕ) → Type 0
GoesBack known ids = (id real : ℕ) → (lookup (nat_eq real) ids ≡ Some id) ↔ (real_at known id ≡ Some real)
