-- What contracts see of names.
use Rattle.std.specs.Prelude.{ℕ, ◌≡◌, List, None, Some, nat_eq}
use Rattle.std.specs.declared.option.Option.{Option}
use Rattle.std.specs.Map.{lookup}
use Rattle.std.specs.Option.{option_map}
use Rattle.sg_name.specs.declared.named.Named.{Named}
use Rattle.sg_name.specs.declared.named.Named.TheVariants.{Unnamed, Partial, Live}
use Rattle.sg_name.specs.declared.named.Standing.{Standing}

-- the ids that have a name, each with its service id and how far its descriptor is rebuilt, and for how many more there is room
pub record Naming : Type 0 where
  pub known : List (ℕ × Standing)
  pub spare : ℕ

-- the service id in a name, and how far its descriptor is rebuilt
abbrev pub standing_of : Named → Option Standing
standing_of Unnamed = None
standing_of (Partial real done) = Some (record { real = real; done = Some done })
standing_of (Live real) = Some (record { real = real; done = None })

-- the name of a service id, by the number of calls of its walk that were replayed
abbrev pub name_by : Option ℕ → ℕ → Named
name_by None real = Live real
name_by (Some done) real = Partial real done

-- the name of a service id and how far its descriptor is rebuilt; None is the name of an id for which nothing stands
abbrev pub name_of : Option Standing → Named
name_of None = Unnamed
name_of (Some s) = name_by s.done s.real

-- the service id in a name
abbrev pub real_of : Named → Option ℕ
real_of named = option_map (λ s. s.real) (standing_of named)

-- what stands for an id
abbrev pub named_at : List (ℕ × Standing) → ℕ → Named
named_at known id = name_of (lookup (nat_eq id) known)

-- the service id of an id
abbrev pub real_at : List (ℕ × Standing) → ℕ → Option ℕ
real_at known id = option_map (λ s. s.real) (lookup (nat_eq id) known)

-- no two ids have one service id
abbrev pub IsOneToOne : List (ℕ × Standing) → Type 0
IsOneToOne known = (a b real : ℕ) → real_at known a ≡ Some real → real_at known b ≡ Some real → a ≡ b
