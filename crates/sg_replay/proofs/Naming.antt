-- Names as look-ups, and as pairs of a client's id and a service's.
use Rattle.std.proofs.Common.{◌≡◌, ℕ, Bool, true, false, cond, List, [], ◌∷◌, None, Some, refl, sym, ◌∙◌, ap}
use Rattle.std.specs.Prelude.{if◌then◌else◌, nat_eq}
use Rattle.std.specs.declared.option.Option.{Option}
use Rattle.std.specs.Map.{lookup}
use Rattle.std.specs.Option.{option_map}
use Rattle.sg_facts.specs.Alike.{named}
use Rattle.sg_name.proofs.Directions.{turned}
use Rattle.sg_name.specs.Names.{name_by, name_of, named_at, real_at, real_of}
use Rattle.sg_name.specs.declared.named.Named.{Named}
use Rattle.sg_name.specs.declared.named.Standing.{Standing}
use Rattle.sg_replay.specs.Serving.{pairs_of}

-- a number, 0 for none
abbrev or_zero : Option ℕ → ℕ
or_zero None = 0
or_zero (Some n) = n

-- the service id in a name; 0 where there is none
abbrev pub real_or_zero : Named → ℕ
real_or_zero named = or_zero (real_of named)

-- the service id in what stands for an id
real_in_some : (done : Option ℕ) (real : ℕ) → real_of (name_by done real) ≡ Some real
real_in_some None real = refl
real_in_some (Some n) real = refl

-- a look-up of a service id is that in the name
pub real_in_named : (known : List (ℕ × Standing)) (id : ℕ) → real_at known id ≡ real_of (named_at known id)
real_in_named known id = at (lookup (nat_eq id) known)
  where
    at : (o : Option Standing) → option_map (λ s. s.real) o ≡ real_of (name_of o)
    at None = refl
    at (Some s) = sym (real_in_some s.done s.real)

-- names as pairs tell the same service ids
pub named_in_pairs : (known : List (ℕ × Standing)) (id : ℕ) → named (pairs_of known) id ≡ real_or_zero (named_at known id)
named_in_pairs [] id = refl
named_in_pairs (n ∷ known) id =
    ap (λ b. if b then n.1.real else named (pairs_of known) id) (sym (turned id n.0)) ∙ at (nat_eq id n.0) (named_in_pairs known id)
  where
    at : (b : Bool) → named (pairs_of known) id ≡ real_or_zero (named_at known id)
        → (if b then n.1.real else named (pairs_of known) id) ≡ real_or_zero (name_of (cond b (Some n.1) (lookup (nat_eq id) known)))
    at true rest = sym (ap or_zero (real_in_some n.1.done n.1.real))
    at false rest = rest
