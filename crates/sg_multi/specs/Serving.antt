-- The services that members are of: built in, or of one's own, by a description.
use Rattle.std.specs.Prelude.{ℕ, ◌≡◌}
use Rattle.sg_facts.specs.Interface.{Declared}
use Rattle.sg_interpret.specs.sg_described.Described.{Described, described_of}
use Rattle.sg_interpret.specs.sg_described.Meaning.{described_parts, described_table}
use Rattle.sg_interpret.specs.sg_described.Safe.{IsSafe, made_safe}
use Rattle.sg_load.specs.Services.{answering}
use Rattle.sg_load.specs.declared.kind.ServiceKind.{ServiceKind}
use Rattle.sg_load.specs.sg_plain.Answering.{Answering}
use Rattle.sg_multi.specs.declared.served.Served.{Served}
use Rattle.sg_multi.specs.declared.served.Served.TheVariants.{BuiltIn, Own}

-- a described service, as plays speak of it
abbrev pub described_answering : Described → Answering
described_answering d = record { facts = d.facts; ask = described_table d; parts = described_parts d }

-- ---- a service as plain data

-- it is built in, or that of a description
pub data Serving : Type 0 where
  built_in : ServiceKind → Serving
  described : Described → Serving

-- as plays speak of it
abbrev pub answering_of : Serving → Answering
answering_of (built_in kind) = answering kind
answering_of (described d) = described_answering d

-- ---- the service of an interface

abbrev pub serving : Served → Serving
serving (BuiltIn kind) = built_in kind
serving (Own d) = described (described_of d)

-- as plays speak of it
abbrev pub answering_at : Served → Answering
answering_at served = answering_of (serving served)

-- it can be recovered: one that is described has to be safe
abbrev pub IsFit : Served → Type 0
IsFit (BuiltIn kind) = Unit {0}
IsFit (Own d) = IsSafe (described_of d)

-- an interface is of this service, which can be recovered
pub record IsOfServed (i : Declared) (served : Served) : Type 0 where
  pub fit : IsFit served
  pub its : i.facts ≡ (answering_at served).facts

-- ---- the places of members

-- the greatest number of members, of which each may be of a service of one's own
abbrev pub most_places : ℕ
most_places = 6

-- the description of a service of one's own was picked
abbrev pub IsPicked : Described → Served → Type 0
IsPicked d (BuiltIn kind) = Unit {0}
IsPicked d (Own own) = described_of own ≡ made_safe d
