-- How a play over several services begins.
use Rattle.std.specs.Prelude.{ℕ, ◌≡◌, List, Some, length, slice_get}
use Rattle.std.specs.Option.{option_map_or}
use Rattle.sg_interpret.specs.sg_described.Described.{Described, described_of}
use Rattle.sg_interpret.specs.sg_described.Safe.{described_nothing}
use Rattle.sg_multi.specs.Members.{IsNewMember, Membered}
use Rattle.sg_multi.specs.Serving.{IsPicked, serving}
use Rattle.sg_multi.specs.declared.play.MemberTables.{MemberTables}
use Rattle.sg_multi.specs.declared.served.Served.{Served}
use Rattle.sg_multi.specs.declared.served.Served.TheVariants.{BuiltIn, Own}

-- each of these members is of the service at its place, with its tables and stops, and nothing was done in its world
abbrev pub AreNew : List MemberTables → List (List ℕ) → ℕ → List Membered → Type 0
AreNew tables stops clients members = (place : ℕ) (t : MemberTables) (plan : List ℕ) (m : Membered) → slice_get tables place ≡ Some t → slice_get stops place ≡ Some plan → slice_get members place ≡ Some m
    → IsNewMember (serving t.service) t.tables plan clients m

-- so are these, and there is one for each
pub record AreNewMembers (tables : List MemberTables) (stops : List (List ℕ)) (clients : ℕ) (members : List Membered) : Type 0 where
  pub count : length members ≡ length tables
  pub each : AreNew tables stops clients members

-- ---- descriptions

-- that of a service of one's own, and of one that is built in one of no function
abbrev pub description_in : Served → Described
description_in (BuiltIn kind) = described_nothing
description_in (Own d) = described_of d

-- that of the service of the member at a place
abbrev pub description_at : List MemberTables → ℕ → Described
description_at tables place = option_map_or (λ t. description_in t.service) (slice_get tables place) described_nothing

-- those of services of one's own were picked, each at its place
abbrev pub ArePicked : (ℕ → Described) → List MemberTables → Type 0
ArePicked descriptions tables = (place : ℕ) (t : MemberTables) → slice_get tables place ≡ Some t → IsPicked (descriptions place) t.service
