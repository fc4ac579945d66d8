-- The ids ascend with the rows.
use Rattle.std.proofs.Common.{subst}
use Rattle.sg_slots.specs.Slots.{AreIds}
use Rattle.sg_facts.proofs.Replaying.Subtrees.{IsAboveParent}
use Rattle.sg_mm.proofs.Indexed.{ids_of_rows}
use Rattle.sg_mm.proofs.pages.Pages.get.Goals as goal

pub returns-clause-ascending : goal.returns-clause-ascending
returns-clause-ascending c =
    subst (λ held. AreIds 0 held.given held.entries) c.self.view_is (ids_of_rows IsAboveParent 0 c.self.inside.given c.self.inside.pages.entries c.self.invariant.rows)
