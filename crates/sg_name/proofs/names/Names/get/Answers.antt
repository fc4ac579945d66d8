-- A service id goes back to one id alone.
use Rattle.std.proofs.Common.{subst}
use Rattle.sg_name.specs.Names.{IsOneToOne}
use Rattle.sg_name.proofs.Directions.{one_to_one}
use Rattle.sg_name.proofs.names.Names.get.Goals as goal

pub returns-in-Some-clause-apart : goal.returns-in-Some-clause-apart
returns-in-Some-clause-apart c =
    subst (λ names. IsOneToOne names.known) c.self.view_is (one_to_one c.self.inside.standings.entries c.self.inside.ids.entries c.self.invariant.back)

pub returns-in-None-clause-apart : goal.returns-in-None-clause-apart
returns-in-None-clause-apart c =
    subst (λ names. IsOneToOne names.known) c.self.view_is (one_to_one c.self.inside.standings.entries c.self.inside.ids.entries c.self.invariant.back)
