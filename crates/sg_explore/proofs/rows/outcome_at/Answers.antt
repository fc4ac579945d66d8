-- The stops are those at this place of the row.
use Rattle.std.proofs.Common.{subst}
use Rattle.std.specs.Result.{IfOk}
use Rattle.sg_explore.specs.Inside.Adding.{IsOutcomeOf}
use Rattle.sg_explore.specs.Inside.Jobs.{IsTriedOf}
use Rattle.sg_explore.proofs.rows.outcome_at.Goals as goal

pub returns : goal.returns
returns g c =
    subst (λ s. IfOk c.outcome_with.result (IsOutcomeOf (IsTriedOf c.args.accepted.now g.S.Service.facts g.S.Service.ask g.S.Service.parts c.args.script.now c.args.plain.now) s))
    c.stops-points.ensures.points c.outcome_with.ensures
