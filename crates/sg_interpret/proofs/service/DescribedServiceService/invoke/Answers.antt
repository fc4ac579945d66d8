-- What was decided is right, and carried out.
use Rattle.sg_described.specs.Meaning.{described_parts, described_table}
use Rattle.sg_described.specs.Safe.{made_safe}
use Rattle.sg_interpret.specs.DescribedRow.{described_body}
use Rattle.sg_interpret.proofs.Invoking.{invoked}
use Rattle.sg_interpret.proofs.service.DescribedServiceService.invoke.Goals as goal

pub returns-clause-outcome : goal.returns-clause-outcome
returns-clause-outcome g c =
    let d = made_safe (g.N.Describes.descriptions g.row.PLACE) in
    invoked d.facts (described_table d) (described_parts d) (described_body d) c.args.self.now.slots c.args.call.now c.decide_by-decision.result c.decide_by-decision.ensures
    (record { asked = g.T.Stops.asked c.args.stops.now; struck = g.T.Stops.struck c.args.stops.now }) (record { asked = g.T.Stops.asked c.carry_out.new.stops; struck = g.T.Stops.struck c.carry_out.new.stops }) c.carry_out.result c.carry_out.new.slots c.carry_out.ensures.outcome
