-- The standard interface fits, and is of a shape within the limits.
use Rattle.std.proofs.Common.{sym, subst}
use Rattle.sg_check.specs.Shapes.{IsSmall}
use Rattle.sg_facts.specs.Fits.{Fits}
use Rattle.sg_load.proofs.Services.{standard_fits, standard_small}
use Rattle.sg_load.proofs.interface.standard.Goals as goal

pub new-requires-clause-fits : goal.new-requires-clause-fits
new-requires-clause-fits c = subst Fits (sym c.in_ok-iface.ensures) (standard_fits c.args.service)

pub new-requires-clause-small : goal.new-requires-clause-small
new-requires-clause-small c = subst IsSmall (sym c.in_ok-iface.ensures) (standard_small c.args.service)
