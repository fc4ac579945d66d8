-- What was found in the states is what isn't reached.
use Rattle.sg_check.proofs.Calls.{all_unreached}
use Rattle.sg_check.proofs.reached.unreached_of.Goals as goal

pub returns : goal.returns
returns c = all_unreached c.args.iface.now c.args.triples.now c.in_ok-states.states c.requires c.in_ok-states.ensures _ c.in_ok-unreached_in.ensures
