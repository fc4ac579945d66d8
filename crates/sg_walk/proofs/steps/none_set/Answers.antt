use Rattle.sg_walk.proofs.Marks.{all_unset}
use Rattle.sg_walk.proofs.steps.none_set.Goals as goal

pub returns : goal.returns
returns c = all_unset c.args.iface.now.facts.fields 8 c.requires
