-- No field is set.
use Rattle.std.proofs.Common.{ap}
use Rattle.sg_known.specs.sg_facts.Walks.{Spot}
use Rattle.sg_known.proofs.sg_walk.Marks.{all_unset}
use Rattle.sg_known.specs.sg_described.Described.{described_of}
use Rattle.sg_safe.proofs.spots.blank_spot.Goals as goal

pub returns : goal.returns
returns c = ap (λ ms. let s : Spot = record { state = c.args.fun; marks = ms } in s) (all_unset (described_of c.args.description.now).facts.fields 8 c.requires)
