-- The creation's spot is the first arrival.
use Rattle.std.proofs.Common.{◌∷◌, [], ◌++◌, ◌∙◌, ap}
use Rattle.sg_walk.proofs.GoingOn.{first_added}
use Rattle.sg_walk.proofs.arriving.first_of.Goals as goal

pub returns : goal.returns
returns c =
    first_added c.args.iface.now c.args.made c.args.spot c.push.new.self c.new-found.result c.add.new.self c.requires.begins c.requires.spot
    (c.push.ensures.added ∙ ap (λ w. w ++ c.args.made ∷ []) c.new-walk.ensures) c.new-found.ensures c.in_ok-add.ensures.ok
