-- Nothing stands after what is told of the text.
use Rattle.sg_judge.proofs.OwnTelling.{good_alone}
use Rattle.sg_judge.proofs.explaining.explain_own.Goals as goal

pub returns-in_ok-told-in-Ok : goal.returns-in_ok-told-in-Ok
returns-in_ok-told-in-Ok c = λ services.
    good_alone services c.args.text.now c.args.tree.now c.in-Ok.own.accepted c.in_ok-told-in-Ok.told c.requires c.in-Ok.ensures.answer.accepted c.in_ok-told-in-Ok.ensures
