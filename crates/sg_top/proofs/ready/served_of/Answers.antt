-- It is the service that the text describes, or the one of its name.
use Rattle.std.proofs.Common.{◌∙◌, ap, sym, subst}
use Rattle.sg_multi.specs.sg_facts.Interface.{Declared}
use Rattle.sg_judge.specs.AnyInputs.{IsAcceptedAs}
use Rattle.sg_top.specs.Answer.{services}
use Rattle.sg_top.specs.Inside.Plays.{IsPlayed}
use Rattle.sg_top.proofs.Fitting.{interface_service}
use Rattle.sg_top.proofs.Serving.{served_built_in, served_own}
use Rattle.sg_top.proofs.ready.served_of.Goals as goal

pub kind_of-requires : goal.kind_of-requires
kind_of-requires c =
    let accepted = subst (IsAcceptedAs services c.requires.0 c.args.any.now.accepted) c.in-None.is c.requires.1 in
    subst (λ (i : Declared). IsPlayed i.facts) (sym c.interface.ensures.same) (interface_service c.requires.0 c.args.any.now.accepted accepted.1)

pub returns-in-None : goal.returns-in-None
returns-in-None c = λ text is.
    served_built_in text c.args.any.now.accepted c.kind_of.result (subst (IsAcceptedAs services text c.args.any.now.accepted) c.in-None.is is)
    (c.kind_of.ensures ∙ ap (λ (i : Declared). i.facts) c.interface.ensures.same)

pub returns-in-Some : goal.returns-in-Some
returns-in-Some c = λ text is.
    served_own text c.args.any.now.accepted c.in-Some.description (subst (IsAcceptedAs services text c.args.any.now.accepted) c.in-Some.is is)
