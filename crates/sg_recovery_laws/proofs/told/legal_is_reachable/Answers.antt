use Rattle.std.proofs.Common.{subst, sym, ◌∙◌, ap}
use Rattle.sg_facts.specs.sg_base.Lists.{Each}
use Rattle.sg_facts.specs.Allowed.{is_allowed}
use Rattle.sg_facts.specs.Held.{AreReachable}
use Rattle.sg_facts.specs.Laws.{AnswersAndKeeps, CountsSlowly}
use Rattle.sg_facts.specs.Object.{object_of}
use Rattle.sg_hist.specs.Clients.{IsClientsCall}
use Rattle.sg_recovery_laws.proofs.LastItem.Reached.{reach_all}
use Rattle.sg_recovery_laws.proofs.told.legal_is_reachable.Goals as goal

pub returns : goal.returns
returns g c = λ i history is fits few asked declared legal.
    let ask = g.S.Service.ask in
    let sound = g.S.Service.sound in
    let shape = g.met.S.Service.shape_allows in
    subst (λ f. AreReachable i (object_of f history).rows) is
    (reach_all i ask sound fits (ap is_allowed is ∙ shape.shape) (subst (λ f. AnswersAndKeeps f ask sound) (sym is) g.met.S.Service.answers_and_keeps) (subst (λ f. CountsSlowly f ask sound) (sym is) g.met.S.Service.counts_slowly) history few
    (subst (λ f. Each (λ e. IsClientsCall f e.call) history) (sym is) asked) declared legal)
