use Rattle.std.proofs.Common.{subst, sym, length}
use Rattle.sg_facts.specs.sg_base.Lists.{Each}
use Rattle.sg_facts.specs.Laws.{AnswersAndKeeps, CountsSlowly}
use Rattle.sg_facts.specs.Object.{object_of}
use Rattle.sg_recovery_laws.specs.LastItem.Asked.{IsComeTo}
use Rattle.sg_hist.specs.Clients.{IsClientsCall}
use Rattle.sg_recovery_laws.proofs.LastItem.Sound.{come_to}
use Rattle.sg_recovery_laws.proofs.told.legal_is_sound.Goals as goal

pub returns : goal.returns
returns g c = λ i history is fits few asked legal.
    let ask = g.S.Service.ask in
    let sound = g.S.Service.sound in
    subst (λ f. IsComeTo f sound (length history) (object_of f history)) is
    (come_to i ask sound fits (subst (λ f. AnswersAndKeeps f ask sound) (sym is) g.met.S.Service.answers_and_keeps) (subst (λ f. CountsSlowly f ask sound) (sym is) g.met.S.Service.counts_slowly) history few
    (subst (λ f. Each (λ e. IsClientsCall f e.call) history) (sym is) asked) legal)
