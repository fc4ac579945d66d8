-- Where nobody waits, nobody is asked again.
use Rattle.std.proofs.Common.{ap, sym, ◌∙◌}
use Rattle.sg_clients.specs.Inside.Waiting.{waiting_in}
use Rattle.sg_clients.proofs.Waking.{none_woken}
use Rattle.sg_clients.proofs.clients.Clients.wake_where.Goals as goal

pub returns-then-self-eq0 : goal.returns-then-self-eq0
returns-then-self-eq0 g c = λ meets answers. none_woken (λ call. meets call.desc) c.args.self.now (sym (c.self.invariant ∙ ap waiting_in c.self.view_is) ∙ c.if-self-eq0.true)
