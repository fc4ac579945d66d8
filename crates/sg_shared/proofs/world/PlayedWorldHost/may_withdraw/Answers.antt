-- Who may withdraw its call asks.
use Rattle.std.proofs.Common.{◌≡◌, subst}
use Rattle.sg_facts.specs.sg_base.declared.call.Call.{Call}
use Rattle.sg_log.specs.Log.{log_of}
use Rattle.sg_log.specs.sg_turn.Told.{asking, standing_in}
use Rattle.sg_sim.specs.sg_world.Worlded.{Worlded}
use Rattle.sg_shared.proofs.world.PlayedWorldHost.may_withdraw.Goals as goal

pub returns-clause-asks : goal.returns-clause-asks
returns-clause-asks g c = λ e. subst (λ (y : Worlded). (call : Call) × (standing_in c.args.client (log_of y.view) ≡ asking call)) c.self.view_is (c.may_withdraw.ensures.asks e)
