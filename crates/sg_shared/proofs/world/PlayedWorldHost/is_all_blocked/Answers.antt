-- Who waits asks, in a call that has no answer.
use Rattle.std.proofs.Common.{◌≡◌, subst}
use Rattle.sg_facts.specs.sg_base.declared.call.Call.{Call}
use Rattle.sg_log.specs.Log.{log_of}
use Rattle.sg_log.specs.Names.{HasNoAnswer}
use Rattle.sg_log.specs.sg_turn.Told.{asking, entries_in, standing_in}
use Rattle.sg_sim.specs.sg_world.Worlded.{Worlded}
use Rattle.sg_shared.proofs.world.PlayedWorldHost.is_all_blocked.Goals as goal

pub returns-clause-waits : goal.returns-clause-waits
returns-clause-waits g c = λ e.
    subst (λ (y : Worlded). (call : Call) × (standing_in c.args.client (log_of y.view) ≡ asking call) × HasNoAnswer g.N.WorldNames.tables.iface g.S.Service.ask (entries_in (log_of y.view)) call)
    c.self.view_is (c.is_all_blocked.ensures.waits e)
