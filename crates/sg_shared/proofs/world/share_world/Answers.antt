-- Each client may play by its new pass.
use Rattle.std.proofs.Common.{ap, sym, ◌∙◌, subst}
use Rattle.sg_log.specs.Log.{log_of}
use Rattle.sg_log.specs.Names.{TellsWorld}
use Rattle.sg_shared.proofs.Passing.{shared_play}
use Rattle.sg_sim.specs.sg_world.Worlded.{Worlded}
use Rattle.sg_shared.proofs.world.share_world.Goals as goal

pub returns-clause-play : goal.returns-clause-play
returns-clause-play g c =
    let told = subst (λ (y : Worlded). TellsWorld y.view) c.new-played.ensures c.tell.ensures in
    shared_play (λ v. v.items) _ c.args.world.view g.N.WorldNames.clients c.new.result (ap (λ (y : Worlded). log_of y.view) c.new-played.ensures)
    (c.requires.goes.clients ∙ sym c.requires.clients ∙ c.requires.count) told c.requires.free c.new.ensures.start c.new.ensures.passes
