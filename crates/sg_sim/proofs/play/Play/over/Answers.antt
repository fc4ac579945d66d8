-- A play that goes on over a world keeps what a play keeps.
use Rattle.std.proofs.Common.{ap, sym, ◌∙◌}
use Rattle.sg_play.specs.sg_plain.Calls.{most_client}
use Rattle.sg_play.specs.sg_world.Worlded.{setting_of}
use Rattle.sg_sim.proofs.Keeping.{kept_over}
use Rattle.sg_sim.proofs.Rebuilding.{none_there}
use Rattle.sg_sim.specs.Inside.Givens.{lists_of}
use Rattle.sg_sim.proofs.play.Play.over.Goals as goal

pub told_by-requires : goal.told_by-requires
told_by-requires g c =
    let none = sym c.withdrawn.ensures ∙ none_there c.withdrawn.result.now (sym c.is_empty.ensures ∙ c.if-not-is_empty.false) in
    c.most_client-clients.ensures ∙ ap most_client c.as_slice.ensures ∙ sym (c.requires.goes none).clients

pub invariant_of-result : goal.invariant_of-result
invariant_of-result g c =
    let none = sym c.withdrawn.ensures ∙ none_there c.withdrawn.result.now (sym c.is_empty.ensures ∙ c.if-not-is_empty.false) in
    kept_over (setting_of g.S.Service.ask g.S.Service.sound g.S.Service.parts c.args.world.tables) c.args.script c.args.world.view (lists_of c.in-Ok.given) c.requires.waits none (c.requires.goes none) c.in-Ok.ensures
