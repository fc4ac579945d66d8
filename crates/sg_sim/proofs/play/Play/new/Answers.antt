-- A new play.
use Rattle.std.proofs.Common.{◌∙◌, ◌≤◌, true, [], replicate, ap, sym, subst}
use Rattle.sg_facts.specs.Limits.{last_client}
use Rattle.sg_facts.specs.Tables.{Compiled}
use Rattle.sg_play.specs.sg_plain.Calls.{most_client}
use Rattle.sg_play.specs.sg_clients.WorldView.{new_world, no_seat}
use Rattle.sg_sim.proofs.Beginning.{few_clients}
use Rattle.sg_sim.proofs.Keeping.{kept_new}
use Rattle.sg_sim.specs.Inside.Givens.{lists_of}
use Rattle.sg_sim.specs.Inside.Keeps.{KeepsPlay}
use Rattle.sg_play.specs.sg_world.Worlded.{setting_of}
use Rattle.sg_play.specs.sg_world_laws.Setting.{Setting}
use Rattle.sg_sim.proofs.play.Play.new.Goals as goal

pub new-requires-2-clause-few : goal.new-requires-2-clause-few
new-requires-2-clause-few g c =
    subst (λ n. n ≤ last_client) (sym (c.most_client-clients.ensures ∙ ap most_client c.as_slice.ensures)) (few_clients 0 c.args.script.clients c.requires.playable.clients)

pub invariant_of-result : goal.invariant_of-result
invariant_of-result g c =
    let count = c.most_client-clients.ensures ∙ ap most_client c.as_slice.ensures in
    let z : Setting = setting_of g.S.Service.ask g.S.Service.sound g.S.Service.parts c.args.tables in
    let world = c.in_ok-world.ensures.view ∙ ap (λ n. new_world (replicate n no_seat)) count in
    let kept = kept_new z c.args.script c.requires.playable c.requires.waits c.in_ok-world.world.view world in
    subst (λ (t : Compiled). KeepsPlay (setting_of g.S.Service.ask g.S.Service.sound g.S.Service.parts t) c.args.script c.in_ok-world.world.view (lists_of c.in_ok-given.given) 0 0 true) (sym c.in_ok-world.ensures.tables)
    (subst (λ l. KeepsPlay z c.args.script c.in_ok-world.world.view l 0 0 true) (sym (c.in_ok-given.ensures ∙ ap (λ n. replicate n []) count)) kept)
