-- The setup is played in a new world, and what is left over the world that comes back.
use Rattle.std.proofs.Common.{◌≡◌, ◌≤◌, ℕ, List, ap, sym, ◌∙◌, subst, subst₂}
use Rattle.std.specs.Result.{IfOk}
use Rattle.sg_edge.specs.Stops.{up_to}
use Rattle.sg_facts.specs.Tables.{Compiled}
use Rattle.sg_shared.proofs.Passing.{all_back}
use Rattle.sg_shared.proofs.Reaching.{come_setup, reached_end}
use Rattle.sg_shared.specs.Inside.Seats.{AllFree, AreSamePasses}
use Rattle.sg_shared.specs.Reached.{ComesByEvents}
use Rattle.sg_sim.proofs.Beginning.{clients_from_one}
use Rattle.sg_sim.specs.Played.{IsPlayed}
use Rattle.sg_sim.specs.Playing.{ComesTo, EndsAs, new_of}
use Rattle.sg_sim.specs.sg_plain.Calls.{most_client}
use Rattle.sg_sim.specs.sg_plain.Playing.Callers.{is_setting_up}
use Rattle.sg_sim.specs.sg_plain.sg_script.declared.script.Script.{Script}
use Rattle.sg_sim.specs.sg_play.GoingOn.{MayGoOn}
use Rattle.sg_sim.specs.sg_clients.WorldView.{WorldView}
use Rattle.sg_sim.specs.sg_world.Worlded.{setting_of}
use Rattle.sg_sim.specs.sg_world_laws.Setting.{Setting, stubs_of}
use Rattle.sg_shared.proofs.runs.run_named.Goals as goal

pub share_world-requires-clause-goes : goal.share_world-requires-clause-goes
share_world-requires-clause-goes g c =
    let p = c.in_ok-play.play in
    let is = c.in_ok-play.ensures in
    let begun = c.in_ok-new.ensures in
    subst (MayGoOn (setting_of g.S.Service.ask g.S.Service.sound g.S.Service.parts g.N.WorldNames.tables) g.N.Naming.script) (sym c.parts-world.ensures.view)
    (subst₂ (λ (t : Compiled) (s : Script). MayGoOn (setting_of g.S.Service.ask g.S.Service.sound g.S.Service.parts t) s p.view) (is.tables ∙ begun.tables ∙ c.requires.tables) (is.script ∙ begun.script ∙ c.requires.script)
    (c.parts-world.ensures.goes (ap (λ (s : Script). is_setting_up s p.view.seats) is.script ∙ is.done)))

pub share_world-requires-clause-comes : goal.share_world-requires-clause-comes
share_world-requires-clause-comes g c =
    let z : Setting = setting_of g.S.Service.ask g.S.Service.sound g.S.Service.parts g.N.WorldNames.tables in
    let p = c.in_ok-play.play in
    let begun = c.in_ok-new.ensures in
    subst (ComesByEvents z g.N.Naming.script (new_of g.N.Naming.script)) (sym c.parts-world.ensures.view)
    (come_setup z g.N.Naming.script p.view
    (subst₂ (λ (t : Compiled) (s : Script). ComesTo (setting_of g.S.Service.ask g.S.Service.sound g.S.Service.parts t) s (new_of s) p.view) (begun.tables ∙ c.requires.tables) (begun.script ∙ c.requires.script) c.in_ok-play.ensures.turns))

pub share_world-requires-clause-free : goal.share_world-requires-clause-free
share_world-requires-clause-free g c = subst AllFree (sym c.parts-world.ensures.view) c.in_ok-play.ensures.free

pub close-requires : goal.close-requires
close-requires g c =
    let some : 1 ≤ g.N.WorldNames.clients
    = subst (λ n. 1 ≤ n) (ap (λ (s : Script). most_client s.clients) c.requires.script ∙ sym c.requires.clients) (clients_from_one 0 c.args.script.clients c.requires.playable.clients) in
    all_back c.in_ok-shared.shared g.N.WorldNames.clients c.play_clients-passes.result.items some
    (subst (λ ps. AreSamePasses ps c.play_clients-passes.result.items) c.in_ok-shared.ensures.passes c.play_clients-passes.ensures)

pub over-requires-clause-goes : goal.over-requires-clause-goes
over-requires-clause-goes g c =
    let script = c.parts-world.ensures.script ∙ c.in_ok-play.ensures.script ∙ c.in_ok-new.ensures.script ∙ c.requires.script in
    let world = c.into_world-world.ensures in
    λ none. subst₂ (λ (t : Compiled) (s : Script). MayGoOn (setting_of g.S.Service.ask g.S.Service.sound g.S.Service.parts t) s c.into_world-world.result.view) (sym world.tables) (sym script) (world.keeps.goes none)

pub returns-clause-played : goal.returns-clause-played
returns-clause-played g c =
    let p = c.in_ok-over.field-0 in
    let is = c.in_ok-over.ensures in
    let world = c.into_world-world.ensures in
    let script : p.script ≡ g.N.Naming.script = is.script ∙ c.parts-world.ensures.script ∙ c.in_ok-play.ensures.script ∙ c.in_ok-new.ensures.script ∙ c.requires.script in
    let plan : p.plan ≡ g.N.Naming.script.stops = is.plan ∙ world.plan ∙ c.requires.stops in
    subst (λ (stops : List ℕ). IfOk c.finish.result (IsPlayed (stubs_of (setting_of g.S.Service.ask g.S.Service.sound g.S.Service.parts g.N.WorldNames.tables)) (λ asked struck plan. struck ≡ up_to asked plan) g.N.Naming.script stops)) plan
    (subst₂ (λ (t : Compiled) (s : Script). IfOk c.finish.result (IsPlayed (stubs_of (setting_of g.S.Service.ask g.S.Service.sound g.S.Service.parts t)) (λ asked struck plan. struck ≡ up_to asked plan) s p.plan)) (is.tables ∙ world.tables) script
    c.finish.ensures.played)

pub returns-clause-world : goal.returns-clause-world
returns-clause-world g c =
    let p = c.in_ok-over.field-0 in
    let is = c.in_ok-over.ensures in
    let world = c.into_world-world.ensures in
    let z : Setting = setting_of g.S.Service.ask g.S.Service.sound g.S.Service.parts g.N.WorldNames.tables in
    let script : p.script ≡ g.N.Naming.script = is.script ∙ c.parts-world.ensures.script ∙ c.in_ok-play.ensures.script ∙ c.in_ok-new.ensures.script ∙ c.requires.script in
    reached_end z g.N.Naming.script c.into_world-world.result.view c.finish.result world.keeps.comes
    (subst (λ (v : WorldView). IfOk c.finish.result (EndsAs z g.N.Naming.script v)) is.view
    (subst₂ (λ (t : Compiled) (s : Script). IfOk c.finish.result (EndsAs (setting_of g.S.Service.ask g.S.Service.sound g.S.Service.parts t) s p.view)) (is.tables ∙ world.tables) script c.finish.ensures.world))
