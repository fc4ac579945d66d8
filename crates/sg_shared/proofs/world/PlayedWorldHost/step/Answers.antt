-- After a step the world keeps what it keeps.
use Rattle.std.proofs.Common.{◌≡◌, ◌≤◌, length, Ok, Err, OnErr, sym, ◌∙◌, subst}
use Rattle.std.specs.declared.result.Result.{Result}
use Rattle.sg_facts.specs.Tables.{Compiled}
use Rattle.sg_log.specs.Dids.{stepped_of}
use Rattle.sg_log.specs.Log.{log_of}
use Rattle.sg_log.specs.sg_turn.Hosts.{AddsStep}
use Rattle.sg_log.specs.sg_turn.declared.host.Stepped.{Stepped}
use Rattle.sg_shared.proofs.Keeping.{kept_stepped}
use Rattle.sg_sim.specs.sg_play.Recovering.{RecoversSoFar}
use Rattle.sg_sim.specs.sg_world.Worlded.{Worlded, setting_of}
use Rattle.sg_sim.specs.sg_world_laws.Setting.{Setting}
use Rattle.sg_shared.proofs.world.PlayedWorldHost.step.Goals as goal

pub invariant_of-self : goal.invariant_of-self
invariant_of-self g c =
    let n = c.self.inside.named in
    let w = n.world.view in
    let later = c.make_step-did.new.self in
    let client = c.args.client in
    let z : Setting = setting_of g.S.Service.ask g.S.Service.sound g.S.Service.parts g.N.WorldNames.tables in
    let last : client ≤ length w.seats = subst (λ k. client ≤ k) (sym (n.seats ∙ n.count)) c.requires.last in
    let before = subst (λ (t : Compiled). RecoversSoFar (setting_of g.S.Service.ask g.S.Service.sound g.S.Service.parts t) w) n.tables c.tell_world.ensures in
    let after = subst (λ (t : Compiled). RecoversSoFar (setting_of g.S.Service.ask g.S.Service.sound g.S.Service.parts t) later.world.view) later.tables c.tell_world-2.ensures in
    kept_stepped z g.N.Naming.script w c.self.invariant client c.requires.first last c.make_step-did.result later.world.view before after.legal
    c.make_step-did.ensures.did c.make_step-did.ensures.wants c.make_step-did.ensures.answers

pub invariant_of-self-2 : goal.invariant_of-self-2
invariant_of-self-2 g c =
    let n = c.self.inside.named in
    let w = n.world.view in
    let later = c.make_step-did.new.self in
    let client = c.args.client in
    let z : Setting = setting_of g.S.Service.ask g.S.Service.sound g.S.Service.parts g.N.WorldNames.tables in
    let last : client ≤ length w.seats = subst (λ k. client ≤ k) (sym (n.seats ∙ n.count)) c.requires.last in
    let before = subst (λ (t : Compiled). RecoversSoFar (setting_of g.S.Service.ask g.S.Service.sound g.S.Service.parts t) w) n.tables c.tell_world.ensures in
    let after = subst (λ (t : Compiled). RecoversSoFar (setting_of g.S.Service.ask g.S.Service.sound g.S.Service.parts t) later.world.view) later.tables c.tell_world-2.ensures in
    kept_stepped z g.N.Naming.script w c.self.invariant client c.requires.first last c.make_step-did.result later.world.view before after.legal
    c.make_step-did.ensures.did c.make_step-did.ensures.wants c.make_step-did.ensures.answers

on_err : {A E : Type 0} (P : Type 0) (r : Result A E) → P → OnErr r P
on_err P (Ok a) holds = tt
on_err P (Err e) holds = holds

pub returns-in_err-did-clause-err : goal.returns-in_err-did-clause-err
returns-in_err-did-clause-err g c =
    on_err _ c.from_residual.result (subst (λ (y : Worlded). log_of c.make_step-did.new.self.world.view ≡ log_of y.view) c.self.view_is c.in_err-did.ensures.same)

pub returns-clause-stepped : goal.returns-clause-stepped
returns-clause-stepped g c =
    let later = c.make_step-did.new.self.world.view in
    subst (λ (s : Stepped). AddsStep c.args.client (log_of c.args.self.now.view) s (log_of later)) (sym c.stepped_of.ensures)
    (subst (λ (y : Worlded). AddsStep c.args.client (log_of y.view) (stepped_of c.in_ok-did.did) (log_of later)) c.self.view_is c.in_ok-did.ensures.stepped)
