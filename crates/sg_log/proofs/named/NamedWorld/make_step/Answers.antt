-- A step adds what its line says, and the history stays legal.
use Rattle.std.proofs.Common.{◌≤◌, sym, ◌∙◌, subst}
use Rattle.std.specs.Result.{IfOk, OnErr}
use Rattle.sg_turn.specs.sg_facts.Legal.{LegalFrom}
use Rattle.sg_turn.specs.sg_facts.Object.{empty_object}
use Rattle.sg_turn.specs.sg_facts.Tables.{Compiled}
use Rattle.sg_turn.specs.Told.{entries_in}
use Rattle.sg_turn.proofs.CallLaws.{on_err}
use Rattle.sg_world.specs.Steps.{HasStepped, LackedMemory}
use Rattle.sg_world.specs.Worlded.{setting_of}
use Rattle.sg_log.specs.Log.{log_of}
use Rattle.sg_log.proofs.Offering.{wants_log}
use Rattle.sg_log.proofs.Stepping.{steps_log}
use Rattle.sg_log.proofs.Worlds.{history_told, if_ok}
use Rattle.sg_log.proofs.named.NamedWorld.make_step.Goals as goal

pub returns-clause-did : goal.returns-clause-did
returns-clause-did g c =
    let n = c.args.self.now in
    subst (λ (t : Compiled). IfOk c.step-did.result (λ did. HasStepped (setting_of g.S.Service.ask g.S.Service.sound g.S.Service.parts t) n.world.view c.args.client did c.step-did.new.self.view)) n.tables c.step-did.ensures.did

pub returns-clause-wants : goal.returns-clause-wants
returns-clause-wants g c =
    let n = c.args.self.now in
    subst (λ (t : Compiled). OnErr c.step-did.result (LackedMemory (setting_of g.S.Service.ask g.S.Service.sound g.S.Service.parts t) n.world.view c.args.client c.step-did.new.self.view)) n.tables c.step-did.ensures.err

pub returns-clause-stepped : goal.returns-clause-stepped
returns-clause-stepped g c =
    let n = c.args.self.now in
    let z = setting_of g.S.Service.ask g.S.Service.sound g.S.Service.parts n.world.tables in
    let last = subst (λ k. c.args.client ≤ k) (sym (n.seats ∙ n.count)) c.requires.last in
    if_ok c.step-did.result (λ did made. steps_log z n.world.view c.args.client c.requires.first last c.marks-told.ensures.told c.call-call.ensures.its c.call-call.ensures.receipt did c.step-did.new.self.view made) c.step-did.ensures.did

pub returns-clause-same : goal.returns-clause-same
returns-clause-same g c =
    let n = c.args.self.now in
    on_err c.step-did.result (wants_log (setting_of g.S.Service.ask g.S.Service.sound g.S.Service.parts n.world.tables) n.world.view c.args.client c.step-did.new.self.view) c.step-did.ensures.err

pub returns-clause-legal : goal.returns-clause-legal
returns-clause-legal g c =
    let new = c.step-did.new.self in
    subst (λ t. LegalFrom t.iface g.S.Service.ask empty_object (entries_in (log_of new.view))) (c.step-did.ensures.tables ∙ c.args.self.now.tables)
    (subst (LegalFrom new.tables.iface g.S.Service.ask empty_object) (sym (history_told new.view c.marks-new.ensures.told)) c.history-legal.ensures.legal)
