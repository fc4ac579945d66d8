-- A client withdraws its call, and the world keeps what it keeps.
use Rattle.std.proofs.Common.{◌≡◌, ◌≤◌, ◌++◌, ◌∷◌, [], length, sym, ◌∙◌, subst}
use Rattle.sg_facts.specs.sg_base.declared.call.Call.{Call}
use Rattle.sg_log.specs.Log.{log_of}
use Rattle.sg_log.specs.Names.{phases_of}
use Rattle.sg_log.specs.sg_turn.Told.{asking, entries_in, mark_by, standing_in}
use Rattle.sg_log.specs.sg_turn.declared.log.LogMarkKind.TheVariants.{Withdraw}
use Rattle.sg_shared.proofs.Keeping.{kept_withdrawn}
use Rattle.sg_shared.specs.Inside.Keeping.{KeepsPlayed}
use Rattle.sg_sim.specs.sg_world.Worlded.{Worlded, setting_of}
use Rattle.sg_sim.specs.sg_world_laws.Setting.{Setting}
use Rattle.sg_shared.proofs.world.PlayedWorldHost.withdraw.Goals as goal

pub invariant_of-self : goal.invariant_of-self
invariant_of-self g c =
    let n = c.self.inside.named in
    let w = n.world.view in
    let client = c.args.client in
    let z : Setting = setting_of g.S.Service.ask g.S.Service.sound g.S.Service.parts g.N.WorldNames.tables in
    let last : client ≤ length w.seats = subst (λ k. client ≤ k) (sym (n.seats ∙ n.count)) c.requires.last in
    subst (KeepsPlayed z g.N.Naming.script) (sym c.withdraw_call.ensures.view) (kept_withdrawn z g.N.Naming.script w c.self.invariant client c.requires.first last)

pub returns-clause-log : goal.returns-clause-log
returns-clause-log g c =
    subst (λ (y : Worlded). (call : Call) → standing_in c.args.client (log_of y.view) ≡ asking call
    → log_of c.withdraw_call.new.self.world.view ≡ log_of y.view ++ mark_by c.args.client (Withdraw call (phases_of y.view) (length (entries_in (log_of y.view)))) ∷ [])
    c.self.view_is c.withdraw_call.ensures.withdraws
